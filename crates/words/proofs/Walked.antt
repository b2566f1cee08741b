-- Walks along a list that test each element. Assumes nothing.
use Rattle.std.proofs.Common.{◌≡◌, ℕ, ◌<◌, Bool, true, ◌&&◌, List, length, get_or, take, drop, set, sym, refl, ap, ◌∙◌, take-append-drop}
use Rattle.std.specs.List.Sorted.{IsPermutation}
use Rattle.std.proofs.lemmas.List.Folds.{list_all-append}
use Rattle.std.proofs.lemmas.List.Sorted.{All-permutation}
use Rattle.std.proofs.lemmas.List.Recursion.{and_at, and_set}
use Rattle.std.proofs.lemmas.List.Sums.{AllPass-from_list_all, list_all-from_AllPass}
use Rattle.std.proofs.lemmas.Bool.{and_from, and_parts}
use Rattle.std.specs.List.{list_all}

module _ {X : Type 0} (p : X → Bool) where
  -- a test that passes at every element does so in another order
  pub all_in_any_order : (xs ys : List X) → IsPermutation xs ys → list_all p xs ≡ true → list_all p ys ≡ true
  all_in_any_order xs ys moved passes = list_all-from_AllPass p ys (All-permutation (λ x. p x ≡ true) xs ys moved (AllPass-from_list_all p xs passes))

  -- before a place and from it on
  pub all_around : (xs : List X) (n : ℕ) → list_all p xs ≡ (list_all p (take n xs) && list_all p (drop n xs))
  all_around xs n = ap (list_all p) (sym (take-append-drop n xs)) ∙ list_all-append p (take n xs) (drop n xs)

  pub all_parts : (xs : List X) (n : ℕ) → list_all p xs ≡ true → (list_all p (take n xs) ≡ true) × (list_all p (drop n xs) ≡ true)
  all_parts xs n passes = and_parts (list_all p (take n xs)) (list_all p (drop n xs)) (sym (all_around xs n) ∙ passes)

  pub all_from_parts : (xs : List X) (n : ℕ) → list_all p (take n xs) ≡ true → list_all p (drop n xs) ≡ true → list_all p xs ≡ true
  all_from_parts xs n front back = all_around xs n ∙ and_from (list_all p (take n xs)) (list_all p (drop n xs)) front back

  pub all_set : (xs : List X) (i : ℕ) (y : X) → i < length xs → list_all p xs ≡ true → p y ≡ true → list_all p (set xs i y) ≡ true
  all_set xs i y within passes here = and_set (list_all p) p refl (λ _ _. refl) xs i y here passes

  module _ (xs : List X) (i : ℕ) (d : X) (within : i < length xs) where
    -- it passes at a place
    pub all_at : list_all p xs ≡ true → p (get_or xs i d) ≡ true
    all_at = and_at (list_all p) p refl (λ _ _. refl) xs i d within
