-- Bags: lists that differ at most in the order of their elements, and what is made from them. Assumes nothing.
use Rattle.std.proofs.Common.{◌≡◌, ℕ, ◌+◌, Bool, true, false, cond, List, [], ◌∷◌, ◌++◌, map, sum_by, filter, sym, refl, ap, ◌∙◌}
use mathlib.Core.Path.{fun_ext}
use Rattle.std.specs.List.Sorted.{IsPermutation}
use Rattle.std.specs.List.{flat_map}
use Rattle.std.proofs.lemmas.List.Concat.{flat_map_single}
use Rattle.std.proofs.lemmas.List.Sorted.{sum_by-IsPermutation}
use Rattle.std.proofs.lemmas.List.Sums.{sum_by-cons, sum_by-append}
use Rattle.std.proofs.lemmas.Bool.{cond-false}

-- the lists are the same bag: whatever weight the elements are given, it sums to the same over both
pub record SameBag {X : Type 0} (xs ys : List X) : Type 0 where
  pub sums : (weight : X → ℕ) → sum_by weight xs ≡ sum_by weight ys

module _ {X : Type 0} where
  pub bag_equal : {xs ys : List X} → xs ≡ ys → SameBag xs ys
  bag_equal same = record { sums = λ weight. ap (sum_by weight) same }

  pub bag_sym : {xs ys : List X} → SameBag xs ys → SameBag ys xs
  bag_sym bag = record { sums = λ weight. sym (bag.sums weight) }

  pub bag_trans : {xs ys zs : List X} → SameBag xs ys → SameBag ys zs → SameBag xs zs
  bag_trans one two = record { sums = λ weight. one.sums weight ∙ two.sums weight }

  pub bag_shuffled : {xs ys : List X} → IsPermutation xs ys → SameBag xs ys
  bag_shuffled {xs} {ys} moved = record { sums = λ weight. sym (sum_by-IsPermutation weight xs ys moved) }

  pub bag_append : {xs ys : List X} (zs : List X) → SameBag xs ys → SameBag (xs ++ zs) (ys ++ zs)
  bag_append {xs} {ys} zs bag =
      record { sums = λ weight. sum_by-append weight xs zs ∙ ap (◌+ sum_by weight zs) (bag.sums weight) ∙ sym (sum_by-append weight ys zs) }

  pub bag_if : (b : Bool) {xs ys others more : List X} → SameBag xs ys → SameBag others more → SameBag (cond b xs others) (cond b ys more)
  bag_if true bag other = bag
  bag_if false bag other = other

module _ {X Y : Type 0} where
  -- the weight of joined lists is the sum of their weights
  sum_by_joined : (weight : Y → ℕ) (f : X → List Y) (xs : List X) → sum_by weight (flat_map f xs) ≡ sum_by (λ x. sum_by weight (f x)) xs
  sum_by_joined weight f [] = refl
  sum_by_joined weight f (x ∷ xs) =
      sum_by-append weight (f x) (flat_map f xs)
      ∙ ap (sum_by weight (f x) +◌) (sum_by_joined weight f xs)
      ∙ sym (sum_by-cons (λ y. sum_by weight (f y)) x xs)

  pub bag_joined : (f : X → List Y) {xs ys : List X} → SameBag xs ys → SameBag (flat_map f xs) (flat_map f ys)
  bag_joined f {xs} {ys} bag =
      record { sums = λ weight. sum_by_joined weight f xs ∙ bag.sums (λ x. sum_by weight (f x)) ∙ sym (sum_by_joined weight f ys) }

  -- joined lists are the same bag where each of them is
  pub bag_joined_each : (f g : X → List Y) → ((x : X) → SameBag (f x) (g x)) → (xs : List X) → SameBag (flat_map f xs) (flat_map g xs)
  bag_joined_each f g each xs =
      record { sums = λ weight. sum_by_joined weight f xs ∙ ap (λ h. sum_by h xs) (fun_ext (λ x. (each x).sums weight)) ∙ sym (sum_by_joined weight g xs) }

  pub bag_map : (f : X → Y) {xs ys : List X} → SameBag xs ys → SameBag (map f xs) (map f ys)
  bag_map f {xs} {ys} bag = bag_trans (bag_equal (sym (flat_map_single f xs))) (bag_trans (bag_joined (λ x. f x ∷ []) bag) (bag_equal (flat_map_single f ys)))

  joined_none : (xs : List X) → flat_map {A = Y} (λ x. []) xs ≡ []
  joined_none [] = refl
  joined_none (x ∷ xs) = joined_none xs

  -- a test that does not look at the elements can be made once
  pub joined_if : (b : Bool) (f : X → List Y) (xs : List X) → flat_map (λ x. cond b (f x) []) xs ≡ cond b (flat_map f xs) []
  joined_if true f xs = refl
  joined_if false f xs = joined_none xs

module _ {X : Type 0} where
  -- a filter joins lists of one and lists of none
  kept_joined : (p : X → Bool) (xs : List X) → filter p xs ≡ flat_map (λ x. cond (p x) (x ∷ []) []) xs
  kept_joined p [] = refl
  kept_joined p (x ∷ xs) = here (p x) (kept_joined p xs)
    where
      here : (b : Bool) {kept others : List X} → kept ≡ others → cond b (x ∷ kept) kept ≡ cond b (x ∷ []) [] ++ others
      here true same = ap (x ∷◌) same
      here false same = same

  pub bag_kept_by : (p : X → Bool) {xs ys : List X} → SameBag xs ys → SameBag (filter p xs) (filter p ys)
  bag_kept_by p {xs} {ys} bag = bag_trans (bag_equal (kept_joined p xs)) (bag_trans (bag_joined _ bag) (bag_equal (sym (kept_joined p ys))))

  -- a filter q makes no difference to a later filter p that refuses whatever q refuses
  pub kept_by_kept : (p q : X → Bool) → ((x : X) → q x ≡ false → p x ≡ false) → (xs : List X) → filter p (filter q xs) ≡ filter p xs
  kept_by_kept p q refused [] = refl
  kept_by_kept p q refused (x ∷ xs) = here (q x) refl (kept_by_kept p q refused xs)
    where
      here : (b : Bool) → q x ≡ b → filter p (filter q xs) ≡ filter p xs → filter p (cond b (x ∷ filter q xs) (filter q xs)) ≡ filter p (x ∷ xs)
      here true is same = ap (λ rest. cond (p x) (x ∷ rest) rest) same
      here false is same = same ∙ sym (cond-false (p x) _ _ (refused x is))
