-- Tests over lists, by the places of the elements. Assumes nothing.
use Rattle.std.proofs.Common.{◌≡◌, ℕ, suc, ◌<◌, Bool, true, false, List, [], ◌∷◌, length, get_or, refl, inl, inr, arith}
use Rattle.std.proofs.lemmas.Bool.{and_from, or_cases, or_from, false≢true}
use Rattle.std.specs.List.{list_all, list_any}

module _ {X : Type 0} (p : X → Bool) where
  -- a test that passes at each place passes at every element
  pub all_from : (xs : List X) → ((k : ℕ) (d : X) → k < length xs → p (get_or xs k d) ≡ true) → list_all p xs ≡ true
  all_from [] each = refl
  all_from (x ∷ xs) each = and_from (p x) (list_all p xs) (each 0 x (omega arith)) (all_from xs (λ k d within. each (suc k) d (omega arith)))

  -- a test that passes at some element passes at some place
  pub any_at : (xs : List X) → list_any p xs ≡ true → (k : ℕ) × (k < length xs) × ((d : X) → p (get_or xs k d) ≡ true)
  any_at [] e = absurd (false≢true e)
  any_at (x ∷ xs) e =
      elim (or_cases (p x) (list_any p xs) e) [
        | inl here ↦ (0, omega arith, λ d. here)
        | inr later ↦ let w = any_at xs later in (suc w.0, omega (arith, w.1), w.2)
      ]

  pub any_none : (xs : List X) (d : X) → ((k : ℕ) → k < length xs → p (get_or xs k d) ≡ false) → list_any p xs ≡ false
  any_none [] d each = refl
  any_none (x ∷ xs) d each = or_from (p x) (list_any p xs) (each 0 (omega arith)) (any_none xs d (λ k within. each (suc k) (omega arith)))
