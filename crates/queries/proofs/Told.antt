-- The first element that does not pass, as a walk along the list meets it. Assumes nothing.
use Rattle.std.proofs.Common.{◌≡◌, ℕ, ◌+◌, ◌<◌, ◌≤◌, Bool, true, false, cond, not, ltb, List, [], ◌∷◌, map, length, get_or, Some, None, Ok, Err, Result, refl, sym, ap, ap₂, ◌∙◌, arith}
use Rattle.std.specs.List.{position_or_len, prefix_len}
use Rattle.std.specs.Option.{option_map}
use Rattle.std.proofs.lemmas.Bool.{cond-true, cond-false, lt-ltb, le-ltb}
use Rattle.std.proofs.lemmas.List.{length-map}
use Rattle.std.proofs.lemmas.List.Sums.{position_or_len_is}
use Rattle.faults.specs.declared.Fault.{Fault}
use Rattle.faults.specs.declared.Refusal.{Refusal}
use Rattle.faults.specs.Faults.{fault, answered, first_not}
use Rattle.queries.specs.declared.arms.Arm.{Arm}
use Rattle.queries.specs.Arms.{Asked, arm_of}

module _ {X : Type 0} (ok : X → Bool) (refusal : Refusal) where
  -- the elements before a place pass, and the one there does not
  pub first_fails : (xs : List X) (i : ℕ) (x : X) (f : Fault) → i < length xs → ((d : X) (k : ℕ) → k < i → true ≡ ok (get_or xs k d)) → x ≡ get_or xs i x → false ≡ ok x → f ≡ fault refusal i → Err f ≡ answered (first_not ok refusal xs)
  first_fails xs i x f within before here fails is =
      let found : position_or_len (λ y. not (ok y)) xs ≡ i = position_or_len_is (λ y. not (ok y)) xs i x (omega arith) (λ k h. ap not (sym (before x k h))) (λ h. ap (λ y. not (ok y)) (sym here) ∙ ap not (sym fails)) in
      ap Err is
      ∙ ap (λ place. answered (option_map (fault refusal) place)) (
      sym (cond-true (ltb i (length xs)) (Some i) None (lt-ltb i (length xs) within))
      ∙ ap (λ n. cond (ltb n (length xs)) (Some n) None) (sym found)
      )

  -- every element passes
  pub all_pass : (xs : List X) (i : ℕ) → length xs ≤ i → ((d : X) (k : ℕ) → k < i → true ≡ ok (get_or xs k d)) → Ok tt ≡ answered (first_not ok refusal xs)
  all_pass [] i past before = refl
  all_pass (x ∷ xs) i past before =
      let n : ℕ = length (x ∷ xs) in
      let found : position_or_len (λ y. not (ok y)) (x ∷ xs) ≡ n = position_or_len_is (λ y. not (ok y)) (x ∷ xs) n x (omega arith) (λ k h. ap not (sym (before x k (omega arith)))) (λ h. absurd (omega arith)) in
      ap (λ place. answered (option_map (fault refusal) place)) (
      sym (cond-false (ltb n n) (Some n) None (le-ltb n n (omega arith)))
      ∙ ap (λ m. cond (ltb m n) (Some m) None) (sym found)
      )

-- a test of what is asked of each element
module _ {X Y : Type 0} (f : X → Y) where
  prefix_len-map : (p : Y → Bool) (xs : List X) → prefix_len p (map f xs) ≡ prefix_len (λ x. p (f x)) xs
  prefix_len-map p [] = refl
  prefix_len-map p (x ∷ xs) = ap (λ n. cond (p (f x)) (1 + n) 0) (prefix_len-map p xs)

  pub first_not-map : (ok : Y → Bool) (refusal : Refusal) (xs : List X) → first_not (λ x. ok (f x)) refusal xs ≡ first_not ok refusal (map f xs)
  first_not-map ok refusal xs =
      ap₂ (λ m n. option_map (fault refusal) (cond (ltb m n) (Some m) None)) (sym (prefix_len-map (λ y. not (not (ok y))) xs)) (sym (length-map xs f))

-- what the arms are told, by what they ask
pub told_of_arms : (ok : Asked → Bool) (refusal : Refusal) (arms : List Arm) (result : Result (Unit {0}) Fault) → result ≡ answered (first_not (λ arm. ok (arm_of arm)) refusal arms) → result ≡ answered (first_not ok refusal (map arm_of arms))
told_of_arms ok refusal arms result told = told ∙ ap answered (first_not-map arm_of ok refusal arms)
