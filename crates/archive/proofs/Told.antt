-- What holds where nothing is told: known labels, kept choices, and passes below 2^64. Assumes nothing.
use Rattle.std.proofs.Common.{◌≡◌, ℕ, ◌+◌, ◌^◌, ◌<◌, ◌≤◌, Bool, true, false, cond, not, ◌&&◌, ltb, List, [], ◌∷◌, length, ℤ, Some, None, Ok, Err, Option, Result, refl, ap, subst, lt_of_lt_of_le, arith, pow_mono}
use Rattle.std.specs.List.{position_or_len, list_all}
use Rattle.std.specs.Option.{option_map}
use Rattle.std.proofs.lemmas.Bool.{and_from, ltb-false}
use Rattle.faults.specs.declared.Fault.{Fault}
use Rattle.faults.specs.declared.Refusal.TheVariants.{UnknownLabel, ChoiceNotKept}
use Rattle.labels.specs.declared.literals.Literal.{Literal}
use Rattle.faults.specs.Faults.{fault, first_told, unless}
use Rattle.labels.specs.Paths.{all_known}
use Rattle.policies.specs.Passes.{resolved, choice_for}
use Rattle.policies.specs.Ranges.{viewer_number, day_number, then}
use Rattle.stores.specs.Tables.{Table}
use Rattle.words.proofs.Digits.{word_of_small}
use Rattle.archive.specs.Askings.{kept_fault}
use Rattle.archive.specs.Rules.{path_fault}

-- neither of two has told something
pub both_silent : (a b : Option Fault) → first_told a b ≡ None → (a ≡ None) × (b ≡ None)
both_silent None b none = (refl, none)
both_silent (Some told) b none = let z : ◌≡◌ {A = ℕ} 0 1 = cc in absurd (omega arith)

-- a test that would have been told of has passed
passed : (ok : Bool) (later : Option Fault) (told : Fault) → cond ok later (Some told) ≡ None → (ok ≡ true) × (later ≡ None)
passed true later told none = (refl, none)
passed false later told none = let z : ◌≡◌ {A = ℕ} 0 1 = cc in absurd (omega arith)

-- where none is the first that does not pass, all pass
none_fails : {X : Type 0} (ok : X → Bool) (xs : List X) → length xs ≤ position_or_len (λ x. not (ok x)) xs → list_all ok xs ≡ true
none_fails ok [] past = refl
none_fails ok (x ∷ xs) past = here (ok x) refl (none_fails ok xs)
  where
    rest : ℕ
    rest = position_or_len (λ y. not (ok y)) xs

    here : (b : Bool) → ok x ≡ b → (length xs ≤ rest → list_all ok xs ≡ true) → (ok x && list_all ok xs) ≡ true
    here true is later = and_from (ok x) (list_all ok xs) is (later (omega (arith, ap (λ b. cond (not (not b)) (1 + rest) 0) is)))
    here false is later = absurd (omega (arith, ap (λ b. cond (not (not b)) (1 + rest) 0) is))

-- a path with nothing wrong has known labels
pub known_path : (known : ℕ) (path : List Literal) → path_fault known path ≡ None → all_known known path ≡ true
known_path known path none = none_fails ok path (past (ltb n (length path)) refl none)
  where
    ok : Literal → Bool
    ok l = ltb l.label known

    n : ℕ
    n = position_or_len (λ l. not (ok l)) path

    past : (b : Bool) → ltb n (length path) ≡ b → option_map (fault UnknownLabel) (cond b (Some n) None) ≡ None → length path ≤ n
    past true is told = let z : ◌≡◌ {A = ℕ} 0 1 = cc in absurd (omega arith)
    past false is told = ltb-false n (length path) is

-- where no table refuses the choice, the two that are asked keep it
pub both_keep : (files readings answer : Table) (c : ℕ) → kept_fault files readings answer c ≡ None → (files.keeps c ≡ true) × (readings.keeps c ≡ true)
both_keep files readings answer c none =
    let one = both_silent (unless (files.keeps c) ChoiceNotKept 0) _ none in
    let two = both_silent (unless (readings.keeps c) ChoiceNotKept 1) (unless (answer.keeps c) ChoiceNotKept 2) one.1 in
    ((passed (files.keeps c) None (fault ChoiceNotKept 0) one.0).0, (passed (readings.keeps c) None (fault ChoiceNotKept 1) two.0).0)

-- the choice of a pass has no label from 64 up
pub pass_small : (known : ℕ) (says : ℕ → ℕ → ℕ → Bool) (viewer day : ℤ) (choice : ℕ) → known ≤ 64 → resolved known says viewer day ≡ Ok choice → choice < 2 ^ 64
pass_small known says viewer day choice limit = given (viewer_number viewer) (day_number day)
  where
    given : (v d : Result ℕ Fault) → then v (λ m. then d (λ n. Ok (choice_for known says m n))) ≡ Ok choice → choice < 2 ^ 64
    given (Ok m) (Ok n) told =
        let same : choice_for known says m n ≡ choice = cc in
        subst (λ k. k < 2 ^ 64) same (lt_of_lt_of_le (word_of_small known (λ label. says m label n)) (pow_mono limit))
    given (Ok m) (Err f) told = let z : ◌≡◌ {A = ℕ} 0 1 = cc in absurd (omega arith)
    given (Err f) d told = let z : ◌≡◌ {A = ℕ} 0 1 = cc in absurd (omega arith)
