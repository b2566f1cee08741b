-- The numbers that policies take, and what is told of others. Assumes nothing.
use Rattle.std.specs.Prelude.{◌≡◌, ℕ, Bool, cond, ◌&&◌, ℤ, pos, negsuc, Ok, Err, Result, MatchResult, int_le}
use Rattle.faults.specs.declared.Fault.{Fault}
use Rattle.faults.specs.declared.Refusal.{Refusal}
use Rattle.faults.specs.declared.Refusal.TheVariants.{UnknownLabel, ViewerOutOfRange, DayOutOfRange}
use Rattle.faults.specs.Faults.{fault}

-- a number as a natural; a negative one becomes 0, and is refused before that counts
abbrev pub natural : ℤ → ℕ
natural (pos n) = n
natural (negsuc n) = 0

-- from low to high, both included
abbrev pub between : ℕ → ℕ → ℤ → Bool
between low high n = int_le (pos low) n && int_le n (pos high)

-- a number of the range, or the refusal that is told of the others, at place 0
abbrev pub in_range : ℕ → ℕ → Refusal → ℤ → Result ℕ Fault
in_range low high refusal n = cond (between low high n) (Ok (natural n)) (Err (fault refusal 0))

-- a viewer is 1 to 9,999
abbrev pub viewer_number : ℤ → Result ℕ Fault
viewer_number = in_range 1 9999 ViewerOutOfRange

-- a day is 0 to 99,999, counted from 1 January 1970
abbrev pub day_number : ℤ → Result ℕ Fault
day_number = in_range 0 99999 DayOutOfRange

-- a release day may also be 100,000: never
abbrev pub release_day_number : ℤ → Result ℕ Fault
release_day_number = in_range 0 100000 DayOutOfRange

-- a policy speaks of the labels 0 to 63
abbrev pub policy_label : ℤ → Result ℕ Fault
policy_label = in_range 0 63 UnknownLabel

-- goes on with the value, or keeps the fault
abbrev pub then : {A B : Type 0} → Result A Fault → (A → Result B Fault) → Result B Fault
then (Ok a) next = next a
then (Err f) next = Err f

-- the outcome is the one that the rule states: a value that is read as the rule's, or the rule's fault
abbrev pub Gives : {A B : Type 0} → Result A Fault → (B → A) → Result B Fault → Type 0
Gives rule read outcome = MatchResult outcome (λ value. rule ≡ Ok (read value)) (λ f. rule ≡ Err f)

-- the outcome of a change is the one that the rule states: the new value is the rule's, or the rule's fault is told and nothing changed
abbrev pub Becomes : {A : Type 0} → Result A Fault → A → A → Result (Unit {0}) Fault → Type 0
Becomes rule old new outcome = MatchResult outcome (λ _. rule ≡ Ok new) (λ f. (rule ≡ Err f) × (new ≡ old))
