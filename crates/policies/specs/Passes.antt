-- Resolving: the choice that a policy gives a viewer on a day. Assumes nothing.
use Rattle.std.specs.Prelude.{◌≡◌, ℕ, Bool, ◌&&◌, ℤ, Ok, Result, nat_lt}
use Rattle.faults.specs.declared.Fault.{Fault}
use Rattle.words.specs.Bits.{has, word_of}
use Rattle.policies.specs.Ranges.{viewer_number, day_number, then}

-- the choice of exactly those of the first `known` labels for which the policy says yes
abbrev pub choice_for : ℕ → (ℕ → ℕ → ℕ → Bool) → ℕ → ℕ → ℕ
choice_for known says viewer day = word_of known (λ label. says viewer label day)

-- what resolving gives: the viewer is checked first, then the day
abbrev pub resolved : ℕ → (ℕ → ℕ → ℕ → Bool) → ℤ → ℤ → Result ℕ Fault
resolved known says viewer day = then (viewer_number viewer) (λ v. then (day_number day) (λ d. Ok (choice_for known says v d)))

-- the choice holds exactly those labels of the kind for which the policy says yes
abbrev pub HoldsWhatIsAllowed : ℕ → (ℕ → ℕ → ℕ → Bool) → ℕ → ℕ → ℕ → Type 0
HoldsWhatIsAllowed known says viewer day choice = (label : ℕ) → has choice label ≡ (nat_lt label known && says viewer label day)
