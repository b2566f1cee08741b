-- A reading with two facets: the tool's value for those with a label, a null for the others. Assumes nothing.
use Rattle.std.specs.Prelude.{ℕ, Bool, cond, List, ◌++◌, ℤ, negsuc, Ok, codes, Result, nat_lt}
use Rattle.std.specs.Fmt.{signed_decimal}
use Rattle.faults.specs.declared.Fault.{Fault}
use Rattle.policies.specs.Ranges.{viewer_number, day_number, then}
use Rattle.readings.specs.declared.Reading.{Reading}
use Rattle.readings.specs.declared.Shown.{Shown}
use Rattle.readings.specs.declared.Shown.TheVariants.{Measured, StandIn, Nothing}

-- the value of a reading that was not taken: -999.25 in thousandths
abbrev pub null : ℤ
null = negsuc 999249

-- a shown facet in words
abbrev pub shown_text : Shown → List ℕ
shown_text (Measured value) = codes "the tool's value " ++ signed_decimal value
shown_text (StandIn value) = codes "the stand-in " ++ signed_decimal value
shown_text Nothing = codes "nothing"

-- what a choice is shown of a reading, by the choices that each guard admits: the first facet whose guard admits it
abbrev pub shown_at : {G : Type 0} → (G → ℕ → Bool) → Reading G → ℕ → Shown
shown_at admitted reading choice = cond (admitted reading.measured.guard choice) (Measured reading.measured.value) (cond (admitted reading.stand_in.guard choice) (StandIn reading.stand_in.value) Nothing)

-- what a viewer is shown of a confidential reading on a day: the tool's value if the policy says yes to the label, and the null
-- if not; nothing, where the label is not known
abbrev pub confidential_for : ℕ → (ℕ → ℕ → ℕ → Bool) → ℕ → ℤ → ℕ → ℕ → Shown
confidential_for known says label value viewer day = cond (nat_lt label known) (cond (says viewer label day) (Measured value) (StandIn null)) Nothing

-- the same for a viewer and a day that are checked first
abbrev pub confidential_shown : ℕ → (ℕ → ℕ → ℕ → Bool) → ℕ → ℤ → ℤ → ℤ → Result Shown Fault
confidential_shown known says label value viewer day = then (viewer_number viewer) (λ v. then (day_number day) (λ d. Ok (confidential_for known says label value v d)))
