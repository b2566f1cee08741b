-- The release policy: a release day for each label. Assumes nothing.
use Rattle.std.specs.Prelude.{ℕ, Bool, List, ℤ, Some, None, Ok, Result, nat_le, unwrap_or, slice_index_or, slice_set}
use Rattle.faults.specs.declared.Fault.{Fault}
use Rattle.policies.specs.declared.releases.LabelRecord.{LabelRecord}
use Rattle.policies.specs.Ranges.{release_day_number, policy_label, then}

-- the release day of a label that was never set: later than every day
abbrev pub never : ℕ
never = 100000

-- the record of a label that was never set
abbrev pub unset : LabelRecord
unset = record { day = None }

-- the record of a label whose day was set
abbrev pub set_on : ℕ → LabelRecord
set_on day = record { day = Some day }

-- the release day that a record gives
abbrev pub day_of : LabelRecord → ℕ
day_of r = unwrap_or r.day never

-- a label's release day
abbrev pub release_day : List LabelRecord → ℕ → ℕ
release_day records label = day_of (slice_index_or records label unset)

-- yes exactly from the label's release day on, for every viewer
abbrev pub released : List LabelRecord → ℕ → ℕ → Bool
released records label day = nat_le (release_day records label) day

-- the records after a label's day was set; the day is checked first, then the label
abbrev pub with_day : List LabelRecord → ℤ → ℤ → Result (List LabelRecord) Fault
with_day records label day = then (release_day_number day) (λ d. then (policy_label label) (λ l. Ok (slice_set records l (set_on d))))
