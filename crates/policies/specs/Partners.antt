-- The partner policy: listed pairs of viewer and label. Assumes nothing.
use Rattle.std.specs.Prelude.{ℕ, Bool, cond, ◌&&◌, List, [], ◌∷◌, ◌++◌, length, ℤ, Ok, Err, Result, ◌==◌, nat_lt}
use Rattle.std.specs.List.{list_any}
use Rattle.faults.specs.declared.Fault.{Fault}
use Rattle.faults.specs.declared.Refusal.TheVariants.{PartnersFull}
use Rattle.faults.specs.Faults.{fault}
use Rattle.policies.specs.declared.partners.Pair.{Pair}
use Rattle.policies.specs.Ranges.{viewer_number, policy_label, then}

-- a viewer with a label
abbrev pub pair : ℕ → ℕ → Pair
pair viewer label = record { viewer = viewer; label = label }

-- the two are of one viewer and one label
abbrev pub same_pair : Pair → Pair → Bool
same_pair p q = p.viewer == q.viewer && p.label == q.label

-- yes exactly for the listed pairs, on every day
abbrev pub listed : List Pair → Pair → Bool
listed ps p = list_any (λ q. same_pair q p) ps

-- the list with one pair more: a pair that is listed changes nothing, and a new one needs room
abbrev pub with_checked_pair : List Pair → Pair → Result (List Pair) Fault
with_checked_pair ps p = cond (listed ps p) (Ok ps) (cond (nat_lt (length ps) 256) (Ok (ps ++ p ∷ [])) (Err (fault PartnersFull 256)))

-- the viewer is checked first, then the label, then the room
abbrev pub with_pair : List Pair → ℤ → ℤ → Result (List Pair) Fault
with_pair ps viewer label = then (viewer_number viewer) (λ v. then (policy_label label) (λ l. with_checked_pair ps (pair v l)))
