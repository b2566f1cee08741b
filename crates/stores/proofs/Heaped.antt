-- Heaps are known by their lists. Assumes nothing.
use Rattle.std.proofs.Common.{◌≡◌}
use mathlib.Core.Bool.{Bool-set}
use mathlib.Core.HLevel.{is_prop→PathP}
use Rattle.labels.specs.declared.kinds.Guard.{Ghosts}
use Rattle.stores.specs.declared.heaps.Heap.{Heap}
use Rattle.stores.specs.Listed.{listed_table}
use Rattle.stores.specs.Tables.{AllTouch}

-- a heap whose list is as it was is as it was
pub same_heap : {G : Type 0} (kind : Ghosts G) (before after : Heap G kind) → after.rows ≡ before.rows → after ≡ before
same_heap kind before after same =
    λ i. record { rows = same i; touching = is_prop→PathP (λ j. AllTouch (listed_table kind.admitted (same j))) (λ j. Bool-set _ _) after.touching before.touching i }
