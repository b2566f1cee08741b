-- What a pruned store means. Assumes nothing.
use Rattle.labels.specs.declared.kinds.Guard as Guard
use Rattle.stores.specs.declared.pruned.Pruned.{Pruned}
use Rattle.stores.specs.declared.tables.Store as Store
use Rattle.stores.specs.Pruned.{pruned_table}
use Rattle.stores.specs.Tables.{Table}

-- a pruned store means what the store below means, pruned by the guard
abbrev pub pruning_table : {S G : Type 0} (store : Store.Ghosts S G) (kind : Guard.Ghosts G) → Pruned S G store kind → Table
pruning_table store kind pruned = pruned_table (store.table pruned.below) (kind.admitted pruned.guard)
