-- What a heap means. Assumes nothing.
use Rattle.labels.specs.declared.kinds.Guard.{Ghosts}
use Rattle.stores.specs.declared.heaps.Heap.{Heap}
use Rattle.stores.specs.Listed.{listed_table}
use Rattle.stores.specs.Tables.{Table}

-- a heap means what its list of rows does
abbrev pub heap_table : {G : Type 0} (kind : Ghosts G) → Heap G kind → Table
heap_table kind heap = listed_table kind.admitted heap.rows
