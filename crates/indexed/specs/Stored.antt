-- What an indexed table means. Assumes nothing.
use Rattle.labels.specs.declared.kinds.Guard.{Ghosts}
use Rattle.stores.specs.Tables.{Table}
use Rattle.indexed.specs.declared.tables.store.Indexed.{Indexed}
use Rattle.indexed.specs.Tables.{rows_table}

-- an indexed table means what its rows do
abbrev pub indexed_table : {G : Type 0} (kind : Ghosts G) → Indexed G kind → Table
indexed_table kind table = rows_table kind.admitted table.rows
