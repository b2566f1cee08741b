-- What a list of rows means as a store. Assumes nothing.
use Rattle.std.specs.Prelude.{ℕ, Bool, map}
use Rattle.rows.specs.declared.cells.Row.{Row}
use Rattle.rows.specs.declared.lists.List.{List}
use Rattle.labels.specs.Guards.{everything}
use Rattle.rows.specs.Lists.{entries, most}
use Rattle.stores.specs.Tables.{Table, facet}

-- every choice is kept, and the rows are the entries of the list
abbrev pub listed_table : {G : Type 0} → (G → ℕ → Bool) → List (Row G) → Table
listed_table admitted rows = record { keeps = everything; capacity = most rows; rows = map (facet admitted) (entries rows) }
