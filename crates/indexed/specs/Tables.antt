-- What the rows of an indexed table mean as a store. Assumes nothing.
use Rattle.std.specs.Prelude.{ℕ, ◌-◌, Bool, List, map, length, take, vec_items, slice_index_or, slice_set}
use Rattle.labels.specs.Guards.{everything}
use Rattle.rows.specs.declared.cells.Cells.{Cells}
use Rattle.stores.specs.Tables.{Facet, Table, facet, no_row}
use Rattle.indexed.specs.declared.tables.IndexedRows.{IndexedRows}

-- every choice is kept, and the rows are those of the list
abbrev pub rows_table : {G : Type 0} → (G → ℕ → Bool) → IndexedRows G → Table
rows_table admitted table = record { keeps = everything; capacity = table.capacity; rows = map (facet admitted) (vec_items table.rows) }

-- the table, with these rows in place of its own
abbrev pub with_rows : Table → List (Facet Cells) → Table
with_rows table rows = record { keeps = table.keeps; capacity = table.capacity; rows = rows }

-- the rows when the last one has moved to the place, in place of the one there
abbrev pub moved_last : List (Facet Cells) → ℕ → List (Facet Cells)
moved_last rows place = take (length rows - 1) (slice_set rows place (slice_index_or rows (length rows - 1) no_row))
