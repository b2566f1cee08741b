-- Cells: the numbers of a row, by column. Assumes nothing.
use Rattle.std.specs.Prelude.{ℕ, Bool, ◌&&◌, replicate, ℤ, pos, nat_lt, slice_index_or, slice_set}
use Rattle.std.specs.Ordering.{int_eq}
use Rattle.rows.specs.declared.cells.Cells.{Cells}

-- how many cells a row has
abbrev pub width : ℕ
width = 6

-- the cells that are all 0
abbrev pub zeros : Cells
zeros = record { values = replicate width (pos 0) }

-- the number in a column
abbrev pub cell : ℕ → Cells → ℤ
cell column cells = slice_index_or cells.values column (pos 0)

-- the cell in the column is this number; past the last column there is no cell
abbrev pub cell_is : ℕ → ℤ → Cells → Bool
cell_is column number cells = nat_lt column width && int_eq (cell column cells) number

-- the cells with another number in one column; past the last column there is nothing to change
abbrev pub with_cell : ℕ → ℤ → Cells → Cells
with_cell column number cells = record { values = slice_set cells.values column number }
