-- The numbers in the first column of a table, by place. Assumes nothing.
use Rattle.std.specs.Prelude.{ℕ, Bool, ◌&&◌, List, map, length, ℤ, pos, nat_lt, slice_index_or}
use Rattle.rows.specs.declared.cells.Row.{Row}
use Rattle.std.specs.Ordering.{int_eq}
use Rattle.rows.specs.Cells.{cell}

-- the number in column 0 of each row
abbrev pub first_numbers : {G : Type 0} → List (Row G) → List ℤ
first_numbers rows = map (λ row. cell 0 row.cells) rows

-- the number stands at the place
abbrev pub stands : List ℤ → ℤ → ℕ → Bool
stands numbers number place = nat_lt place (length numbers) && int_eq (slice_index_or numbers place (pos 0)) number
