-- What a store means: a table. Assumes nothing.
use Rattle.std.specs.Prelude.{◌≡◌, ℕ, zero, suc, ◌<◌, ◌≤◌, Bool, true, false, cond, ◌&&◌, List, [], length, ℤ, Some, None, Option, nat_le, slice_index_or}
use Rattle.rows.specs.declared.cells.Cells.{Cells}
use Rattle.rows.specs.declared.cells.Row.{Row}
use Rattle.labels.specs.Guards.{meet, nothing}
use Rattle.rows.specs.Cells.{zeros, cell_is}
use Rattle.words.specs.Bits.{some_choice}
use Rattle.std.specs.List.{list_all}

-- a facet: something, for the choices that its guard admits
pub record Facet (X : Type 0) : Type 0 where
  pub guard : ℕ → Bool
  pub held : X

-- a row as a facet, given what the guards of its kind admit
abbrev pub facet : {G : Type 0} → (G → ℕ → Bool) → Row G → Facet Cells
facet admitted row = record { guard = admitted row.guard; held = row.cells }

-- a table: the choices that it keeps, how many rows it takes at most, and its rows by place, with their guards as they are stored
pub record Table : Type 0 where
  pub keeps : ℕ → Bool
  pub capacity : ℕ
  pub rows : List (Facet Cells)

-- how many rows the table has
abbrev pub count : Table → ℕ
count table = length table.rows

-- a table with no row
abbrev pub empty_table : (ℕ → Bool) → ℕ → Table
empty_table keeps capacity = record { keeps = keeps; capacity = capacity; rows = [] }

-- no table takes more than 65,535 rows, and none has more than it takes
pub record Bounded (table : Table) : Type 0 where
  pub rows : count table ≤ table.capacity
  pub capacity : table.capacity ≤ 65535

-- a guard touches a table if it admits a choice that the table keeps
abbrev pub touches : Table → (ℕ → Bool) → Bool
touches table guard = some_choice (meet table.keeps guard)

-- each row's guard touches the table
abbrev pub AllTouch : Table → Type 0
AllTouch table = list_all (λ row. touches table row.guard) table.rows ≡ true

-- what stands at a place with no row: a guard that admits nothing, and zeros
abbrev pub no_row : Facet Cells
no_row = record { guard = nothing; held = zeros }

-- what stands at a place
abbrev pub row_at : Table → ℕ → Facet Cells
row_at table place = slice_index_or table.rows place no_row

-- the row at the place has the number in the column
abbrev pub has_number : Table → ℕ → ℤ → ℕ → Bool
has_number table column number place = cell_is column number (row_at table place).held

-- the first answer, or the second where there is none
abbrev pub or_else : Option ℕ → Option ℕ → Option ℕ
or_else (Some n) other = Some n
or_else None other = other

-- the lowest number below n at which the test passes
abbrev pub lowest_below : ℕ → (ℕ → Bool) → Option ℕ
lowest_below zero test = None
lowest_below (suc n) test = or_else (lowest_below n test) (cond (test n) (Some n) None)

-- the lowest place at or after `from` whose row has the number in the column
abbrev pub next_place : Table → ℕ → ℕ → ℤ → Option ℕ
next_place table from column number = lowest_below (count table) (λ place. nat_le from place && has_number table column number place)

-- the answer is the lowest place at or after `from` that passes, among the places below n
abbrev pub Lowest : ℕ → (ℕ → Bool) → ℕ → Option ℕ → Type 0
Lowest n test from None = (q : ℕ) → from ≤ q → q < n → test q ≡ false
Lowest n test from (Some p) = (from ≤ p) × (p < n) × (test p ≡ true) × ((q : ℕ) → from ≤ q → q < p → test q ≡ false)
