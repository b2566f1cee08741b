-- The rules of add, set and cut: which rows they leave in a table, and when they are refused. Assumes nothing.
use Rattle.std.specs.Prelude.{ℕ, Bool, true, cond, ◌&&◌, List, [], ◌∷◌, ◌++◌, map, length, filter, Option, nat_le, nat_lt}
use Rattle.std.specs.List.Sorted.{IsPermutation}
use Rattle.std.specs.List.{flat_map}
use Rattle.faults.specs.declared.Fault.{Fault}
use Rattle.faults.specs.declared.Refusal.TheVariants.{UnknownColumn, UnknownLabel, TableFull}
use Rattle.labels.specs.declared.literals.Literal.{Literal}
use Rattle.queries.specs.declared.nodes.Node.{Node}
use Rattle.rows.specs.declared.cells.Cells.{Cells}
use Rattle.archive.specs.declared.changes.Change.{Change}
use Rattle.archive.specs.declared.changes.Change.TheVariants.{Set, Cut}
use Rattle.labels.specs.Guards.{literal_guard, meet}
use Rattle.labels.specs.Literals.{opposite}
use Rattle.labels.specs.Paths.{path_guard}
use Rattle.faults.specs.Faults.{unless, first_not, first_told}
use Rattle.queries.specs.Tests.{passes, columns_within, test_fault}
use Rattle.rows.specs.Cells.{width, with_cell}
use Rattle.stores.specs.Changes.{SameMaking}
use Rattle.stores.specs.Tables.{Facet, Table, touches}

-- what a change makes of the cells of a row: one row or none
abbrev pub changed : Change → Cells → List Cells
changed (Set column number) cells = with_cell column number cells ∷ []
changed Cut cells = []

-- the cells, each for the choices that the guard admits
abbrev pub under : (ℕ → Bool) → List Cells → List (Facet Cells)
under guard rows = map (λ cells. record { guard = guard; held = cells }) rows

-- the outside pieces of a guard: for each literal of the path, what meets those before it and its opposite
abbrev pub pieces : ℕ → List Literal → (ℕ → Bool) → List (ℕ → Bool)
pieces known [] guard = []
pieces known (literal ∷ path) guard = meet guard (literal_guard known (opposite literal)) ∷ pieces known path (meet guard (literal_guard known literal))

-- those of the rows that touch the table
abbrev pub touching : Table → List (Facet Cells) → List (Facet Cells)
touching table rows = filter (λ row. touches table row.guard) rows

-- the part of a row that lies inside the path
abbrev pub inside : ℕ → List Literal → Facet Cells → Facet Cells
inside known path row = record { guard = meet row.guard (path_guard known path); held = row.held }

-- the parts of a row that lie outside the path and touch the table
abbrev pub outside : Table → ℕ → List Literal → Facet Cells → List (Facet Cells)
outside table known path row = touching table (map (λ guard. record { guard = guard; held = row.held }) (pieces known path row.guard))

-- the row is changed: it passes the test, and the part inside the path touches the table
abbrev pub concerned : Table → ℕ → List Literal → List Node → Facet Cells → Bool
concerned table known path test row = passes test row.held.values && touches table (inside known path row).guard

-- what becomes of a row: where it is changed, the part inside the path is changed and the parts outside stay
abbrev pub rewritten : Table → ℕ → List Literal → List Node → Change → Facet Cells → List (Facet Cells)
rewritten table known path test change row =
    cond (concerned table known path test row) (under (inside known path row).guard (changed change row.held) ++ outside table known path row) (row ∷ [])

-- the rows that a set or a cut leaves
abbrev pub rewritten_rows : Table → ℕ → List Literal → List Node → Change → List (Facet Cells)
rewritten_rows table known path test change = flat_map (rewritten table known path test change) table.rows

-- the rows that an add leaves: the new one has the path's guard, and counts if it touches the table
abbrev pub added_rows : Table → ℕ → List Literal → Cells → List (Facet Cells)
added_rows table known path cells = table.rows ++ touching table (under (path_guard known path) (cells ∷ []))

-- the first literal of the path whose label is not known
abbrev pub path_fault : ℕ → List Literal → Option Fault
path_fault known path = first_not (λ literal. nat_lt literal.label known) UnknownLabel path

-- the rows do not fit the table
abbrev pub room_fault : Table → ℕ → List (Facet Cells) → Option Fault
room_fault table place rows = unless (nat_le (length rows) table.capacity) TableFull place

-- the column that is set exists
abbrev pub change_within : Change → Bool
change_within (Set column number) = nat_lt column width
change_within Cut = true

-- a column that is set or tested does not exist
abbrev pub columns_fault : List Node → Change → Option Fault
columns_fault test change = unless (change_within change && columns_within width test) UnknownColumn 0

-- why an add is refused; `place` tells which table it is
abbrev pub add_fault : ℕ → Table → ℕ → List Literal → Cells → Option Fault
add_fault place table known path cells = first_told (path_fault known path) (room_fault table place (added_rows table known path cells))

-- why a set or a cut is refused
abbrev pub change_fault : ℕ → Table → ℕ → List Literal → List Node → Change → Option Fault
change_fault place table known path test change =
    first_told (test_fault test)
    (first_told (path_fault known path)
    (first_told (columns_fault test change)
    (room_fault table place (rewritten_rows table known path test change))))

-- a row as it shows at the choices that are kept
abbrev pub at_kept : (ℕ → Bool) → Facet Cells → Facet Cells
at_kept keeps row = record { guard = meet keeps row.guard; held = row.held }

-- the table now has these rows, in some order, as they show at the choices that it keeps
pub record NowHolds (before after : Table) (rows : List (Facet Cells)) : Type 0 where
  pub making : SameMaking before after
  pub holds : IsPermutation (map (at_kept before.keeps) rows) (map (at_kept before.keeps) after.rows)
