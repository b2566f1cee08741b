-- The rule of ask: which rows a query answers with, which of them a choice is shown, and when it is refused. Assumes nothing.
use Rattle.std.specs.Prelude.{ℕ, cond, List, [], ◌∷◌, ◌++◌, map, length, ℤ, filter, Option, nat_le}
use Rattle.std.specs.List.{flat_map}
use Rattle.faults.specs.declared.Fault.{Fault}
use Rattle.faults.specs.declared.Refusal.TheVariants.{ChoiceNotKept, AnswerFull, SheetFull}
use Rattle.queries.specs.declared.arms.Source.{Source}
use Rattle.queries.specs.declared.arms.Source.TheVariants.{Files, Readings, Joined}
use Rattle.rows.specs.declared.cells.Cells.{Cells}
use Rattle.labels.specs.Guards.{meet}
use Rattle.queries.specs.Arms.{Asked, shown_cells, query_fault}
use Rattle.faults.specs.Faults.{unless, first_told}
use Rattle.queries.specs.Tests.{passes}
use Rattle.rows.specs.Cells.{cell}
use Rattle.std.specs.Ordering.{int_eq}
use Rattle.stores.specs.Tables.{Facet, Table}
use Rattle.archive.specs.Rules.{touching}

-- what the facets hold for a choice
abbrev pub seen : {X : Type 0} → ℕ → List (Facet X) → List X
seen choice facets = map (λ facet. facet.held) (filter (λ facet. facet.guard choice) facets)

-- a row by its numbers
abbrev pub spread : Facet Cells → Facet (List ℤ)
spread row = record { guard = row.guard; held = row.held.values }

-- a file row with a reading row, where the two columns are equal: the guards are met, and the file's numbers come first
abbrev pub pair : ℕ → ℕ → Facet Cells → Facet Cells → List (Facet (List ℤ))
pair f r file reading =
    cond (int_eq (cell f file.held) (cell r reading.held)) (record { guard = meet file.guard reading.guard; held = file.held.values ++ reading.held.values } ∷ []) []

-- the rows of a source
abbrev pub source_rows : List (Facet Cells) → List (Facet Cells) → Source → List (Facet (List ℤ))
source_rows files readings Files = map spread files
source_rows files readings Readings = map spread readings
source_rows files readings (Joined f r) = flat_map (λ file. flat_map (pair f r file) readings) files

-- what an arm shows of a row: the shown cells if the row passes, else nothing
abbrev pub arm_row : Asked → Facet (List ℤ) → List (Facet Cells)
arm_row arm row = cond (passes arm.test row.held) (record { guard = row.guard; held = shown_cells arm.shown row.held } ∷ []) []

-- the rows of an arm
abbrev pub arm_rows : List (Facet Cells) → List (Facet Cells) → Asked → List (Facet Cells)
arm_rows files readings arm = flat_map (arm_row arm) (source_rows files readings arm.source)

-- the rows of a query: those of all of its arms
abbrev pub query_rows : List (Facet Cells) → List (Facet Cells) → List Asked → List (Facet Cells)
query_rows files readings arms = flat_map (arm_rows files readings) arms

-- the first of the tables that does not keep the choice
abbrev pub kept_fault : Table → Table → Table → ℕ → Option Fault
kept_fault files readings answer choice =
    first_told (unless (files.keeps choice) ChoiceNotKept 0) (first_told (unless (readings.keeps choice) ChoiceNotKept 1) (unless (answer.keeps choice) ChoiceNotKept 2))

-- why an asking is refused: the query, a table that does not keep the choice, too many rows for the answer table, or too many to show for a sheet of this length
abbrev pub ask_fault : Table → Table → Table → ℕ → ℕ → List Asked → Option Fault
ask_fault files readings answer sheet choice arms =
    first_told (query_fault arms)
    (first_told (kept_fault files readings answer choice)
    (first_told (unless (nat_le (length (touching answer (query_rows files.rows readings.rows arms))) answer.capacity) AnswerFull 2)
    (unless (nat_le (length (seen choice (query_rows files.rows readings.rows arms))) sheet) SheetFull 3)))
