-- The plain archive: two lists of plain rows, with no guard anywhere. Assumes nothing.
use Rattle.std.specs.Prelude.{ℕ, Bool, true, false, cond, ◌&&◌, List, [], ◌∷◌, ◌++◌, map, ℤ, count_by}
use Rattle.std.specs.List.{flat_map}
use Rattle.queries.specs.declared.arms.Source.{Source}
use Rattle.queries.specs.declared.arms.Source.TheVariants.{Files, Readings, Joined}
use Rattle.queries.specs.declared.nodes.Node.{Node}
use Rattle.rows.specs.declared.cells.Cells.{Cells}
use Rattle.archive.specs.declared.changes.Change.{Change}
use Rattle.archive.specs.declared.changes.TableName.{TableName}
use Rattle.archive.specs.declared.changes.TableName.TheVariants as named
use Rattle.queries.specs.Arms.{Asked, shown_cells}
use Rattle.queries.specs.Tests.{passes}
use Rattle.rows.specs.Cells.{cell}
use Rattle.std.specs.Ordering.{int_eq}
use Rattle.archive.specs.Rules.{changed}

-- a plain archive
pub record Plain : Type 0 where
  pub files : List Cells
  pub readings : List Cells

-- the plain archive with no row
abbrev pub empty_plain : Plain
empty_plain = record { files = []; readings = [] }

-- the rows of one table
abbrev pub plain_rows : TableName → Plain → List Cells
plain_rows named.Files plain = plain.files
plain_rows named.Readings plain = plain.readings

-- other rows in one table
abbrev pub with_plain_rows : TableName → List Cells → Plain → Plain
with_plain_rows named.Files rows plain = record { files = rows; readings = plain.readings }
with_plain_rows named.Readings rows plain = record { files = plain.files; readings = rows }

-- a call on a plain archive: a row to add, a change of the rows that pass a test, or a query
pub data PlainCall : Type 0 where
  plain_add : TableName → Cells → PlainCall
  plain_change : TableName → List Node → Change → PlainCall
  plain_ask : List Asked → PlainCall

-- the rows after a change: those that pass are changed, the others stay
abbrev pub plain_changed : List Node → Change → List Cells → List Cells
plain_changed test change rows = flat_map (λ cells. cond (passes test cells.values) (changed change cells) (cells ∷ [])) rows

-- the plain archive after a call
abbrev pub carried_out : PlainCall → Plain → Plain
carried_out (plain_add table cells) plain = with_plain_rows table (plain_rows table plain ++ cells ∷ []) plain
carried_out (plain_change table test change) plain = with_plain_rows table (plain_changed test change (plain_rows table plain)) plain
carried_out (plain_ask arms) plain = plain

-- the plain archive after several calls
abbrev pub after_calls : Plain → List PlainCall → Plain
after_calls plain [] = plain
after_calls plain (call ∷ calls) = after_calls (carried_out call plain) calls

-- a file with a reading, where the two columns are equal
abbrev pub plain_pair : ℕ → ℕ → Cells → Cells → List (List ℤ)
plain_pair f r file reading = cond (int_eq (cell f file) (cell r reading)) ((file.values ++ reading.values) ∷ []) []

-- the rows of a source, by their numbers
abbrev pub plain_source : Plain → Source → List (List ℤ)
plain_source plain Files = map (λ cells. cells.values) plain.files
plain_source plain Readings = map (λ cells. cells.values) plain.readings
plain_source plain (Joined f r) = flat_map (λ file. flat_map (plain_pair f r file) plain.readings) plain.files

-- what an arm shows
abbrev pub plain_arm : Plain → Asked → List Cells
plain_arm plain arm = flat_map (λ cells. cond (passes arm.test cells) (shown_cells arm.shown cells ∷ []) []) (plain_source plain arm.source)

-- what a query answers: the shown rows of all of its arms
abbrev pub plain_answer : Plain → List Asked → List Cells
plain_answer plain arms = flat_map (plain_arm plain) arms

-- the answers to the queries among several calls, in order
abbrev pub plain_answers : Plain → List PlainCall → List (List Cells)
plain_answers plain [] = []
plain_answers plain (plain_add table cells ∷ calls) = plain_answers (carried_out (plain_add table cells) plain) calls
plain_answers plain (plain_change table test change ∷ calls) = plain_answers (carried_out (plain_change table test change) plain) calls
plain_answers plain (plain_ask arms ∷ calls) = plain_answer plain arms ∷ plain_answers plain calls

-- the numbers are the same, one by one
abbrev pub same_numbers : List ℤ → List ℤ → Bool
same_numbers [] [] = true
same_numbers [] (b ∷ bs) = false
same_numbers (a ∷ more) [] = false
same_numbers (a ∷ more) (b ∷ bs) = int_eq a b && same_numbers more bs

-- how often a row stands among others
abbrev pub times : Cells → List Cells → ℕ
times row rows = count_by (λ other. same_numbers row.values other.values) rows
