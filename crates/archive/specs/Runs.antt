-- Runs: what each call on an archive does to it, and what it comes down to at a choice. Assumes nothing.
use Rattle.std.specs.Prelude.{◌≡◌, ℕ, Bool, cond, List, [], ◌∷◌, ◌++◌, length, take, drop, ℤ, Some, None, Ok, Err, Option, Result, ◌==◌}
use Rattle.std.specs.List.{flat_map}
use Rattle.faults.specs.declared.Fault.{Fault}
use Rattle.labels.specs.declared.literals.Literal.{Literal}
use Rattle.queries.specs.declared.nodes.Node.{Node}
use Rattle.rows.specs.declared.cells.Cells.{Cells}
use Rattle.archive.specs.declared.changes.Change.{Change}
use Rattle.archive.specs.declared.changes.TableName.{TableName}
use Rattle.archive.specs.declared.changes.TableName.TheVariants.{Files, Readings}
use Rattle.labels.specs.Paths.{path_holds}
use Rattle.policies.specs.Passes.{resolved}
use Rattle.queries.specs.Arms.{Asked}
use Rattle.stores.specs.Tables.{Facet, Table}
use Rattle.archive.specs.Askings.{ask_fault, query_rows, seen}
use Rattle.archive.specs.Plain.{Plain, PlainCall, plain_add, plain_change, plain_ask, empty_plain, after_calls}
use Rattle.archive.specs.Rules.{NowHolds, add_fault, added_rows, change_fault, rewritten_rows, touching}

-- the two tables of an archive
pub record Tables : Type 0 where
  pub files : Table
  pub readings : Table

-- one of the two
abbrev pub table_of : TableName → Tables → Table
table_of Files tables = tables.files
table_of Readings tables = tables.readings

-- the place by which a fault tells a table
abbrev pub place_of : TableName → ℕ
place_of Files = 0
place_of Readings = 1

-- what an asking is given, and what it leaves: the policy's answers, viewer and day that its pass was resolved for, the choice of the pass, the query, the answer table and the sheet
pub record Asking : Type 0 where
  pub says : ℕ → ℕ → ℕ → Bool
  pub viewer : ℤ
  pub day : ℤ
  pub choice : ℕ
  pub query : List Asked
  pub answer : Table
  pub answer_after : Table
  pub sheet : List Cells
  pub sheet_after : List Cells

-- a call with its outcome: nothing told where it was carried out, or the fault
pub data Event : Type 0 where
  adding : TableName → List Literal → Cells → Option Fault → Event
  changing : TableName → List Literal → List Node → Change → Option Fault → Event
  asking : Asking → Result ℕ Fault → Event

-- one table now holds these rows, and the other is as it was
abbrev pub Only : TableName → Tables → Tables → List (Facet Cells) → Type 0
Only Files before after rows = NowHolds before.files after.files rows × (after.readings ≡ before.readings)
Only Readings before after rows = NowHolds before.readings after.readings rows × (after.files ≡ before.files)

-- the rows that the query of an asking answers with
abbrev pub asked_rows : Tables → Asking → List (Facet Cells)
asked_rows tables asked = query_rows tables.files.rows tables.readings.rows asked.query

-- what the call does: the rule's rows where nothing is told, and nothing where the fault is
abbrev pub Step : ℕ → Tables → Event → Tables → Type 0
Step known before (adding table path cells None) after =
    (add_fault (place_of table) (table_of table before) known path cells ≡ None) × Only table before after (added_rows (table_of table before) known path cells)
Step known before (adding table path cells (Some told)) after = (add_fault (place_of table) (table_of table before) known path cells ≡ Some told) × (after ≡ before)
Step known before (changing table path test change None) after =
    (change_fault (place_of table) (table_of table before) known path test change ≡ None) × Only table before after (rewritten_rows (table_of table before) known path test change)
Step known before (changing table path test change (Some told)) after = (change_fault (place_of table) (table_of table before) known path test change ≡ Some told) × (after ≡ before)
Step known before (asking a (Ok shown)) after =
    (resolved known a.says a.viewer a.day ≡ Ok a.choice)
    × (ask_fault before.files before.readings a.answer (length a.sheet) a.choice a.query ≡ None)
    × (after ≡ before)
    × (shown ≡ length (seen a.choice (asked_rows before a)))
    × (a.sheet_after ≡ seen a.choice (asked_rows before a) ++ drop shown a.sheet)
    × NowHolds a.answer a.answer_after (touching a.answer (asked_rows before a))
Step known before (asking a (Err told)) after =
    (resolved known a.says a.viewer a.day ≡ Ok a.choice)
    × (ask_fault before.files before.readings a.answer (length a.sheet) a.choice a.query ≡ Some told)
    × (after ≡ before)
    × (a.sheet_after ≡ a.sheet)
    × (a.answer_after ≡ a.answer)

-- a run: its calls one after the other
abbrev pub Run : ℕ → Tables → List Event → Tables → Type 0
Run known before [] after = after ≡ before
Run known before (event ∷ events) after = (middle : Tables) × Step known before event middle × Run known middle events after

-- what a call comes down to at a choice: nothing where it was turned back, where its path fails or where its pass has another choice
abbrev pub comes_down : ℕ → Event → List PlainCall
comes_down choice (adding table path cells None) = cond (path_holds path choice) (plain_add table cells ∷ []) []
comes_down choice (adding table path cells (Some told)) = []
comes_down choice (changing table path test change None) = cond (path_holds path choice) (plain_change table test change ∷ []) []
comes_down choice (changing table path test change (Some told)) = []
comes_down choice (asking a (Ok shown)) = cond (a.choice == choice) (plain_ask a.query ∷ []) []
comes_down choice (asking a (Err told)) = []

-- the plain calls of a run at a choice
abbrev pub plain_calls : ℕ → List Event → List PlainCall
plain_calls choice events = flat_map (comes_down choice) events

-- the plain archive that a run makes for a choice
abbrev pub plain_archive : ℕ → List Event → Plain
plain_archive choice events = after_calls empty_plain (plain_calls choice events)

-- what an asking shows: the entries of the sheet from 0, as many as its answer
abbrev pub shown_rows : Asking → ℕ → List Cells
shown_rows a shown = take shown a.sheet_after

-- what a call shows at a choice
abbrev pub shows : ℕ → Event → List (List Cells)
shows choice (adding table path cells outcome) = []
shows choice (changing table path test change outcome) = []
shows choice (asking a (Ok shown)) = cond (a.choice == choice) (shown_rows a shown ∷ []) []
shows choice (asking a (Err told)) = []

-- what the askings of a run that were carried out at a choice show, in order
abbrev pub all_shown : ℕ → List Event → List (List Cells)
all_shown choice events = flat_map (shows choice) events
