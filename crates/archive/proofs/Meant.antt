-- The row test is equality, a guard touches a table by a choice, and each call has a step. Assumes nothing.
use Rattle.std.proofs.Common.{◌≡◌, ℕ, ◌^◌, ◌<◌, Bool, true, ◌&&◌, List, [], ◌∷◌, ◌++◌, map, length, drop, ℤ, Some, None, Ok, Err, Decides, Option, Result, refl, ap, ap₂}
use Rattle.std.proofs.lemmas.List.Sorted.{IsPermutation-refl}
use Rattle.std.proofs.lemmas.Bool.{and_from, and_parts, false≢true}
use Rattle.std.proofs.lemmas.Bool.Decides.{Decides-like, Decides-and, Decides-int_eq}
use Rattle.faults.specs.declared.Fault.{Fault}
use Rattle.labels.specs.declared.literals.Literal.{Literal}
use Rattle.queries.specs.declared.nodes.Node.{Node}
use Rattle.rows.specs.declared.cells.Cells.{Cells}
use Rattle.archive.specs.declared.changes.Change.{Change}
use Rattle.archive.specs.declared.changes.TableName.{TableName}
use Rattle.archive.specs.declared.changes.TableName.TheVariants.{Files, Readings}
use Rattle.labels.specs.Guards.{meet}
use Rattle.policies.specs.Passes.{resolved}
use Rattle.queries.specs.Arms.{Asked}
use Rattle.std.specs.Ordering.{int_eq}
use Rattle.stores.specs.Tables.{Facet, Table, touches}
use Rattle.words.proofs.Searched.{some_choice_one}
use Rattle.archive.specs.Askings.{ask_fault, query_rows, seen}
use Rattle.archive.specs.Law.{Meant}
use Rattle.archive.specs.Plain.{same_numbers}
use Rattle.archive.specs.Rules.{NowHolds, at_kept, add_fault, added_rows, change_fault, rewritten_rows, touching}
use Rattle.archive.specs.Runs.{Tables, table_of, place_of, Asking, adding, changing, asking, Only, Step}

-- the test of two lists of numbers is equality
same_numbers_is : (xs ys : List ℤ) → Decides (same_numbers xs ys) (xs ≡ ys)
same_numbers_is [] [] = (λ _. refl, λ _. refl)
same_numbers_is [] (y ∷ ys) = (λ f. absurd (false≢true f), λ e. cc)
same_numbers_is (x ∷ xs) [] = (λ f. absurd (false≢true f), λ e. cc)
same_numbers_is (x ∷ xs) (y ∷ ys) =
    Decides-like (int_eq x y && same_numbers xs ys) (λ both. ap₂ ◌∷◌ both.0 both.1) (λ e. (cc, cc)) (Decides-and (int_eq x y) (same_numbers xs ys) (Decides-int_eq x y) (same_numbers_is xs ys))

-- the test of two rows is equality
row_test_is : (a b : Cells) → Decides (same_numbers a.values b.values) (a ≡ b)
row_test_is a b =
    Decides-like (same_numbers a.values b.values) (λ e i. record { values = e i }) (ap (λ cells. cells.values)) (same_numbers_is a.values b.values)

-- a guard touches a table by a choice
touches_is : (table : Table) (guard : ℕ → Bool) → Decides (touches table guard) ((c : ℕ) × (c < 2 ^ 64) × (table.keeps c ≡ true) × (guard c ≡ true))
touches_is table guard =
    Decides-like (touches table guard)
    (λ (c, small, both). let parts = and_parts (table.keeps c) (guard c) both in (c, small, parts.0, parts.1))
    (λ (c, small, kept, admits). (c, small, and_from (table.keeps c) (guard c) kept admits))
    (some_choice_one (meet table.keeps guard))

-- the table with other rows
abbrev with_rows : Table → List (Facet Cells) → Table
with_rows table rows = record { keeps = table.keeps; capacity = table.capacity; rows = rows }

-- it holds them
with_rows_holds : (table : Table) (rows : List (Facet Cells)) → NowHolds table (with_rows table rows) rows
with_rows_holds table rows = record { making = record { keeps = refl; capacity = refl }; holds = IsPermutation-refl (map (at_kept table.keeps) rows) }

-- the tables with other rows in one
abbrev now_with : TableName → List (Facet Cells) → Tables → Tables
now_with Files rows tables = record { files = with_rows tables.files rows; readings = tables.readings }
now_with Readings rows tables = record { files = tables.files; readings = with_rows tables.readings rows }

only_with : (table : TableName) (rows : List (Facet Cells)) (before : Tables) → Only table before (now_with table rows before) rows
only_with Files rows before = (with_rows_holds before.files rows, refl)
only_with Readings rows before = (with_rows_holds before.readings rows, refl)

-- each call has a step: its outcome is what is told, and where nothing is told the rule's own rows are left
module _ (known : ℕ) (before : Tables) where
  module _ (table : TableName) (path : List Literal) where
    adding_steps : (cells : Cells) → (outcome : Option Fault) × (after : Tables) × Step known before (adding table path cells outcome) after
    adding_steps cells = go (add_fault (place_of table) (table_of table before) known path cells) refl
      where
        go : (told : Option Fault) → add_fault (place_of table) (table_of table before) known path cells ≡ told → (outcome : Option Fault) × (after : Tables) × Step known before (adding table path cells outcome) after
        go None is =
            let rows = added_rows (table_of table before) known path cells in
            (None, now_with table rows before, (is, only_with table rows before))
        go (Some told) is = (Some told, before, (is, refl))

    changing_steps : (test : List Node) (change : Change) → (outcome : Option Fault) × (after : Tables) × Step known before (changing table path test change outcome) after
    changing_steps test change = go (change_fault (place_of table) (table_of table before) known path test change) refl
      where
        go : (told : Option Fault) → change_fault (place_of table) (table_of table before) known path test change ≡ told →
            (outcome : Option Fault) × (after : Tables) × Step known before (changing table path test change outcome) after
        go None is =
            let rows = rewritten_rows (table_of table before) known path test change in
            (None, now_with table rows before, (is, only_with table rows before))
        go (Some told) is = (Some told, before, (is, refl))

  module _ (says : ℕ → ℕ → ℕ → Bool) (viewer day : ℤ) (choice : ℕ) (query : List Asked) (answer : Table) (sheet : List Cells) (pass : resolved known says viewer day ≡ Ok choice) where
    abbrev asked : Table → List Cells → Asking
    asked answer_after sheet_after =
        record {
          says = says;
          viewer = viewer;
          day = day;
          choice = choice;
          query = query;
          answer = answer;
          answer_after = answer_after;
          sheet = sheet;
          sheet_after = sheet_after;
        }

    asking_steps : (answer_after : Table) × (sheet_after : List Cells) × (outcome : Result ℕ Fault) × (after : Tables) × Step known before (asking (asked answer_after sheet_after) outcome) after
    asking_steps = go (ask_fault before.files before.readings answer (length sheet) choice query) refl
      where
        go : (told : Option Fault) → ask_fault before.files before.readings answer (length sheet) choice query ≡ told →
            (answer_after : Table) × (sheet_after : List Cells) × (outcome : Result ℕ Fault) × (after : Tables) × Step known before (asking (asked answer_after sheet_after) outcome) after
        go None is =
            let rows = query_rows before.files.rows before.readings.rows query in
            let shown = seen choice rows in
            (with_rows answer (touching answer rows), shown ++ drop (length shown) sheet, Ok (length shown), before, (pass, is, refl, refl, refl, with_rows_holds answer (touching answer rows)))
        go (Some told) is = (answer, sheet, Err told, before, (pass, is, refl, refl, refl))

pub meant : Meant
meant = record { same_row = row_test_is; touch = touches_is; adds = adding_steps; changes = changing_steps; asks = asking_steps }
