-- The law over runs: no viewer can tell the archive from a plain one that was made for the viewer's choice alone; and what the words of the law come to. Assumes nothing.
use Rattle.std.specs.Prelude.{◌≡◌, ℕ, ◌^◌, ◌<◌, ◌≤◌, Bool, true, List, [], ◌∷◌, ◌++◌, ℤ, Ok, Decides, Option, Result}
use Rattle.faults.specs.declared.Fault.{Fault}
use Rattle.labels.specs.declared.literals.Literal.{Literal}
use Rattle.queries.specs.declared.nodes.Node.{Node}
use Rattle.rows.specs.declared.cells.Cells.{Cells}
use Rattle.archive.specs.declared.changes.Change.{Change}
use Rattle.archive.specs.declared.changes.TableName.{TableName}
use Rattle.policies.specs.Passes.{resolved}
use Rattle.queries.specs.Arms.{Asked}
use Rattle.stores.specs.Tables.{Table, touches}
use Rattle.archive.specs.Askings.{seen}
use Rattle.archive.specs.Plain.{plain_rows, plain_answer, same_numbers, times}
use Rattle.archive.specs.Runs.{Tables, table_of, Asking, Event, adding, changing, asking, Step, Run, plain_calls, plain_archive, shown_rows, all_shown}

-- each row stands as often among the ones as among the others
abbrev pub AsOften : List Cells → List Cells → Type 0
AsOften rows others = (row : Cells) → times row rows ≡ times row others

-- the same of two lists of answers, matched in order
abbrev pub AllAsOften : List (List Cells) → List (List Cells) → Type 0
AllAsOften [] [] = Unit {0}
AllAsOften [] (b ∷ bs) = ⊥
AllAsOften (a ∷ more) [] = ⊥
AllAsOften (a ∷ more) (b ∷ bs) = AsOften a b × AllAsOften more bs

-- neither table has a row
abbrev pub NoRows : Tables → Type 0
NoRows tables = (tables.files.rows ≡ []) × (tables.readings.rows ≡ [])

-- the law; `known` is how many labels the guards of a run know
pub record Law : Type 0 where
  -- after each call, at every choice that a table keeps, it holds each row as often as the plain archive for that choice
  pub holds : (known : ℕ) (before after : Tables) (events : List Event) → known ≤ 64 → NoRows before → Run known before events after →
      (choice : ℕ) (table : TableName) → choice < 2 ^ 64 → (table_of table after).keeps choice ≡ true →
      AsOften (seen choice (table_of table after).rows) (plain_rows table (plain_archive choice events))
  -- an asking that is carried out shows each row as often as the plain archive for its choice answers, and that choice is what the policy gave for the viewer and day of its pass
  pub shows : (known : ℕ) (before after : Tables) (events later : List Event) (a : Asking) (shown : ℕ) → known ≤ 64 → NoRows before → Run known before (events ++ asking a (Ok shown) ∷ later) after →
      (resolved known a.says a.viewer a.day ≡ Ok a.choice) × AsOften (shown_rows a shown) (plain_answer (plain_archive a.choice events) a.query)
  -- where two runs come down to the same plain calls at a choice, their askings at it show, matched in order, each row as often
  pub alike : (known other : ℕ) (before after before' after' : Tables) (events events' : List Event) → known ≤ 64 → other ≤ 64 → NoRows before → NoRows before' → Run known before events after → Run other before' events' after' →
      (choice : ℕ) → plain_calls choice events ≡ plain_calls choice events' → AllAsOften (all_shown choice events) (all_shown choice events')

-- the words of the law mean what they should, and no call is without a step
pub record Meant : Type 0 where
  -- the test by which rows are counted passes exactly if the two rows are equal
  pub same_row : (a b : Cells) → Decides (same_numbers a.values b.values) (a ≡ b)
  -- a guard touches a table exactly if there is a choice that the table keeps and the guard admits
  pub touch : (table : Table) (guard : ℕ → Bool) → Decides (touches table guard) ((c : ℕ) × (c < 2 ^ 64) × (table.keeps c ≡ true) × (guard c ≡ true))
  -- whatever is added to whatever tables, there is a step
  pub adds : (known : ℕ) (before : Tables) (table : TableName) (path : List Literal) (cells : Cells) → (outcome : Option Fault) × (after : Tables) × Step known before (adding table path cells outcome) after
  -- whatever is set or cut, there is a step
  pub changes : (known : ℕ) (before : Tables) (table : TableName) (path : List Literal) (test : List Node) (change : Change) →
      (outcome : Option Fault) × (after : Tables) × Step known before (changing table path test change outcome) after
  -- whatever is asked with a pass that the policy gave, there is a step
  pub asks : (known : ℕ) (before : Tables) (says : ℕ → ℕ → ℕ → Bool) (viewer day : ℤ) (choice : ℕ) (query : List Asked) (answer : Table) (sheet : List Cells) → resolved known says viewer day ≡ Ok choice →
      (answer_after : Table) × (sheet_after : List Cells) × (outcome : Result ℕ Fault) × (after : Tables)
      × Step known before (asking (record { says = says; viewer = viewer; day = day; choice = choice; query = query; answer = answer; answer_after = answer_after; sheet = sheet; sheet_after = sheet_after }) outcome) after
