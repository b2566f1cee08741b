-- What the changes of a store do to its table. `Same` says that the store as a whole is as it was. Assumes nothing.
use Rattle.std.specs.Prelude.{◌≡◌, ℕ, suc, ◌<◌, ◌≤◌, Bool, true, false, [], ◌∷◌, ◌++◌, take, drop, Ok, Err, Result, slice_set}
use Rattle.std.specs.List.Sorted.{IsPermutation}
use Rattle.faults.specs.declared.Fault.{Fault}
use Rattle.faults.specs.declared.Refusal.TheVariants.{TableFull, PlaceOutOfRange}
use Rattle.rows.specs.declared.cells.Cells.{Cells}
use Rattle.faults.specs.Faults.{fault}
use Rattle.stores.specs.Tables.{Facet, Table, count, touches, row_at}

-- the stored row has the cells of the one given, and its guard differs at most at choices that are not kept
pub record StandsFor (keeps : ℕ → Bool) (stored given : Facet Cells) : Type 0 where
  pub held : stored.held ≡ given.held
  pub admits : (choice : ℕ) → keeps choice ≡ true → stored.guard choice ≡ given.guard choice

-- the table keeps the choices that it kept, and takes as many rows as it took
pub record SameMaking (before after : Table) : Type 0 where
  pub keeps : after.keeps ≡ before.keeps
  pub capacity : after.capacity ≡ before.capacity

-- the row takes the place behind the last one, and the others stay
pub record Appended (before after : Table) (given : Facet Cells) : Type 0 where
  pub making : SameMaking before after
  pub rows : after.rows ≡ before.rows ++ row_at after (count before) ∷ []
  pub stored : StandsFor before.keeps (row_at after (count before)) given

-- the row takes the place of another, and the others stay
pub record Replaced (before after : Table) (place : ℕ) (given : Facet Cells) : Type 0 where
  pub making : SameMaking before after
  pub rows : after.rows ≡ slice_set before.rows place (row_at after place)
  pub stored : StandsFor before.keeps (row_at after place) given

-- the row is gone: those at lower places keep theirs, and those above are left in some order
pub record Removed (before after : Table) (place : ℕ) : Type 0 where
  pub making : SameMaking before after
  pub lower : take place after.rows ≡ take place before.rows
  pub above : IsPermutation (drop (suc place) before.rows) (drop place after.rows)

-- adding a row: one that does not touch the table is accepted and nothing happens, else a full table refuses it, else it is appended
pub record Add (Same : Type 0) (before after : Table) (given : Facet Cells) (answer : Result (Unit {0}) Fault) : Type 0 where
  pub ignored : touches before given.guard ≡ false → (answer ≡ Ok tt) × Same
  pub full : touches before given.guard ≡ true → before.capacity ≤ count before → (answer ≡ Err (fault TableFull 0)) × Same
  pub added : touches before given.guard ≡ true → count before < before.capacity → (answer ≡ Ok tt) × Appended before after given

-- putting a row at a place: without a row there it is refused, one that touches the table replaces the row there, and one that does not removes it
pub record Put (Same : Type 0) (before after : Table) (place : ℕ) (given : Facet Cells) (answer : Result (Unit {0}) Fault) : Type 0 where
  pub outside : count before ≤ place → (answer ≡ Err (fault PlaceOutOfRange place)) × Same
  pub replaced : place < count before → touches before given.guard ≡ true → (answer ≡ Ok tt) × Replaced before after place given
  pub removed : place < count before → touches before given.guard ≡ false → (answer ≡ Ok tt) × Removed before after place

-- removing the row at a place: without a row there it is refused
pub record Remove (Same : Type 0) (before after : Table) (place : ℕ) (answer : Result (Unit {0}) Fault) : Type 0 where
  pub outside : count before ≤ place → (answer ≡ Err (fault PlaceOutOfRange place)) × Same
  pub removed : place < count before → (answer ≡ Ok tt) × Removed before after place
