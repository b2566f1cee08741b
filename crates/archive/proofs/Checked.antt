-- The checks of a statement, one after the other. Assumes nothing.
use Rattle.std.proofs.Common.{◌≡◌, ℕ, ◌+◌, ◌<◌, ◌≤◌, Bool, true, false, cond, leb, List, [], ◌∷◌, ◌++◌, map, length, Some, None, Ok, Err, Option, Result, sym, refl, ap, ◌∙◌, subst, arith}
use Rattle.std.proofs.lemmas.List.{append-nil, length-append, map-append}
use Rattle.std.specs.List.Sorted.{IsPermutation}
use Rattle.std.proofs.lemmas.List.Sorted.{IsPermutation-refl}
use Rattle.std.proofs.lemmas.Bool.{le-leb, leb-true}
use Rattle.faults.specs.declared.Fault.{Fault}
use Rattle.faults.specs.declared.Refusal.TheVariants.{TableFull}
use Rattle.labels.specs.declared.literals.Literal.{Literal}
use Rattle.rows.specs.declared.cells.Cells.{Cells}
use Rattle.faults.specs.Faults.{fault, answered, first_told}
use Rattle.labels.specs.Paths.{path_guard}
use Rattle.queries.specs.Tests.{test_fault}
use Rattle.stores.specs.Changes.{Add, Appended, SameMaking}
use Rattle.stores.specs.Tables.{Facet, Table, Bounded, count, touches}
use Rattle.archive.specs.Rules.{NowHolds, add_fault, added_rows, at_kept, change_fault, columns_fault, path_fault, rewritten_rows, room_fault}
use Rattle.archive.specs.Turns.{Given, ruled, view}
use Rattle.archive.proofs.Front.{same_making}
use Rattle.archive.proofs.Views.{view_appended}

pub never_err : {f : Fault} → ◌≡◌ {A = Result (Unit {0}) Fault} (Ok tt) (Err f) → ⊥
never_err is = let z : ◌≡◌ {A = ℕ} 0 1 = cc in omega arith

-- where nothing is told of several checks, nothing is told of the last
last_told : (first rest : Option Fault) → Ok tt ≡ answered (first_told first rest) → Ok tt ≡ answered rest
last_told None rest told = told
last_told (Some f) rest told = absurd (never_err told)

-- rows for which no want of room is told fit
room_fits : (table : Table) (place : ℕ) (rows : List (Facet Cells)) → Ok tt ≡ answered (room_fault table place rows) → length rows ≤ table.capacity
room_fits table place rows told = go (leb (length rows) table.capacity) refl
  where
    go : (b : Bool) → leb (length rows) table.capacity ≡ b → length rows ≤ table.capacity
    go true small = leb-true (length rows) table.capacity small
    go false large = absurd (never_err (told ∙ ap (λ b. answered (cond b None (Some (fault TableFull place)))) large))

-- where nothing is told of a set or a cut, its rows fit
pub rows_fit : (place : ℕ) (table : Table) (given : Given) → Ok tt ≡ answered (ruled (change_fault place table) given) → length (ruled (rewritten_rows table) given) ≤ table.capacity
rows_fit place table given fine =
    let room = room_fault table place (ruled (rewritten_rows table) given) in
    let columns = columns_fault given.test given.change in
    let path = path_fault given.known given.path in
    room_fits table place (ruled (rewritten_rows table) given)
    (last_told columns room (last_told path (first_told columns room) (last_told (test_fault given.test) (first_told path (first_told columns room)) fine)))

-- adding a row
module _ (before after : Table) (known : ℕ) (path : List Literal) (cells : Cells) where
  abbrev row : Facet Cells
  row = record { guard = path_guard known path; held = cells }

  -- a row that does not touch the table needs no room
  pub apart_rows : touches before (path_guard known path) ≡ false → added_rows before known path cells ≡ before.rows
  apart_rows apart = ap (λ b. before.rows ++ cond b (row ∷ []) []) apart ∙ append-nil before.rows

  pub touching_rows : touches before (path_guard known path) ≡ true → added_rows before known path cells ≡ before.rows ++ row ∷ []
  touching_rows touch = ap (λ b. before.rows ++ cond b (row ∷ []) []) touch

  add_fits : (place : ℕ) → length (added_rows before known path cells) ≤ before.capacity → Ok tt ≡ answered (room_fault before place (added_rows before known path cells))
  add_fits place fits = sym (ap (λ b. answered (cond b None (Some (fault TableFull place)))) (le-leb (length (added_rows before known path cells)) before.capacity fits))

  -- how many rows there are then
  rows_then : (b : Bool) → touches before (path_guard known path) ≡ b → length (added_rows before known path cells) ≡ count before + cond b 1 0
  rows_then true touch = ap length (touching_rows touch) ∙ length-append before.rows (row ∷ [])
  rows_then false apart = ap length (apart_rows apart) ∙ omega arith

  -- a table that is not full has room, and a full one for a row that does not touch it
  pub fits_unless_full : (place : ℕ) → count before < before.capacity → Ok tt ≡ answered (room_fault before place (added_rows before known path cells))
  fits_unless_full place room = go (touches before (path_guard known path)) refl
    where
      go : (b : Bool) → touches before (path_guard known path) ≡ b → Ok tt ≡ answered (room_fault before place (added_rows before known path cells))
      go true is = add_fits place (omega (arith, rows_then true is))
      go false is = add_fits place (omega (arith, rows_then false is))

  pub fits_apart : (place : ℕ) → Bounded before → touches before (path_guard known path) ≡ false → Ok tt ≡ answered (room_fault before place (added_rows before known path cells))
  fits_apart place bound apart = add_fits place (omega (arith, rows_then false apart, bound.rows))

  -- where nothing is told, a row that touches the table has room
  pub room_told : (place : ℕ) → Ok tt ≡ answered (add_fault place before known path cells) → touches before (path_guard known path) ≡ true → count before < before.capacity
  room_told place fine touch =
      omega (arith, rows_then true touch, room_fits before place (added_rows before known path cells) (last_told (path_fault known path) (room_fault before place (added_rows before known path cells)) fine))

  -- the table holds the rule's rows: a row that does not touch it changes nothing
  pub ignored_holds : after ≡ before → touches before (path_guard known path) ≡ false → NowHolds before after (added_rows before known path cells)
  ignored_holds same apart =
      record {
        making = subst (SameMaking before) (sym same) (same_making before);
        holds = subst (λ rows. IsPermutation (map (at_kept before.keeps) rows) (map (at_kept before.keeps) after.rows)) (ap (λ t. t.rows) same ∙ sym (apart_rows apart)) (IsPermutation-refl (map (at_kept before.keeps) after.rows));
      }

  -- and one that touches it stands behind the others
  pub appended_holds : touches before (path_guard known path) ≡ true → Appended before after row → NowHolds before after (added_rows before known path cells)
  appended_holds touch done =
      let seen : map (at_kept before.keeps) (added_rows before known path cells) ≡ view before.keeps after =
      ap (map (at_kept before.keeps)) (touching_rows touch) ∙ map-append (at_kept before.keeps) before.rows (row ∷ []) ∙ sym (view_appended before after row done) in
      record { making = done.making; holds = subst (IsPermutation (map (at_kept before.keeps) (added_rows before known path cells))) seen (IsPermutation-refl (map (at_kept before.keeps) (added_rows before known path cells))) }

  -- a row that is added where it touches the table only if there is room
  module _ {Same : Type 0} {told : Result (Unit {0}) Fault} (given : Facet Cells) (same_row : given ≡ row) (unchanged : Same → after ≡ before) (change : Add Same before after given told) where
    added_change : Add Same before after row told
    added_change = subst (λ f. Add Same before after f told) same_row change

    pub added_holds : (touches before (path_guard known path) ≡ true → count before < before.capacity) → NowHolds before after (added_rows before known path cells)
    added_holds room = go (touches before (path_guard known path)) refl
      where
        go : (b : Bool) → touches before (path_guard known path) ≡ b → NowHolds before after (added_rows before known path cells)
        go true touch = appended_holds touch (added_change.added touch (room touch)).1
        go false apart = ignored_holds (unchanged (added_change.ignored apart).1) apart
