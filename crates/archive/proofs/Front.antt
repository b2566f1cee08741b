-- Rows gathered at the front of a table, and the rows behind them taken out. Assumes nothing.
use Rattle.std.proofs.Common.{◌≡◌, ℕ, ◌+◌, ◌-◌, ◌<◌, ◌≤◌, Bool, true, false, List, [], ◌∷◌, length, get_or, take, set, Result, sym, refl, ap, ◌∙◌, subst, arith}
use Rattle.std.proofs.lemmas.List.Filters.{FiltersInPlace, FiltersInPlace-more_no, FiltersInPlace-more_set}
use Rattle.std.proofs.lemmas.List.{set-get_or, length-map}
use Rattle.faults.specs.declared.Fault.{Fault}
use Rattle.rows.specs.declared.cells.Cells.{Cells}
use Rattle.stores.specs.Changes.{SameMaking, Put, Remove}
use Rattle.stores.specs.Tables.{Facet, Table, count, row_at, no_row, AllTouch}
use Rattle.stores.proofs.Touching.{row_touching}
use Rattle.archive.specs.Rules.{at_kept, rewritten}
use Rattle.archive.specs.Turns.{Given, ruled, view, shown, parts, some_left, is_left, Shows, Shortened}
use Rattle.archive.proofs.Parts.{parts_alike, same_rewritten}
use Rattle.archive.proofs.Views.{view_at, view_length, view_replaced, view_shortened, kept_twice}

-- a table is of its own making
pub same_making : (table : Table) → SameMaking table table
same_making table = record { keeps = refl; capacity = refl }

pub making_on : (a b c : Table) → SameMaking a b → SameMaking b c → SameMaking a c
making_on a b c first second = record { keeps = second.keeps ∙ first.keeps; capacity = second.capacity ∙ first.capacity }

-- a row that is put at a lower place shows there
pub moved : {Same : Type 0} (before after : Table) {answer : Result (Unit {0}) Fault} (place free : ℕ) (row : Facet Cells) → Put Same before after free row answer → AllTouch before → free < place → place < count before → row ≡ row_at before place → Shows before after (set (shown before) free (at_kept before.keeps row))
moved before after place free row change each lower within same =
    let done = (change.replaced (omega arith) (row_touching before place row same each within)).1 in
    record { making = done.making; seen = view_replaced before after free row done }

-- a row that stands there already
pub unmoved : (table : Table) (place free : ℕ) (row : Facet Cells) → place ≤ free → free ≤ place → place < count table → row ≡ row_at table place → Shows table table (set (shown table) free (at_kept table.keeps row))
unmoved table place free row above below within same =
    let here : free ≡ place = omega arith in
    record {
      making = same_making table;
      seen =
          sym (set-get_or (view table.keeps table) free no_row)
          ∙ ap (set (view table.keeps table) free) (ap (λ p. get_or (view table.keeps table) p no_row) here ∙ sym (view_at table.keeps table place row no_row same within));
    }

-- the last row is taken out
pub shortened_last : {Same : Type 0} (before after : Table) {answer : Result (Unit {0}) Fault} (n : ℕ) → n ≡ count before → 0 < n → Remove Same before after (n - 1) answer → Shortened before after (count before - 1)
shortened_last before after n counted some change =
    let done = (change.removed (omega arith)).1 in
    record { making = done.making; front = view_shortened before after (n - 1) (omega arith) done ∙ ap (λ k. take (k - 1) (view before.keeps before)) counted }

-- something is left of a row exactly if its parts are counted
module _ (table now : Table) (given : Given) (row : Facet Cells) (n : ℕ) (kept : now.keeps ≡ table.keeps) (counted : n ≡ length (ruled (rewritten now) given row)) where
  long : length (parts table given (at_kept table.keeps row)) ≡ n
  long =
      ap length (parts_alike table given (at_kept table.keeps row) row (kept_twice table.keeps row))
      ∙ length-map (ruled (rewritten table) given row) (at_kept table.keeps)
      ∙ sym (counted ∙ ap (λ f. length (f row)) (same_rewritten table now given kept))

  pub left_counted : 0 < n → is_left table given (at_kept table.keeps row) ≡ true
  left_counted some = go (parts table given (at_kept table.keeps row)) (omega (arith, long))
    where
      go : (xs : List (Facet Cells)) → 0 < length xs → some_left xs ≡ true
      go [] none = absurd (omega arith)
      go (x ∷ xs) more = refl

  pub none_counted : n ≤ 0 → is_left table given (at_kept table.keeps row) ≡ false
  none_counted none = go (parts table given (at_kept table.keeps row)) (omega (arith, long))
    where
      go : (xs : List (Facet Cells)) → length xs ≤ 0 → some_left xs ≡ false
      go [] empty = refl
      go (x ∷ xs) more = absurd (omega arith)

-- the walk that gathers rows: those that pass, of the first `place` rows, stand at the front
pub record Gathering (p : Facet Cells → Bool) (start now : Table) (free place : ℕ) : Type 0 where
  pub making : SameMaking start now
  pub keeping : FiltersInPlace p (shown start) (view start.keeps now) free place

module _ (p : Facet Cells → Bool) (start : Table) where
  -- the table has as many rows as it had
  gathering_count : (now : Table) (free place : ℕ) → Gathering p start now free place → count now ≡ count start
  gathering_count now free place so_far = sym (view_length start.keeps now) ∙ so_far.keeping.long ∙ view_length start.keeps start

  pub gathering_past : (now : Table) (free place : ℕ) (row : Facet Cells) → Gathering p start now free place → place < count start → row ≡ row_at now place → p (at_kept start.keeps row) ≡ false → Gathering p start now free (place + 1)
  gathering_past now free place row so_far within there none =
      let inside : place < length (view start.keeps now) = omega (arith, view_length start.keeps now, gathering_count now free place so_far) in
      record {
        making = so_far.making;
        keeping = FiltersInPlace-more_no so_far.keeping inside none (view_at start.keeps now place row (at_kept start.keeps row) there (omega (arith, gathering_count now free place so_far)));
      }

  pub gathering_more : (now after : Table) (free place : ℕ) (row : Facet Cells) → Gathering p start now free place → place < count start → row ≡ row_at now place → p (at_kept start.keeps row) ≡ true → (free ≤ place → place < count now → row ≡ row_at now place → Shows now after (set (shown now) free (at_kept now.keeps row))) → Gathering p start after (free + 1) (place + 1)
  gathering_more now after free place row so_far within there passes step =
      let k = start.keeps in
      let inside : place < count now = omega (arith, gathering_count now free place so_far) in
      let done = step so_far.keeping.behind inside there in
      let shows : view k after ≡ set (view k now) free (at_kept k row) = subst (λ keeps. view keeps after ≡ set (view keeps now) free (at_kept keeps row)) so_far.making.keeps done.seen in
      let more = FiltersInPlace-more_set so_far.keeping (omega (arith, view_length k now)) passes (view_at k now place row (at_kept k row) there inside) in
      record { making = making_on start now after so_far.making done.making; keeping = subst (λ ys. FiltersInPlace p (view k start) ys (free + 1) (place + 1)) (sym shows) more }
