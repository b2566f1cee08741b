-- The parts of rows put in the place of the rows. Assumes nothing.
use Rattle.std.proofs.Common.{◌≡◌, ℕ, suc, ◌+◌, ◌<◌, ◌≤◌, Bool, true, false, List, [], ◌∷◌, ◌++◌, map, length, get_or, set, ℤ, Some, None, Option, Result, sym, refl, ap, ◌∙◌, subst, ap₂, arith}
use mathlib.Core.Path.{fun_ext}
use Rattle.std.specs.List.Sorted.{IsPermutation}
use Rattle.std.specs.List.{flat_map, list_all}
use Rattle.std.proofs.lemmas.List.{append_assoc, append-nil, map-append, length-append, length-map}
use Rattle.std.proofs.lemmas.List.Folds.{flat_map-map}
use Rattle.std.proofs.lemmas.Bool.{cond-true, cond-false}
use Rattle.faults.specs.declared.Fault.{Fault}
use Rattle.rows.specs.declared.cells.Cells.{Cells}
use Rattle.archive.specs.declared.changes.Change.TheVariants.{Set}
use Rattle.rows.specs.Cells.{with_cell}
use Rattle.stores.specs.Changes.{Add, Put}
use Rattle.stores.specs.Tables.{Facet, Table, count, row_at, no_row, touches}
use Rattle.stores.proofs.Touching.{same_touches}
use Rattle.words.proofs.Walked.{all_at}
use Rattle.archive.specs.Rules.{at_kept, changed, under, inside, outside, concerned, rewritten, rewritten_rows, NowHolds}
use Rattle.archive.specs.Turns.{Given, ruled, view, shown, parts, some_left, is_left, placed, still_free, with_part, inside_then, spread_out, rows_left, rows_spread, Shows, Placing, Room, Spreadable, Takes}
use Rattle.archive.proofs.Front.{making_on, unmoved}
use Rattle.archive.proofs.Moves.{all_parts, apart, joined_kept, kept_left, map_joined, placed_length, placed_more, placed_none, spread_at, spread_length, spread_more, spread_room, spread_to}
use Rattle.archive.proofs.Parts.{parts_alike, same_parts}
use Rattle.archive.proofs.Views.{kept_twice, view_appended, view_at, view_length, view_replaced}

-- a part that is stored: at the free place, or behind all rows
pub part_there : {Same : Type 0} (before after : Table) {answer : Result (Unit {0}) Fault} (place : ℕ) (part : Facet Cells) → Put Same before after place part answer → touches before part.guard ≡ true → place < count before → Shows before after (with_part (shown before) (Some place) (at_kept before.keeps part))
part_there before after place part change touch within =
    let done = (change.replaced within touch).1 in
    record { making = done.making; seen = view_replaced before after place part done }

pub part_behind : {Same : Type 0} (before after : Table) {answer : Result (Unit {0}) Fault} (part : Facet Cells) → Add Same before after part answer → touches before part.guard ≡ true → count before < before.capacity → Shows before after (with_part (shown before) None (at_kept before.keeps part))
part_behind before after part change touch room =
    let done = (change.added touch room).1 in
    record { making = done.making; seen = view_appended before after part done }

-- one part more, seen from the start
with_part_more : {X : Type 0} (rows done : List X) (place : ℕ) (part : X) → place < length rows → with_part (placed rows place done) (still_free place done) part ≡ placed rows place (done ++ part ∷ [])
with_part_more rows [] place part within = placed_none rows place within part
with_part_more rows (first ∷ others) place part within = placed_more rows place within (first ∷ others) part refl

-- while parts of a row are still to come, the table takes one: in the place of the row, or behind all rows
part_taken : {X : Type 0} (table : Table) (rows done : List X) (place more whole : ℕ) → place < length rows → length rows + whole ≤ table.capacity + 1 → length done + suc more ≡ whole → count table ≡ length (placed rows place done) → Takes table (still_free place done)
part_taken table rows [] place more whole within fits all_of_it counted = omega arith
part_taken table rows (first ∷ others) place more whole within fits all_of_it counted = omega (arith, placed_length rows place within (first ∷ others) refl)

-- a part that is still to come is placed
pub placing_more : (start now after : Table) (place : ℕ) (free : Option ℕ) (part : Facet Cells) (still whole : List (Facet Cells)) → Room start place whole → touches start part.guard ≡ true → Placing start now place free (at_kept start.keeps part ∷ still) whole → (touches now part.guard ≡ true → Takes now free → Shows now after (with_part (shown now) free (at_kept now.keeps part))) → Placing start after place None still whole
placing_more start now after place free part still whole room touch so_far step =
    record {
      done = done ++ seen ∷ [];
      shows =
          record {
            making = making_on start now after so_far.shows.making next.making;
            seen = subst (λ keeps. view keeps after ≡ with_part (view keeps now) free (at_kept keeps part)) so_far.shows.making.keeps next.seen ∙ ap₂ (λ f rs. with_part rs f seen) so_far.free_is so_far.shows.seen ∙ with_part_more (shown start) done place seen inside_rows;
          };
      free_is = last done;
      rest = append_assoc done (seen ∷ []) still ∙ so_far.rest;
    }
  where
    done : List (Facet Cells)
    done = so_far.done

    seen : Facet Cells
    seen = at_kept start.keeps part

    inside_rows : place < length (shown start)
    inside_rows = omega (arith, room.within, view_length start.keeps start)

    counted : count now ≡ length (placed (shown start) place done)
    counted = sym (view_length start.keeps now) ∙ ap length so_far.shows.seen

    all_of_it : length done + suc (length still) ≡ length whole
    all_of_it = sym (length-append done (seen ∷ still)) ∙ ap length so_far.rest

    takes : Takes now free
    takes = subst (Takes now) (sym so_far.free_is) (part_taken now (shown start) done place (length still) (length whole) inside_rows (omega (arith, room.fits, so_far.shows.making.capacity, view_length start.keeps start)) all_of_it counted)

    next : Shows now after (with_part (shown now) free (at_kept now.keeps part))
    next = step (same_touches start now part.guard so_far.shows.making ∙ touch) takes

    last : (xs : List (Facet Cells)) → None ≡ still_free place (xs ++ seen ∷ [])
    last [] = refl
    last (x ∷ xs) = refl

-- nothing is still to come
pub placing_end : (start now : Table) (place : ℕ) (free : Option ℕ) (still whole : List (Facet Cells)) → still ≡ [] → Placing start now place free still whole → Shows start now (placed (shown start) place whole)
placing_end start now place free still whole none so_far =
    subst (λ ys. Shows start now (placed (shown start) place ys)) (sym (append-nil so_far.done) ∙ ap (so_far.done ++◌) (sym none) ∙ so_far.rest) so_far.shows

-- the part inside the path comes first
pub placing_first : (start after : Table) (place : ℕ) (part : Facet Cells) (others : List (Facet Cells)) → Shows start after (set (shown start) place (at_kept start.keeps part)) → Placing start after place None others (at_kept start.keeps part ∷ others)
placing_first start after place part others done =
    record { done = at_kept start.keeps part ∷ []; shows = subst (Shows start after) (sym (append-nil (set (shown start) place (at_kept start.keeps part)))) done; free_is = refl; rest = refl }

-- of a row that is set there is one part inside the path
pub inside_set : (start : Table) (given : Given) (row : Facet Cells) (still : List (Facet Cells)) (column : ℕ) (number : ℤ) → given.change ≡ Set column number → at_kept start.keeps record { guard = (inside given.known given.path row).guard; held = with_cell column number row.held } ∷ still ≡ inside_then start given row still
inside_set start given row still column number is = ap (λ change. inside_then start record { known = given.known; path = given.path; test = given.test; change = change } row still) (sym is)

module _ (start : Table) (given : Given) where
  abbrev r : Facet Cells → List (Facet Cells)
  r = parts start given

  abbrev changes : Facet Cells → Bool
  changes row = concerned start given.known given.path given.test row

  -- what becomes of a row that is changed
  abbrev apart_from : Facet Cells → List (Facet Cells)
  apart_from row = under (inside given.known given.path row).guard (changed given.change row.held) ++ outside start given.known given.path row

  -- the parts of a row that is changed, and of one that is not
  pub parts_changed : (row : Facet Cells) → changes row ≡ true → inside_then start given row (map (at_kept start.keeps) (outside start given.known given.path row)) ≡ r row
  parts_changed row is =
      sym (map-append (at_kept start.keeps) (under (inside given.known given.path row).guard (changed given.change row.held)) (outside start given.known given.path row))
      ∙ sym (ap (map (at_kept start.keeps)) (cond-true (changes row) (apart_from row) (row ∷ []) is))

  pub parts_whole : (row : Facet Cells) → changes row ≡ false → r row ≡ at_kept start.keeps row ∷ []
  parts_whole row not_so = ap (map (at_kept start.keeps)) (cond-false (changes row) (apart_from row) (row ∷ []) not_so)

  -- a row that is not changed stands where it stood
  pub unspread : (place : ℕ) (row : Facet Cells) → changes row ≡ false → row ≡ row_at start place → Room start place (r row) → Shows start start (placed (shown start) place (r row))
  unspread place row not_so there room =
      let stays = unmoved start place place row (omega arith) (omega arith) room.within there in
      subst (λ ys. Shows start start (placed (shown start) place ys)) (sym (parts_whole row not_so)) (subst (Shows start start) (sym (append-nil (set (shown start) place (at_kept start.keeps row)))) stays)

  pub spread_turn : (now after : Table) (place : ℕ) (row : Facet Cells) → place < count start → Spreadable start given → Shows start now (spread_to r place (shown start)) → row ≡ row_at now place → (row ≡ row_at now place → Room now place (parts now given row) → Shows now after (placed (shown now) place (parts now given row))) → Shows start after (spread_to r (place + 1) (shown start))
  spread_turn now after place row within can so_far there step =
      record {
        making = making_on start now after so_far.making next.making;
        seen = shows ∙ ap₂ (λ rs ps. placed rs place ps) so_far.seen (same ∙ apart r x some) ∙ spread_more r fs place no_row inside_fs;
      }
    where
      fs : List (Facet Cells)
      fs = shown start

      x : Facet Cells
      x = get_or fs place no_row

      inside_fs : place < length fs
      inside_fs = omega (arith, view_length start.keeps start)

      some : is_left start given x ≡ true
      some = all_at (is_left start given) fs place no_row inside_fs can.left

      long : count now ≡ length (spread_to r place fs)
      long = sym (view_length start.keeps now) ∙ ap length so_far.seen

      inside_now : place < count now
      inside_now = omega (arith, inside_fs, long, spread_length r fs place (omega (arith, inside_fs)))

      seen_as : at_kept start.keeps row ≡ x
      seen_as = view_at start.keeps now place row no_row there inside_now ∙ ap (λ rs. get_or rs place no_row) so_far.seen ∙ spread_at r fs place no_row inside_fs

      same : parts now given row ≡ r x
      same =
          ap (λ f. f row) (same_parts start now given so_far.making.keeps)
          ∙ sym (parts_alike start given (at_kept start.keeps row) row (kept_twice start.keeps row))
          ∙ ap r seen_as

      room : Room now place (parts now given row)
      room =
          record {
            within = inside_now;
            fits = omega (arith, long, ap length same, spread_room r fs place no_row inside_fs can.left, can.fits, so_far.making.capacity);
          }

      next : Shows now after (placed (shown now) place (parts now given row))
      next = step there room

      shows : view start.keeps after ≡ placed (view start.keeps now) place (parts now given row)
      shows = subst (λ keeps. view keeps after ≡ placed (view keeps now) place (parts now given row)) so_far.making.keeps next.seen

  -- the rule's rows, as they show
  pub rewritten_shows : map (at_kept start.keeps) (ruled (rewritten_rows start) given) ≡ flat_map r (shown start)
  rewritten_shows =
      map_joined (ruled (rewritten start) given) (at_kept start.keeps) start.rows
      ∙ ap (λ f. flat_map f start.rows) (fun_ext (λ row. sym (parts_alike start given (at_kept start.keeps row) row (kept_twice start.keeps row))))
      ∙ sym (flat_map-map r (at_kept start.keeps) start.rows)

  module _ (middle : Table) (gathered : Shows start middle (rows_left start given)) where
    -- of each row that was gathered something is left
    pub gathered_left : list_all (is_left middle given) (shown middle) ≡ true
    gathered_left =
        ap₂ (λ f keeps. list_all (λ row. some_left (f row)) (view keeps middle)) (same_parts start middle given gathered.making.keeps) gathered.making.keeps
        ∙ ap (list_all (λ row. some_left (r row))) gathered.seen
        ∙ kept_left r (shown start)

    -- their parts are all the parts
    gathered_parts : flat_map (parts middle given) (shown middle) ≡ flat_map r (shown start)
    gathered_parts =
        ap₂ (λ f keeps. flat_map f (view keeps middle)) (same_parts start middle given gathered.making.keeps) gathered.making.keeps
        ∙ ap (flat_map r) gathered.seen
        ∙ joined_kept r (shown start)

    pub gathered_spreadable : length (ruled (rewritten_rows start) given) ≤ start.capacity → Spreadable middle given
    gathered_spreadable fits =
        record {
          left = gathered_left;
          fits = omega (arith, ap length gathered_parts, ap length rewritten_shows, length-map (ruled (rewritten_rows start) given) (at_kept start.keeps), gathered.making.capacity);
        }

    -- gathered and spread, the table holds the rule's rows
    pub spread_holds : (after : Table) → Shows middle after (rows_spread middle given) → NowHolds start after (ruled (rewritten_rows start) given)
    spread_holds after spread =
        record {
          making = making_on start middle after gathered.making spread.making;
          holds =
              let seen : view start.keeps after ≡ spread_out r (rows_left start given) =
              subst (λ keeps. view keeps after ≡ spread_out (parts middle given) (view keeps middle)) gathered.making.keeps spread.seen
              ∙ ap₂ spread_out (same_parts start middle given gathered.making.keeps) gathered.seen in
              subst (λ ys. IsPermutation (map (at_kept start.keeps) (ruled (rewritten_rows start) given)) ys) (sym seen)
              (subst (λ xs. IsPermutation xs (spread_out r (rows_left start given))) (sym (rewritten_shows ∙ sym (joined_kept r (shown start))))
              (all_parts r (rows_left start given) (kept_left r (shown start))));
        }
