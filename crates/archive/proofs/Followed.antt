-- The tables of a run at a choice, beside the plain archive of that choice: after each call they hold the same. Assumes nothing.
use Rattle.std.proofs.Common.{◌≡◌, ℕ, ◌^◌, ◌<◌, Bool, true, false, cond, eqb, List, [], ◌∷◌, ◌++◌, Some, None, Ok, Err, sym, refl, ap, ◌∙◌, subst}
use Rattle.rows.specs.declared.cells.Cells.{Cells}
use Rattle.archive.specs.declared.changes.TableName.{TableName}
use Rattle.archive.specs.declared.changes.TableName.TheVariants.{Files, Readings}
use Rattle.labels.specs.Paths.{path_holds, all_known}
use Rattle.queries.specs.Tests.{test_fault}
use Rattle.stores.specs.Tables.{Facet, Table}
use Rattle.archive.specs.Askings.{seen}
use Rattle.archive.specs.Plain.{Plain, PlainCall, plain_add, plain_change, plain_ask, plain_rows, with_plain_rows, plain_changed, carried_out, after_calls}
use Rattle.archive.specs.Rules.{NowHolds, added_rows, rewritten_rows, path_fault}
use Rattle.archive.specs.Runs.{Tables, table_of, Event, adding, changing, asking, Only, Step, Run, comes_down, plain_calls}
use Rattle.archive.proofs.Answered.{bag_changed}
use Rattle.archive.proofs.Bags.{SameBag, bag_equal, bag_sym, bag_trans, bag_append, bag_if, bag_shuffled}
use Rattle.archive.proofs.Pieces.{seen_added_rows, seen_rewritten_rows}
use Rattle.archive.proofs.Seen.{seen_bag, seen_at_kept}
use Rattle.archive.proofs.Told.{both_silent, known_path}

-- at a choice, each table that keeps it holds each row as often as the plain archive
abbrev pub Agree : ℕ → Tables → Plain → Type 0
Agree c tables plain =
    (table : TableName) → c < 2 ^ 64 → (table_of table tables).keeps c ≡ true → SameBag (seen c (table_of table tables).rows) (plain_rows table plain)

after_calls_append : (plain : Plain) (calls later : List PlainCall) → after_calls plain (calls ++ later) ≡ after_calls (after_calls plain calls) later
after_calls_append plain [] later = refl
after_calls_append plain (call ∷ calls) later = after_calls_append (carried_out call plain) calls later

module _ (c : ℕ) where
  -- a table that now has rows which come to these, at a choice that it keeps
  now_comes_to : (before after : Table) (rows : List (Facet Cells)) (new : List Cells) → NowHolds before after rows →
      (c < 2 ^ 64 → before.keeps c ≡ true → SameBag (seen c rows) new) → c < 2 ^ 64 → after.keeps c ≡ true → SameBag (seen c after.rows) new
  now_comes_to before after rows new now come small kept =
      let kept_before : before.keeps c ≡ true = ap (λ keeps. keeps c) (sym now.making.keeps) ∙ kept in
      bag_trans (bag_equal (sym (seen_at_kept c before small kept_before after.rows)))
      (bag_trans (seen_bag c (bag_sym (bag_shuffled now.holds)))
      (bag_trans (bag_equal (seen_at_kept c before small kept_before rows)) (come small kept_before)))

  -- a table that is as it was
  still_comes_to : (before after : Table) (rows : List Cells) → after ≡ before → (before.keeps c ≡ true → SameBag (seen c before.rows) rows) → after.keeps c ≡ true → SameBag (seen c after.rows) rows
  still_comes_to before after rows same come = subst (λ table. table.keeps c ≡ true → SameBag (seen c table.rows) rows) (sym same) come

  module _ (before after : Tables) (plain : Plain) where
    -- one table has rows that come to these, and the other is as it was
    agree_only : (table : TableName) (rows : List (Facet Cells)) (new : List Cells) → Only table before after rows →
        (c < 2 ^ 64 → (table_of table before).keeps c ≡ true → SameBag (seen c rows) new) → Agree c before plain → Agree c after (with_plain_rows table new plain)
    agree_only Files rows new only come agree Files = now_comes_to before.files after.files rows new only.0 come
    agree_only Files rows new only come agree Readings = λ small. still_comes_to before.readings after.readings plain.readings only.1 (agree Readings small)
    agree_only Readings rows new only come agree Files = λ small. still_comes_to before.files after.files plain.files only.1 (agree Files small)
    agree_only Readings rows new only come agree Readings = now_comes_to before.readings after.readings rows new only.0 come

    agree_same : after ≡ before → Agree c before plain → Agree c after plain
    agree_same same agree = subst (λ tables. Agree c tables plain) (sym same) agree

    -- a call that is carried out where its path holds, and leaves the rows elsewhere
    agree_if : (b : Bool) (call : PlainCall) (table : TableName) (new : List Cells) → carried_out call plain ≡ with_plain_rows table new plain →
        Agree c after (with_plain_rows table (cond b new (plain_rows table plain)) plain) → Agree c after (after_calls plain (cond b (call ∷ []) []))
    agree_if true call table new is agree = subst (Agree c after) (sym is) agree
    agree_if false call Files new is agree = agree
    agree_if false call Readings new is agree = agree

    -- one call
    pub agree_step : (known : ℕ) (event : Event) → Step known before event after → Agree c before plain → Agree c after (after_calls plain (comes_down c event))
    agree_step known (adding table path cells None) step agree =
        let old : List Cells = plain_rows table plain in
        let new : List Cells = old ++ cells ∷ [] in
        let labels : all_known known path ≡ true = known_path known path (both_silent (path_fault known path) _ step.0).0 in
        agree_if (path_holds path c) (plain_add table cells) table new refl
        (agree_only table (added_rows (table_of table before) known path cells) (cond (path_holds path c) new old) step.1
        (λ small kept.
        bag_trans (bag_equal (seen_added_rows c (table_of table before) small kept known path labels cells))
        (bag_if (path_holds path c) (bag_append (cells ∷ []) (agree table small kept)) (agree table small kept)))
        agree)
    agree_step known (adding table path cells (Some told)) step agree = agree_same step.1 agree
    agree_step known (changing table path test change None) step agree =
        let old : List Cells = plain_rows table plain in
        let new : List Cells = plain_changed test change old in
        let labels : all_known known path ≡ true = known_path known path (both_silent (path_fault known path) _ (both_silent (test_fault test) _ step.0).1).0 in
        agree_if (path_holds path c) (plain_change table test change) table new refl
        (agree_only table (rewritten_rows (table_of table before) known path test change) (cond (path_holds path c) new old) step.1
        (λ small kept.
        bag_trans (bag_equal (seen_rewritten_rows c (table_of table before) small kept known path labels test change))
        (bag_if (path_holds path c) (bag_changed test change (agree table small kept)) (agree table small kept)))
        agree)
    agree_step known (changing table path test change (Some told)) step agree = agree_same step.1 agree
    agree_step known (asking a (Ok shown)) step agree =
        elim (eqb a.choice c) as (λ b. Agree c after (after_calls plain (cond b (plain_ask a.query ∷ []) []))) [ true ↦ agree_same step.2 agree | false ↦ agree_same step.2 agree ]
    agree_step known (asking a (Err told)) step agree = agree_same step.2 agree

  -- the calls of a run
  pub agree_run : (known : ℕ) (events : List Event) (before after : Tables) (plain : Plain) → Run known before events after → Agree c before plain → Agree c after (after_calls plain (plain_calls c events))
  agree_run known [] before after plain run agree = agree_same before after plain run agree
  agree_run known (event ∷ events) before after plain (middle, step, run) agree =
      subst (Agree c after) (sym (after_calls_append plain (comes_down c event) (plain_calls c events)))
      (agree_run known events middle after (after_calls plain (comes_down c event)) run (agree_step before middle plain known event step agree))
