-- What the askings of a run show, beside what the plain archive answers. Assumes nothing.
use Rattle.std.proofs.Common.{◌≡◌, ℕ, ◌^◌, ◌<◌, ◌≤◌, Bool, true, false, cond, eqb, List, [], ◌∷◌, ◌++◌, take, drop, Some, None, Ok, Err, sym, refl, ap, ◌∙◌, subst}
use Rattle.std.proofs.lemmas.List.{take_at}
use Rattle.std.proofs.lemmas.Bool.{eqb-true}
use Rattle.rows.specs.declared.cells.Cells.{Cells}
use Rattle.archive.specs.declared.changes.TableName.TheVariants.{Files, Readings}
use Rattle.labels.specs.Paths.{path_holds}
use Rattle.queries.specs.Arms.{query_fault}
use Rattle.archive.specs.Askings.{seen, kept_fault}
use Rattle.archive.specs.Law.{AsOften, AllAsOften}
use Rattle.archive.specs.Plain.{Plain, PlainCall, plain_add, plain_change, plain_ask, plain_answer, plain_answers, carried_out, after_calls, same_numbers}
use Rattle.archive.specs.Runs.{Tables, Asking, Event, adding, changing, asking, asked_rows, Step, Run, comes_down, plain_calls, shown_rows, shows, all_shown}
use Rattle.archive.proofs.Answered.{plain_seen, seen_query, bag_answer}
use Rattle.archive.proofs.Bags.{SameBag, bag_equal, bag_trans}
use Rattle.archive.proofs.Followed.{Agree, agree_step}
use Rattle.archive.proofs.Told.{both_silent, both_keep, pass_small}

module _ (known : ℕ) (limit : known ≤ 64) where
  -- what an asking shows is what the plain archive answers
  pub shown_answer : (before after : Tables) (plain : Plain) (a : Asking) (shown : ℕ) → Step known before (asking a (Ok shown)) after → Agree a.choice before plain → SameBag (shown_rows a shown) (plain_answer plain a.query)
  shown_answer before after plain a shown step agree =
      let c : ℕ = a.choice in
      let small : c < 2 ^ 64 = pass_small known a.says a.viewer a.day c limit step.0 in
      let keep = both_keep before.files before.readings a.answer c (both_silent (kept_fault before.files before.readings a.answer c) _ (both_silent (query_fault a.query) _ step.1).1).0 in
      let rows : List Cells = seen c (asked_rows before a) in
      let first : shown_rows a shown ≡ rows = ap (take shown) step.4 ∙ take_at rows (drop shown a.sheet) shown (sym step.3) in
      bag_trans (bag_equal (first ∙ seen_query c before.files.rows before.readings.rows a.query))
      (bag_answer (plain_seen c before.files.rows before.readings.rows) plain (agree Files small keep.0) (agree Readings small keep.1) a.query)

-- a row stands as often in two lists that are the same bag
pub as_often : {rows others : List Cells} → SameBag rows others → AsOften rows others
as_often bag row = bag.sums (λ other. cond (same_numbers row.values other.values) 1 0)

-- two lists of answers that are as a third are as each other
pub often_both : (xs ys zs : List (List Cells)) → AllAsOften xs zs → AllAsOften ys zs → AllAsOften xs ys
often_both [] [] zs one two = tt
often_both [] (y ∷ ys) [] one two = elim two [ ]
often_both [] (y ∷ ys) (z ∷ zs) one two = elim one [ ]
often_both (x ∷ xs) ys [] one two = elim one [ ]
often_both (x ∷ xs) [] (z ∷ zs) one two = elim two [ ]
often_both (x ∷ xs) (y ∷ ys) (z ∷ zs) (here, one) (there, two) = (λ row. here row ∙ sym (there row), often_both xs ys zs one two)

-- a call that is no query adds no answer
unanswered : (plain : Plain) (calls : List PlainCall) (b : Bool) (call : PlainCall) → plain_answers plain (call ∷ calls) ≡ plain_answers (carried_out call plain) calls →
    plain_answers (after_calls plain (cond b (call ∷ []) [])) calls ≡ plain_answers plain (cond b (call ∷ []) [] ++ calls)
unanswered plain calls true call is = sym is
unanswered plain calls false call is = refl

module _ (known : ℕ) (limit : known ≤ 64) (c : ℕ) where
  -- one call: what it shows is what the plain call that it comes down to answers
  shown_step : (before after : Tables) (plain : Plain) (event : Event) → Step known before event after → Agree c before plain → (shown : List (List Cells)) (calls : List PlainCall) →
      AllAsOften shown (plain_answers (after_calls plain (comes_down c event)) calls) → AllAsOften (shows c event ++ shown) (plain_answers plain (comes_down c event ++ calls))
  shown_step before after plain (adding table path cells None) step agree shown calls later =
      subst (AllAsOften shown) (unanswered plain calls (path_holds path c) (plain_add table cells) refl) later
  shown_step before after plain (adding table path cells (Some told)) step agree shown calls later = later
  shown_step before after plain (changing table path test change None) step agree shown calls later =
      subst (AllAsOften shown) (unanswered plain calls (path_holds path c) (plain_change table test change) refl) later
  shown_step before after plain (changing table path test change (Some told)) step agree shown calls later = later
  shown_step before after plain (asking a (Ok n)) step agree shown calls later = at (eqb a.choice c) refl later
    where
      at : (b : Bool) → eqb a.choice c ≡ b → AllAsOften shown (plain_answers (after_calls plain (cond b (plain_ask a.query ∷ []) [])) calls) →
          AllAsOften (cond b (shown_rows a n ∷ []) [] ++ shown) (plain_answers plain (cond b (plain_ask a.query ∷ []) [] ++ calls))
      at true is rest =
          (as_often (shown_answer known limit before after plain a n step (subst (λ d. Agree d before plain) (sym (eqb-true a.choice c is)) agree)), rest)
      at false is rest = rest
  shown_step before after plain (asking a (Err told)) step agree shown calls later = later

  -- a run
  pub shown_run : (events : List Event) (before after : Tables) (plain : Plain) → Run known before events after → Agree c before plain → AllAsOften (all_shown c events) (plain_answers plain (plain_calls c events))
  shown_run [] before after plain run agree = tt
  shown_run (event ∷ events) before after plain (middle, step, run) agree =
      shown_step before middle plain event step agree (all_shown c events) (plain_calls c events)
      (shown_run events middle after (after_calls plain (comes_down c event)) run (agree_step c before middle plain known event step agree))
