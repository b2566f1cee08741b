-- The law over runs, from what the tables of a run hold at a choice. Assumes nothing.
use Rattle.std.proofs.Common.{ℕ, List, [], ◌∷◌, ◌++◌, Ok, refl, ap, subst}
use Rattle.archive.specs.declared.changes.TableName.TheVariants.{Files, Readings}
use Rattle.archive.specs.Askings.{seen}
use Rattle.archive.specs.Law.{Law, NoRows, AllAsOften}
use Rattle.archive.specs.Plain.{empty_plain, plain_answers}
use Rattle.archive.specs.Runs.{Tables, Event, asking, Step, Run, plain_calls, plain_archive, all_shown}
use Rattle.archive.proofs.Bags.{bag_equal}
use Rattle.archive.proofs.Followed.{Agree, agree_run}
use Rattle.archive.proofs.Shown.{shown_answer, shown_run, as_often, often_both}

-- at the start there is nothing to see
agree_start : (c : ℕ) (before : Tables) → NoRows before → Agree c before empty_plain
agree_start c before (files, readings) Files small kept = bag_equal (ap (seen c) files)
agree_start c before (files, readings) Readings small kept = bag_equal (ap (seen c) readings)

-- a run up to one of its calls
run_up_to : (known : ℕ) (events : List Event) (event : Event) (later : List Event) (before after : Tables) → Run known before (events ++ event ∷ later) after →
    (middle : Tables) × (next : Tables) × Run known before events middle × Step known middle event next
run_up_to known [] event later before after (next, step, run) = (before, next, refl, step)
run_up_to known (first ∷ events) event later before after (then, step, run) =
    let (middle, next, up_to_lem, here) = run_up_to known events event later then after run in
    (middle, next, (then, step, up_to_lem), here)

pub law : Law
law =
    record {
      holds =
          λ known before after events limit none run c table small kept.
          as_often (agree_run c known events before after empty_plain run (agree_start c before none) table small kept);
      shows =
          λ known before after events later a shown limit none run.
          let (middle, next, up_to_lem, step) = run_up_to known events (asking a (Ok shown)) later before after run in
          let agree = agree_run a.choice known events before middle empty_plain up_to_lem (agree_start a.choice before none) in
          (step.0, as_often (shown_answer known limit middle next (plain_archive a.choice events) a shown step agree));
      alike =
          λ known other before after before' after' events events' limit limit' none none' run run' c same.
          let one = shown_run known limit c events before after empty_plain run (agree_start c before none) in
          let two = shown_run other limit' c events' before' after' empty_plain run' (agree_start c before' none') in
          often_both (all_shown c events) (all_shown c events') (plain_answers empty_plain (plain_calls c events'))
          (subst (λ calls. AllAsOften (all_shown c events) (plain_answers empty_plain calls)) same one)
          two;
    }
