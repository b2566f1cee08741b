use Rattle.std.proofs.Common.{◌<◌, false, length, get_or, ap, ◌∙◌, rules}
use Rattle.std.proofs.lemmas.List.{length-set}
use Rattle.queries.proofs.Worked.{truth_turn, worked_out, not_counted, last_decides}
use Rattle.queries.proofs.nodes.Test.passes.Goals as goal

pub returns-then-not-is_counted : goal.returns-then-not-is_counted
returns-then-not-is_counted c = record { value = not_counted _ _ c.if-not-is_counted.ensures; rests = worked_out _ _ }

pub loop-number-preserved : goal.loop-number-preserved
loop-number-preserved c =
    let room : c.loop-number.number < length c.loop-number.truths = search rules in (
      length-set _ _ _ ∙ c.loop-number.invariant.0,
      truth_turn _ _ _ _ _ _ c.loop-number-test.true room c.loop-number.invariant.1 c.truth.ensures,
    )

pub returns : goal.returns
returns c =
    record {
      value = ap (λ k. get_or c.loop-number.truths k false) c.root.ensures ∙ last_decides _ _ _ _ c.if-not-is_counted.ensures c.loop-number-test.false c.loop-number.invariant.1;
      rests = worked_out _ _;
    }
