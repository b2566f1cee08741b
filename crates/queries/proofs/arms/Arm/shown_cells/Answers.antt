use Rattle.std.proofs.Common.{pos, ap, rules}
use Rattle.queries.proofs.Shown.{shown_all}
use Rattle.queries.proofs.arms.Arm.shown_cells.Goals as goal

pub returns : goal.returns
returns c =
    let items = c.from_fn-values.ensures.items in
    ap (λ values. record { values = values }) (shown_all (pos 0) _ 6 c.from_fn-values.result items.long (λ i h. let called = (items.at i (pos 0) h).2.met in search rules))
