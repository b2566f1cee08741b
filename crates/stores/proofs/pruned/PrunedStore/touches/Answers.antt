use Rattle.std.proofs.Common.{ap, ◌∙◌}
use Rattle.stores.specs.Tables.{touches}
use Rattle.stores.proofs.Pruning.{touches_met}
use Rattle.stores.proofs.pruned.PrunedStore.touches.Goals as goal

pub returns : goal.returns
returns g c =
    let below = g.S.Store.table c.args.self.now.below in
    let admitted = g.G.Guard.admitted in
    c.touches.ensures ∙ ap (touches below) c.meet.ensures ∙ touches_met below (admitted c.args.self.now.guard) (admitted c.args.guard)
