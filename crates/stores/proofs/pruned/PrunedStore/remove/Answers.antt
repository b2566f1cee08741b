use Rattle.std.proofs.Common.{◌≡◌, refl, ap}
use Rattle.stores.specs.Pruned.{pruned_table}
use Rattle.stores.proofs.Pruning.{pruned_remove, same_pruned}
use Rattle.stores.proofs.Touching.{remove_touching}
use Rattle.stores.proofs.pruned.PrunedStore.remove.Goals as goal

pub invariant_of-self : goal.invariant_of-self
invariant_of-self g c =
    let admitted = g.G.Guard.admitted in
    let below = g.S.Store.table in
    let before = c.args.self.now in
    let k = admitted before.guard in
    let change = pruned_remove k (below before.below) (below c.remove.new.self) (λ (e : c.remove.new.self ≡ before.below). e) c.args.place c.remove.ensures in
    record { touching = remove_touching (pruned_table (below before.below) k) (pruned_table (below c.remove.new.self) k) (ap (λ s. pruned_table (below s) k)) c.args.place change before.touching }

pub returns : goal.returns
returns g c =
    let admitted = g.G.Guard.admitted in
    let below = g.S.Store.table in
    let before = c.args.self.now in
    let k = admitted before.guard in
    pruned_remove k (below before.below) (below c.remove.new.self) (same_pruned g.S.Store g.G.Guard before _ refl) c.args.place c.remove.ensures
