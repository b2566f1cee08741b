use Rattle.std.proofs.Common.{◌≡◌, refl, ap}
use Rattle.stores.specs.Pruned.{pruned_table}
use Rattle.stores.specs.Tables.{facet}
use Rattle.stores.proofs.Pruning.{pruned_put, same_pruned}
use Rattle.stores.proofs.Touching.{put_touching}
use Rattle.stores.proofs.pruned.PrunedStore.put.Goals as goal

pub invariant_of-self : goal.invariant_of-self
invariant_of-self g c =
    let admitted = g.G.Guard.admitted in
    let below = g.S.Store.table in
    let before = c.args.self.now in
    let k = admitted before.guard in
    let row = facet admitted c.args.row.now in
    let change = pruned_put k (below before.below) (below c.put.new.self) (λ (e : c.put.new.self ≡ before.below). e) row (facet admitted c.narrowed-row.result) c.narrowed-row.ensures c.args.place c.put.ensures in
    record { touching = put_touching (pruned_table (below before.below) k) (pruned_table (below c.put.new.self) k) (ap (λ s. pruned_table (below s) k)) c.args.place row change before.touching }

pub returns : goal.returns
returns g c =
    let admitted = g.G.Guard.admitted in
    let below = g.S.Store.table in
    let before = c.args.self.now in
    let k = admitted before.guard in
    let row = facet admitted c.args.row.now in
    pruned_put k (below before.below) (below c.put.new.self) (same_pruned g.S.Store g.G.Guard before _ refl) row (facet admitted c.narrowed-row.result) c.narrowed-row.ensures c.args.place c.put.ensures
