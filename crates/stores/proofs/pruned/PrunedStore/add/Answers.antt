use Rattle.std.proofs.Common.{◌≡◌, refl, ap}
use Rattle.stores.specs.Pruned.{pruned_table}
use Rattle.stores.specs.Tables.{facet}
use Rattle.stores.proofs.Pruning.{pruned_add, same_pruned}
use Rattle.stores.proofs.Touching.{add_touching}
use Rattle.stores.proofs.pruned.PrunedStore.add.Goals as goal

pub invariant_of-self : goal.invariant_of-self
invariant_of-self g c =
    let admitted = g.G.Guard.admitted in
    let below = g.S.Store.table in
    let before = c.args.self.now in
    let k = admitted before.guard in
    let row = facet admitted c.args.row.now in
    let change = pruned_add k (below before.below) (below c.add.new.self) (λ (e : c.add.new.self ≡ before.below). e) row (facet admitted c.narrowed-row.result) c.narrowed-row.ensures c.add.ensures in
    record { touching = add_touching (pruned_table (below before.below) k) (pruned_table (below c.add.new.self) k) (ap (λ s. pruned_table (below s) k)) row change before.touching }

pub returns : goal.returns
returns g c =
    let admitted = g.G.Guard.admitted in
    let below = g.S.Store.table in
    let before = c.args.self.now in
    let k = admitted before.guard in
    let row = facet admitted c.args.row.now in
    pruned_add k (below before.below) (below c.add.new.self) (same_pruned g.S.Store g.G.Guard before _ refl) row (facet admitted c.narrowed-row.result) c.narrowed-row.ensures c.add.ensures
