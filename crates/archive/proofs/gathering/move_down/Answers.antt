use Rattle.stores.specs.Tables.{facet}
use Rattle.archive.proofs.Front.{moved, unmoved}
use Rattle.archive.proofs.gathering.move_down.Goals as goal

pub returns-then-free-place : goal.returns-then-free-place
returns-then-free-place g c =
    λ below within same.
    moved (g.S.Store.table c.args.store.now) (g.S.Store.table c.put.new.self) c.args.place c.args.free (facet g.G.Guard.admitted c.args.row.now) c.put.ensures (g.met.S.Store.touching c.args.store.now) c.if-free-place.true within same

pub returns-else-free-place : goal.returns-else-free-place
returns-else-free-place g c =
    λ below within same. unmoved (g.S.Store.table c.args.store.now) c.args.place c.args.free (facet g.G.Guard.admitted c.args.row.now) c.if-free-place.false below within same
