use Rattle.std.proofs.Common.{arith}
use Rattle.stores.specs.Tables.{facet}
use Rattle.archive.specs.Turns.{given}
use Rattle.archive.proofs.Placed.{spread_turn}
use Rattle.archive.proofs.rewriting.Rewrite.spread.Goals as goal

pub loop-place-preserved : goal.loop-place-preserved
loop-place-preserved g c =
    λ can.
    let table = g.S.Store.table in
    spread_turn (table c.args.store.now) (given g.G.Guard.known c.args.self.now) (table c.loop-place.store) (table c.spread_row.new.store) c.loop-place.place (facet g.G.Guard.admitted c.row-row.result) (omega (arith, c.loop-place-test.true, c.count-place-end.ensures)) can (c.loop-place.invariant can) c.row-row.ensures.value c.spread_row.ensures
