use Rattle.std.proofs.Common.{arith}
use Rattle.archive.proofs.Counted.{outside_counted}
use Rattle.archive.proofs.rewriting.Rewrite.count_outside.Goals as goal
use Rattle.archive.proofs.rewriting.Rewrite.count_outside.Goals.{then-touches, else-touches}

pub loop-literal-preserved : goal.loop-literal-preserved
loop-literal-preserved g c =
    let turn = outside_counted (g.S.Store.table c.args.store.now) g.G.Guard.known c.as_slice-literals.result.now c.loop-literal.literal-index _ (g.G.Guard.admitted c.loop-literal.guard) (g.G.Guard.admitted c.narrowed-guard.result) (g.G.Guard.admitted c.turned_away.result) c.args.row.now.cells c.loop-literal-test.true c.turned_away.ensures c.narrowed-guard.ensures c.loop-literal.count c.if-touches.count _ c.loop-literal.invariant.1 in
    elim c.if-touches.branch [ then-touches w ↦ (omega (arith, w.count-is, c.loop-literal.invariant.0), turn _ w.if-touches.ensures w.count-is) | else-touches w ↦ (omega (arith, w.count-is, c.loop-literal.invariant.0), turn _ w.if-touches.ensures w.count-is) ]
