use Rattle.archive.specs.Turns.{given, parts, shown, Shows, Spreadable}
use Rattle.archive.proofs.Moves.{spread_to}
use Rattle.archive.proofs.rewriting.Rewrite.spread.Given as goal

abbrev pub invariant-loop-place : goal.invariant-loop-place
invariant-loop-place g l =
    let start = g.S.Store.table l.initial.store in
    let rewrite = given g.G.Guard.known l.self in
    Spreadable start rewrite →
    Shows start (g.S.Store.table l.store) (spread_to (parts start rewrite) l.place (shown start))
