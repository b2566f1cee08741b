use Rattle.archive.specs.Turns.{given, is_left}
use Rattle.archive.proofs.Front.{Gathering}
use Rattle.archive.proofs.rewriting.Rewrite.move_up.Given as goal

abbrev pub invariant-loop-place : goal.invariant-loop-place
invariant-loop-place g l =
    let start = g.S.Store.table l.initial.store in
    Gathering (is_left start (given g.G.Guard.known l.self)) start (g.S.Store.table l.store) l.free l.place
