use Rattle.std.proofs.Common.{◌≡◌, ◌+◌, ◌≤◌, length, drop}
use Rattle.stores.specs.Tables.{facet}
use Rattle.archive.specs.Rules.{outside}
use Rattle.archive.proofs.rewriting.Rewrite.count_outside.Given as goal

abbrev pub invariant-loop-literal : goal.invariant-loop-literal
invariant-loop-literal g l =
    (l.count ≤ l.literal-index)
    × (l.count + length (outside (g.S.Store.table l.store) g.G.Guard.known (drop l.literal-index l.literals) record { guard = g.G.Guard.admitted l.guard; held = l.row.cells }) ≡ length (outside (g.S.Store.table l.store) g.G.Guard.known l.literals (facet g.G.Guard.admitted l.row)))
