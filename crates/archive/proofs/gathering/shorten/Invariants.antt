use Rattle.std.proofs.Common.{◌+◌, ◌-◌}
use Rattle.stores.specs.Tables.{count}
use Rattle.archive.specs.Turns.{Shortened}
use Rattle.archive.proofs.gathering.shorten.Given as goal

abbrev pub invariant-loop-row : goal.invariant-loop-row
invariant-loop-row g l = Shortened (g.S.Store.table l.initial.store) (g.S.Store.table l.store) (count (g.S.Store.table l.initial.store) + l.left - l._row)
