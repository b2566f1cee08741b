use Rattle.std.proofs.Common.{◌≡◌, length, take}
use Rattle.queries.specs.Tests.{truths}
use Rattle.queries.proofs.nodes.Test.passes.Given as goal

abbrev pub invariant-loop-number : goal.invariant-loop-number
invariant-loop-number l = (length l.truths ≡ 15) × (take l.number l.truths ≡ truths (take l.number l.self.nodes.now) l.cells)
