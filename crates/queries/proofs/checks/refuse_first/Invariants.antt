use Rattle.std.proofs.Common.{ℕ, ◌<◌, true, get_or}
use Rattle.std.specs.Fn.{FnReturnsAt}
use Rattle.queries.proofs.checks.refuse_first.Given as goal

abbrev pub invariant-loop-place : goal.invariant-loop-place
invariant-loop-place g l = (d : _) (k : ℕ) → k < l.place → FnReturnsAt g.F.Fn l.passes (get_or l.items k d) true
