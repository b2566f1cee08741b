use Rattle.std.proofs.Common.{◌≡◌, ℕ, ◌<◌, ◌≤◌, false}
use Rattle.stores.specs.Tables.{has_number}
use Rattle.stores.proofs.tables.Store.next.Given as goal

abbrev pub invariant-loop-place : goal.invariant-loop-place
invariant-loop-place g l = (q : ℕ) → l.from ≤ q → q < l.place → has_number (g.Self.Store.table l.self) l.column l.number q ≡ false
