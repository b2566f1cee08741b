use Rattle.std.proofs.Common.{◌≡◌, ℕ, ◌<◌, ◌≤◌, false}
use Rattle.stores.specs.Tables.{has_number}
use Rattle.indexed.specs.Tables.{rows_table}
use Rattle.indexed.proofs.tables.store.IndexedStore.next.Given as goal

abbrev pub invariant-loop-place : goal.invariant-loop-place
invariant-loop-place g l = (q : ℕ) → l.from ≤ q → q < l.place → has_number (rows_table g.G.Guard.admitted l.self.rows) l.column l.number q ≡ false
