-- What pruning does to a table. Assumes nothing.
use Rattle.std.specs.Prelude.{ℕ, Bool, Result, ◌==◌}
use Rattle.faults.specs.declared.Fault.{Fault}
use Rattle.faults.specs.declared.Refusal.TheVariants.{StoreNotEmpty}
use Rattle.faults.specs.Faults.{unless, answered}
use Rattle.labels.specs.Guards.{meet}
use Rattle.rows.specs.declared.cells.Cells.{Cells}
use Rattle.stores.specs.Tables.{Facet, Table, count}

-- the pruned table keeps the choices that the one below keeps and the guard admits; its rows are those of the one below
abbrev pub pruned_table : Table → (ℕ → Bool) → Table
pruned_table below guard = record { keeps = meet below.keeps guard; capacity = below.capacity; rows = below.rows }

-- a row as it is handed down: its guard is met with the pruning one
abbrev pub met_with : (ℕ → Bool) → Facet Cells → Facet Cells
met_with guard row = record { guard = meet row.guard guard; held = row.held }

-- only a table with no row is pruned
abbrev pub prunable : Table → Result (Unit {0}) Fault
prunable below = answered (unless (count below == 0) StoreNotEmpty 0)
