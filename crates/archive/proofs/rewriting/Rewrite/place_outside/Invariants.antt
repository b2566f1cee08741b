use Rattle.std.proofs.Common.{ℕ, List, map, drop}
use Rattle.rows.specs.declared.cells.Cells.{Cells}
use Rattle.stores.specs.Tables.{Facet, Table, facet}
use Rattle.archive.specs.Rules.{at_kept, outside}
use Rattle.archive.specs.Turns.{Placing, Room}
use Rattle.archive.proofs.rewriting.Rewrite.place_outside.Given as goal

abbrev pub invariant-loop-literal : goal.invariant-loop-literal
invariant-loop-literal g l =
    (start : Table) (place : ℕ) (whole : List (Facet Cells)) →
    Room start place whole →
    Placing start (g.S.Store.table l.initial.store) place l.initial.free (map (at_kept start.keeps) (outside start g.G.Guard.known l.literals (facet g.G.Guard.admitted l.row))) whole →
    Placing start (g.S.Store.table l.store) place l.free (map (at_kept start.keeps) (outside start g.G.Guard.known (drop l.literal-index l.literals) record { guard = g.G.Guard.admitted l.guard; held = l.row.cells })) whole
