use Rattle.std.proofs.Common.{◌≡◌, ap}
use Rattle.rows.specs.declared.cells.Cells.{Cells}
use Rattle.labels.specs.Paths.{literals, path_guard}
use Rattle.stores.specs.Tables.{Facet, facet}
use Rattle.archive.specs.Runs.{place_of}
use Rattle.archive.proofs.Checked.{added_holds, room_told}
use Rattle.archive.proofs.statements.Addition.carry_out.Goals as goal

pub returns-clause-done : goal.returns-clause-done
returns-clause-done g c =
    let table = g.S.Store.table in
    let before = table c.args.store.now in
    let known = g.G.Guard.known in
    let path = literals c.args.self.now.path.now in
    let cells = c.args.self.now.cells.now in
    let given = facet g.G.Guard.admitted record { guard = c.guard.result; cells = cells } in
    let row : Facet Cells = record { guard = path_guard known path; held = cells } in
    let same : given ≡ row = λ i. record { guard = c.guard.ensures.admitted i; held = cells } in
    added_holds before (table c.add.new.self) known path cells given same (ap table) c.add.ensures (room_told before (table c.add.new.self) known path cells (place_of c.args.name) c.in_ok-check_add.ensures)
