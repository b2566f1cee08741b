use Rattle.std.proofs.Common.{◌≡◌, Err, sym, refl, ap}
use Rattle.std.proofs.lemmas.Bool.{not-true, not-false}
use Rattle.stores.specs.Tables.{facet, touches}
use Rattle.stores.proofs.Outcomes.{add_ignored, add_full, add_added}
use Rattle.stores.proofs.Touching.{add_touching}
use Rattle.indexed.specs.Tables.{rows_table}
use Rattle.indexed.proofs.Changed.{row_appended}
use Rattle.indexed.proofs.Tabled.{is_full, has_room}
use Rattle.indexed.proofs.tables.store.IndexedStore.add.Goals as goal

pub returns-then-is_empty : goal.returns-then-is_empty
returns-then-is_empty g c =
    let table = rows_table g.G.Guard.admitted c.args.self.now.rows in
    add_ignored table table (facet g.G.Guard.admitted c.args.row.now) (not-true _ (sym c.if-is_empty.ensures)) refl refl

pub returns-then-is_full : goal.returns-then-is_full
returns-then-is_full g c =
    let admitted = g.G.Guard.admitted in
    let rows = c.args.self.now.rows in
    let table = rows_table admitted rows in
    add_full table table (facet admitted c.args.row.now) (not-false _ (sym c.if-is_empty.ensures)) (is_full admitted rows c.if-is_full.ensures) (ap Err c.new.ensures) refl

pub invariant_of-self : goal.invariant_of-self
invariant_of-self g c =
    let admitted = g.G.Guard.admitted in
    let table = rows_table admitted in
    let before = c.args.self.now.rows in
    let after = c.append.new.self in
    let row = facet admitted c.args.row.now in
    let touch = not-false (touches (table before) row.guard) (sym c.if-is_empty.ensures) in
    let change = add_added {Same = after ≡ before} (table before) (table after) row touch (has_room admitted before c.if-is_full.ensures) refl (row_appended (table before) (table after) row c.append.ensures) in
    record { touching = add_touching (table before) (table after) (ap table) row change c.args.self.now.touching }

pub returns : goal.returns
returns g c =
    let admitted = g.G.Guard.admitted in
    let table = rows_table admitted in
    let before = c.args.self.now.rows in
    let row = facet admitted c.args.row.now in
    add_added (table before) (table c.append.new.self) row (not-false _ (sym c.if-is_empty.ensures)) (has_room admitted before c.if-is_full.ensures) refl (row_appended (table before) (table c.append.new.self) row c.append.ensures)
