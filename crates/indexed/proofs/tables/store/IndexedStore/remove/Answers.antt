use Rattle.std.proofs.Common.{◌≡◌, Err, refl, ap, arith}
use Rattle.stores.proofs.Outcomes.{remove_outside, remove_removed}
use Rattle.stores.proofs.Touching.{remove_touching}
use Rattle.indexed.specs.Tables.{rows_table}
use Rattle.indexed.proofs.Changed.{row_removed}
use Rattle.indexed.proofs.Tabled.{has_row, has_none}
use Rattle.indexed.proofs.tables.store.IndexedStore.remove.Goals as goal

pub returns-then-not-has_row : goal.returns-then-not-has_row
returns-then-not-has_row g c =
    let admitted = g.G.Guard.admitted in
    let rows = c.args.self.now.rows in
    let table = rows_table admitted rows in
    let past = has_none admitted rows c.args.place c.if-not-has_row.ensures in
    record { change = remove_outside table table c.args.place past (ap Err c.new.ensures) refl; moves = λ within. absurd (omega arith) }

pub invariant_of-self : goal.invariant_of-self
invariant_of-self g c =
    let admitted = g.G.Guard.admitted in
    let table = rows_table admitted in
    let before = c.args.self.now.rows in
    let after = c.take_out.new.self in
    let place = c.args.place in
    let within = has_row admitted before place c.if-not-has_row.ensures in
    let change = remove_removed {Same = after ≡ before} (table before) (table after) place within refl (row_removed (table before) (table after) place within c.take_out.ensures) in
    record { touching = remove_touching (table before) (table after) (ap table) place change c.args.self.now.touching }

pub returns : goal.returns
returns g c =
    let admitted = g.G.Guard.admitted in
    let table = rows_table admitted in
    let before = c.args.self.now.rows in
    let place = c.args.place in
    let within = has_row admitted before place c.if-not-has_row.ensures in
    record {
      change = remove_removed (table before) (table c.take_out.new.self) place within refl (row_removed (table before) (table c.take_out.new.self) place within c.take_out.ensures);
      moves = λ _. ap (λ t. t.rows) c.take_out.ensures;
    }
