use Rattle.std.proofs.Common.{◌≡◌, Err, sym, refl, ap, arith}
use Rattle.std.proofs.lemmas.Bool.{not-true, not-false, both_ways}
use Rattle.stores.specs.Tables.{facet, touches}
use Rattle.stores.proofs.Outcomes.{put_outside, put_replaced, put_as_remove}
use Rattle.stores.proofs.Touching.{put_touching}
use Rattle.indexed.specs.Stored.{indexed_table}
use Rattle.indexed.specs.Tables.{rows_table}
use Rattle.indexed.proofs.Changed.{row_replaced}
use Rattle.indexed.proofs.Tabled.{has_row, has_none}
use Rattle.indexed.proofs.tables.store.IndexedStore.put.Goals as goal

pub returns-then-is_empty-clause-change : goal.returns-then-is_empty-clause-change
returns-then-is_empty-clause-change g c =
    let table = indexed_table g.G.Guard in
    put_as_remove (table c.args.self.now) (table c.remove.new.self) (facet g.G.Guard.admitted c.args.row.now) c.args.place (not-true _ (sym c.if-is_empty.ensures)) c.remove.ensures.change

pub returns-then-not-has_row : goal.returns-then-not-has_row
returns-then-not-has_row g c =
    let admitted = g.G.Guard.admitted in
    let rows = c.args.self.now.rows in
    let table = rows_table admitted rows in
    let past = has_none admitted rows c.args.place c.if-not-has_row.ensures in
    record {
      change = put_outside table table (facet admitted c.args.row.now) c.args.place past (ap Err c.new.ensures) refl;
      moves = λ _ within. absurd (omega arith);
    }

pub invariant_of-self : goal.invariant_of-self
invariant_of-self g c =
    let admitted = g.G.Guard.admitted in
    let table = rows_table admitted in
    let before = c.args.self.now.rows in
    let after = c.replace.new.self in
    let row = facet admitted c.args.row.now in
    let place = c.args.place in
    let within = has_row admitted before place c.if-not-has_row.ensures in
    let touch = not-false (touches (table before) row.guard) (sym c.if-is_empty.ensures) in
    let change = put_replaced {Same = after ≡ before} (table before) (table after) row place within touch refl (row_replaced (table before) (table after) place within row c.replace.ensures) in
    record { touching = put_touching (table before) (table after) (ap table) place row change c.args.self.now.touching }

pub returns : goal.returns
returns g c =
    let admitted = g.G.Guard.admitted in
    let table = rows_table admitted in
    let before = c.args.self.now.rows in
    let row = facet admitted c.args.row.now in
    let place = c.args.place in
    let within = has_row admitted before place c.if-not-has_row.ensures in
    let touch = not-false (touches (table before) row.guard) (sym c.if-is_empty.ensures) in
    record {
      change = put_replaced (table before) (table c.replace.new.self) row place within touch refl (row_replaced (table before) (table c.replace.new.self) place within row c.replace.ensures);
      moves = λ apart _. absurd (both_ways (touches (table before) row.guard) apart touch);
    }
