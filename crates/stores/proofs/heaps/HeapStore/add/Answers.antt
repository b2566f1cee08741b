use Rattle.std.proofs.Common.{Err, refl, sym, ap, arith}
use Rattle.std.proofs.lemmas.Bool.{not-true, not-false}
use Rattle.rows.proofs.Entries.{had_room, had_no_room}
use Rattle.stores.specs.Heaps.{heap_table}
use Rattle.stores.specs.Tables.{facet}
use Rattle.stores.proofs.Heaped.{same_heap}
use Rattle.stores.proofs.Listed.{listed_count, listed_appended, pushed_touching}
use Rattle.stores.proofs.Outcomes.{add_ignored, add_full, add_added}
use Rattle.stores.proofs.heaps.HeapStore.add.Goals as goal

pub returns-then-is_empty : goal.returns-then-is_empty
returns-then-is_empty g c =
    let table = heap_table g.G.Guard c.args.self.now in
    add_ignored table table (facet g.G.Guard.admitted c.args.row.now) (not-true _ (sym c.if-is_empty.ensures)) refl refl

pub returns-in-Ok : goal.returns-in-Ok
returns-in-Ok g c =
    let admitted = g.G.Guard.admitted in
    let before = c.args.self.now in
    let row = c.args.row.now in
    let room = had_room before.rows row c.in-Ok.ensures.value in
    add_added (heap_table g.G.Guard before) _ (facet admitted row) (not-false _ (sym c.if-is_empty.ensures)) (omega (arith, room, listed_count admitted before.rows)) refl (listed_appended admitted before.rows c.push.new.self row c.in-Ok.ensures.after)

pub returns-in-Err : goal.returns-in-Err
returns-in-Err g c =
    let admitted = g.G.Guard.admitted in
    let before = c.args.self.now in
    let row = c.args.row.now in
    let full = had_no_room before.rows row c.in-Err.field-0 c.in-Err.ensures.value in
    add_full (heap_table g.G.Guard before) _ (facet admitted row) (not-false _ (sym c.if-is_empty.ensures)) (omega (arith, full, listed_count admitted before.rows)) (ap Err c.new.ensures) (same_heap g.G.Guard before _ c.in-Err.ensures.after)

pub invariant_of-self : goal.invariant_of-self
invariant_of-self g c =
    record { touching = pushed_touching g.G.Guard.admitted c.args.self.now.rows c.push.new.self c.args.row.now c.push.result c.push.ensures.after (not-false _ (sym c.if-is_empty.ensures)) c.args.self.now.touching }
