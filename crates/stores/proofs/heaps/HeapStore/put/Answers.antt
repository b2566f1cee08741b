use Rattle.std.proofs.Common.{◌≤◌, length, Err, sym, ap, refl, arith}
use Rattle.std.proofs.lemmas.Bool.{not-true, not-false, both_ways}
use Rattle.std.proofs.lemmas.Option.{slice_get_within}
use Rattle.rows.specs.Lists.{entries}
use Rattle.stores.specs.Heaps.{heap_table}
use Rattle.stores.specs.Tables.{facet, touches}
use Rattle.stores.proofs.Heaped.{same_heap}
use Rattle.stores.proofs.Listed.{listed_count, listed_replaced, none_there, set_touching}
use Rattle.stores.proofs.Outcomes.{put_outside, put_replaced, put_as_remove}
use Rattle.stores.proofs.heaps.HeapStore.put.Goals as goal

pub returns-then-is_empty-clause-change : goal.returns-then-is_empty-clause-change
returns-then-is_empty-clause-change g c =
    let table = heap_table g.G.Guard in
    put_as_remove (table c.args.self.now) (table c.remove.new.self) (facet g.G.Guard.admitted c.args.row.now) c.args.place (not-true _ (sym c.if-is_empty.ensures)) c.remove.ensures.change

pub invariant_of-self : goal.invariant_of-self
invariant_of-self g c =
    let before = c.args.self.now in
    record { touching = set_touching g.G.Guard.admitted before.rows c.set.new.self c.args.place c.args.row.now c.set.result c.set.ensures.value c.set.ensures.after (not-false _ (sym c.if-is_empty.ensures)) before.touching }

pub returns-in-Some : goal.returns-in-Some
returns-in-Some g c =
    let admitted = g.G.Guard.admitted in
    let before = c.args.self.now in
    let row = c.args.row.now in
    let place = c.args.place in
    let touch = not-false (touches (heap_table g.G.Guard before) (admitted row.guard)) (sym c.if-is_empty.ensures) in
    let within = slice_get_within (entries before.rows) place c.in-Some.field-0 (sym c.in-Some.ensures.value) in
    record {
      change = put_replaced (heap_table g.G.Guard before) _ (facet admitted row) place (omega (arith, within, listed_count admitted before.rows)) touch refl (listed_replaced admitted before.rows c.set.new.self place row within c.in-Some.ensures.after);
      closes = λ apart. absurd (both_ways _ apart touch);
    }

pub returns-in-None : goal.returns-in-None
returns-in-None g c =
    let admitted = g.G.Guard.admitted in
    let before = c.args.self.now in
    let row = c.args.row.now in
    let place = c.args.place in
    let touch = not-false (touches (heap_table g.G.Guard before) (admitted row.guard)) (sym c.if-is_empty.ensures) in
    let past : length (entries before.rows) ≤ place = none_there (entries before.rows) place c.in-None.ensures.value in
    record {
      change = put_outside (heap_table g.G.Guard before) _ (facet admitted row) place (omega (arith, past, listed_count admitted before.rows)) (ap Err c.new.ensures) (same_heap g.G.Guard before _ c.in-None.ensures.after);
      closes = λ apart. absurd (both_ways _ apart touch);
    }
