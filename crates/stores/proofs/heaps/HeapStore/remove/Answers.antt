use Rattle.std.proofs.Common.{◌≤◌, length, Err, sym, ap, refl, ◌∙◌, arith}
use Rattle.std.proofs.lemmas.Option.{slice_get_within}
use Rattle.rows.specs.Lists.{entries}
use Rattle.stores.specs.Heaps.{heap_table}
use Rattle.stores.specs.Listed.{listed_table}
use Rattle.stores.proofs.Heaped.{same_heap}
use Rattle.stores.proofs.Listed.{listed_count, listed_closes, listed_removed, none_there, removed_past, removed_touching}
use Rattle.stores.proofs.Outcomes.{remove_outside, remove_removed}
use Rattle.stores.proofs.heaps.HeapStore.remove.Goals as goal

pub invariant_of-self : goal.invariant_of-self
invariant_of-self g c =
    let before = c.args.self.now in
    record { touching = removed_touching g.G.Guard.admitted before.rows c.remove.new.self c.args.place c.remove.result c.remove.ensures.after before.touching }

pub returns-in-Some : goal.returns-in-Some
returns-in-Some g c =
    let admitted = g.G.Guard.admitted in
    let before = c.args.self.now in
    let after = c.remove.new.self in
    let place = c.args.place in
    let within = slice_get_within (entries before.rows) place c.in-Some.field-0 (sym c.in-Some.ensures.value) in
    record {
      change = remove_removed (heap_table g.G.Guard before) _ place (omega (arith, within, listed_count admitted before.rows)) refl (listed_removed admitted before.rows after place within c.in-Some.ensures.after);
      closes = listed_closes admitted before.rows after place c.in-Some.ensures.after;
    }

pub returns-in-None : goal.returns-in-None
returns-in-None g c =
    let admitted = g.G.Guard.admitted in
    let before = c.args.self.now in
    let place = c.args.place in
    let past : length (entries before.rows) ≤ place = none_there (entries before.rows) place c.in-None.ensures.value in
    let same = c.in-None.ensures.after in
    record {
      change = remove_outside (heap_table g.G.Guard before) _ place (omega (arith, past, listed_count admitted before.rows)) (ap Err c.new.ensures) (same_heap g.G.Guard before _ same);
      closes = ap (λ rows. (listed_table admitted rows).rows) same ∙ removed_past (heap_table g.G.Guard before).rows place (omega (arith, past, listed_count admitted before.rows));
    }
