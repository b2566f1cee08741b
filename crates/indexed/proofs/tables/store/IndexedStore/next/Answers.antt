use Rattle.std.proofs.Common.{◌<◌, Some, None, ap, sym, arith, w32}
use Rattle.std.proofs.lemmas.Int.{to_z-of_z}
use Rattle.std.proofs.lemmas.Bool.{eqb-true}
use Rattle.stores.specs.Tables.{count, has_number, Lowest}
use Rattle.stores.proofs.Lookups.{number_at, none_yet, none_more, next_is}
use Rattle.indexed.specs.Tables.{rows_table}
use Rattle.indexed.proofs.Tabled.{rows_count, row_read, lowest_by_index}
use Rattle.indexed.proofs.tables.store.IndexedStore.next.Goals as goal

pub returns-then-is_indexed : goal.returns-then-is_indexed
returns-then-is_indexed g c =
    let admitted = g.G.Guard.admitted in
    let rows = c.args.self.now.rows in
    let number = c.args.number in
    let lowest = lowest_by_index admitted rows c.args.column _ number c.args.from c.lowest.result (eqb-true c.args.column 0 (sym c.if-is_indexed.ensures)) (to_z-of_z w32 number c.ranges.number) c.lowest.ensures in
    record { value = next_is (rows_table admitted rows) c.args.from c.args.column number c.lowest.result lowest; lowest = lowest }

pub returns-then-has : goal.returns-then-has
returns-then-has g c =
    let admitted = g.G.Guard.admitted in
    let rows = c.args.self.now.rows in
    let table = rows_table admitted rows in
    let from = c.args.from in
    let column = c.args.column in
    let number = c.args.number in
    let place = c.loop-place.place in
    let same = to_z-of_z w32 number c.ranges.number in
    let within : place < count table = omega (arith, c.loop-place-test.true, c.len-place-end.ensures, rows_count admitted rows) in
    let row = row_read admitted rows place c.stored.result within c.stored.ensures in
    let there = number_at table column _ number same place _ _ (ap (λ f. f.held) row) c.if-has.ensures in
    let lowest : Lowest (count table) (has_number table column number) from (Some place) = (c.loop-place.auto.place, within, there, none_yet table column _ number same from place c.loop-place.invariant) in
    record { value = next_is table from column number (Some place) lowest; lowest = lowest }

pub loop-place-preserved : goal.loop-place-preserved
loop-place-preserved g c =
    let admitted = g.G.Guard.admitted in
    let rows = c.args.self.now.rows in
    let table = rows_table admitted rows in
    let column = c.args.column in
    let number = c.args.number in
    let place = c.loop-place.place in
    let same = to_z-of_z w32 number c.ranges.number in
    let within : place < count table = omega (arith, c.loop-place-test.true, c.len-place-end.ensures, rows_count admitted rows) in
    let row = row_read admitted rows place c.stored.result within c.stored.ensures in
    let there = number_at table column _ number same place _ _ (ap (λ f. f.held) row) c.if-has.ensures in
    none_more table column _ number same c.args.from place c.loop-place.invariant there

pub returns : goal.returns
returns g c =
    let admitted = g.G.Guard.admitted in
    let rows = c.args.self.now.rows in
    let table = rows_table admitted rows in
    let number = c.args.number in
    let lowest : Lowest (count table) (has_number table c.args.column number) c.args.from None = λ q after before. none_yet table c.args.column _ number (to_z-of_z w32 number c.ranges.number) c.args.from c.loop-place.place c.loop-place.invariant q after (omega (arith, c.loop-place-test.false, c.len-place-end.ensures, rows_count admitted rows)) in
    record { value = next_is table c.args.from c.args.column number None lowest; lowest = lowest }
