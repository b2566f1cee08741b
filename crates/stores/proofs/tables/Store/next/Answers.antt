use Rattle.std.proofs.Common.{◌<◌, Some, None, ap, arith, w32}
use Rattle.std.proofs.lemmas.Int.{to_z-of_z}
use Rattle.stores.specs.Tables.{count, has_number, Lowest}
use Rattle.stores.proofs.Lookups.{number_at, none_yet, none_more, next_is}
use Rattle.stores.proofs.tables.Store.next.Goals as goal

pub returns-then-has : goal.returns-then-has
returns-then-has g c =
    let table = g.Self.Store.table c.args.self.now in
    let from = c.args.from in
    let column = c.args.column in
    let number = c.args.number in
    let place = c.loop-place.place in
    let same = to_z-of_z w32 number c.ranges.number in
    let within : place < count table = omega (arith, c.loop-place-test.true, c.count-place-end.ensures) in
    let there = number_at table column _ number same place c.row.result.cells _ (ap (λ f. f.held) c.row.ensures.value) c.if-has.ensures in
    let lowest : Lowest (count table) (has_number table column number) from (Some place) = (c.loop-place.auto.place, within, there, none_yet table column _ number same from place c.loop-place.invariant) in
    record { value = next_is table from column number (Some place) lowest; lowest = lowest }

pub loop-place-preserved : goal.loop-place-preserved
loop-place-preserved g c =
    let table = g.Self.Store.table c.args.self.now in
    let column = c.args.column in
    let number = c.args.number in
    let place = c.loop-place.place in
    let same = to_z-of_z w32 number c.ranges.number in
    let there = number_at table column _ number same place c.row.result.cells _ (ap (λ f. f.held) c.row.ensures.value) c.if-has.ensures in
    none_more table column _ number same c.args.from place c.loop-place.invariant there

pub returns : goal.returns
returns g c =
    let table = g.Self.Store.table c.args.self.now in
    let number = c.args.number in
    let lowest : Lowest (count table) (has_number table c.args.column number) c.args.from None = λ q after before. none_yet table c.args.column _ number (to_z-of_z w32 number c.ranges.number) c.args.from c.loop-place.place c.loop-place.invariant q after (omega (arith, c.loop-place-test.false, c.count-place-end.ensures)) in
    record { value = next_is table c.args.from c.args.column number None lowest; lowest = lowest }
