use Rattle.std.proofs.Common.{◌+◌, ◌<◌, sym, subst, arith}
use Rattle.stores.specs.Tables.{facet, count}
use Rattle.archive.specs.Turns.{given, is_left}
use Rattle.archive.proofs.Front.{Gathering, gathering_past, gathering_more, left_counted, none_counted}
use Rattle.archive.proofs.rewriting.Rewrite.move_up.Goals as goal
use Rattle.archive.proofs.rewriting.Rewrite.move_up.Goals.{then-count_parts-gt0, else-count_parts-gt0}

pub loop-place-preserved : goal.loop-place-preserved
loop-place-preserved g c =
    let table = g.S.Store.table in
    let start = table c.args.store.now in
    let now = table c.loop-place.store in
    let rewrite = given g.G.Guard.known c.args.self.now in
    let p = is_left start rewrite in
    let row = facet g.G.Guard.admitted c.row-row.result in
    let place = c.loop-place.place in
    let free = c.loop-place.free in
    let within : place < count start = omega (arith, c.loop-place-test.true, c.count-place-end.ensures) in
    let there = c.row-row.ensures.value in
    let so_far = c.loop-place.invariant in
    elim c.if-count_parts-gt0.branch [
      | then-count_parts-gt0 w ↦
          let passes = left_counted start now rewrite row c.count_parts.result so_far.making.keeps c.count_parts.ensures.value w.if-count_parts-gt0.true in
          let done = gathering_more p start now (table w.move_down.new.store) free place row so_far within there passes w.move_down.ensures in
          subst (λ n. Gathering p start (table c.if-count_parts-gt0.store) n (place + 1)) (sym w.free-is) (subst (λ s. Gathering p start (table s) (free + 1) (place + 1)) (sym w.store-is) done)
      | else-count_parts-gt0 w ↦
          let none = none_counted start now rewrite row c.count_parts.result so_far.making.keeps c.count_parts.ensures.value w.if-count_parts-gt0.false in
          let done = gathering_past p start now free place row so_far within there none in
          subst (λ n. Gathering p start (table c.if-count_parts-gt0.store) n (place + 1)) (sym w.free-is) (subst (λ s. Gathering p start (table s) free (place + 1)) (sym w.store-is) done)
    ]
