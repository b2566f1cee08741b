use Rattle.std.proofs.Common.{◌≡◌, ◌+◌, true, None, map, drop, sym, ap, ◌∙◌, subst}
use Rattle.rows.specs.declared.cells.Cells.{Cells}
use Rattle.stores.specs.Tables.{Facet, facet, touches}
use Rattle.stores.proofs.Touching.{same_touches}
use Rattle.archive.specs.Rules.{at_kept, outside}
use Rattle.archive.specs.Turns.{shown, with_part, Placing, Shows, Takes}
use Rattle.archive.proofs.Counted.{next_apart, next_touches, outside_none}
use Rattle.archive.proofs.Placed.{placing_more, placing_end}
use Rattle.archive.proofs.rewriting.Rewrite.place_outside.Goals as goal
use Rattle.archive.proofs.rewriting.Rewrite.place_outside.Goals.{then-touches, else-touches}

pub loop-literal-preserved : goal.loop-literal-preserved
loop-literal-preserved g c =
    λ start place whole room from.
    let table = g.S.Store.table in
    let admitted = g.G.Guard.admitted in
    let known = g.G.Guard.known in
    let now = table c.loop-literal.store in
    let path = c.as_slice-literals.result.now in
    let i = c.loop-literal.literal-index in
    let cells = c.args.row.now.cells in
    let part : Facet Cells = record { guard = admitted c.turned_away.result; held = cells } in
    let later = map (at_kept start.keeps) (outside start known (drop (i + 1) path) record { guard = admitted c.narrowed-guard.result; held = cells }) in
    let so_far = c.loop-literal.invariant start place whole room from in
    let touch = λ (b : _) (e : b ≡ _). e ∙ same_touches start now part.guard so_far.shows.making in
    elim c.if-touches.branch [
      | then-touches w ↦
          let yes = sym (touch _ w.if-touches.ensures) in
          let split = ap (map (at_kept start.keeps)) (next_touches start known path i _ (admitted c.loop-literal.guard) (admitted c.narrowed-guard.result) part.guard cells c.loop-literal-test.true c.turned_away.ensures c.narrowed-guard.ensures yes) in
          let free = c.loop-literal.free in
          let done = placing_more start now (table w.place_part.new.store) place free part later whole room yes (subst (λ still. Placing start now place free still whole) split so_far) (subst (λ f. touches now part.guard ≡ true → Takes now f → Shows now (table w.place_part.new.store) (with_part (shown now) f (at_kept now.keeps part))) w.take.ensures.value w.place_part.ensures) in
          subst (λ f. Placing start (table c.if-touches.store) place f later whole) (sym (w.free-is ∙ w.take.ensures.after)) (subst (λ s. Placing start (table s) place None later whole) (sym w.store-is) done)
      | else-touches w ↦
          let no_touch = sym (touch _ w.if-touches.ensures) in
          let split = ap (map (at_kept start.keeps)) (next_apart start known path i _ (admitted c.loop-literal.guard) (admitted c.narrowed-guard.result) part.guard cells c.loop-literal-test.true c.turned_away.ensures c.narrowed-guard.ensures no_touch) in
          subst (λ f. Placing start (table c.if-touches.store) place f later whole) (sym w.free-is) (subst (λ s. Placing start (table s) place c.loop-literal.free later whole) (sym w.store-is) (subst (λ still. Placing start now place c.loop-literal.free still whole) split so_far))
    ]

pub returns : goal.returns
returns g c =
    λ start place whole room from.
    let known = g.G.Guard.known in
    let row = facet g.G.Guard.admitted c.args.row.now in
    let path = c.as_slice-literals.result.now in
    let here = subst (λ ls. Placing start (g.S.Store.table c.args.store.now) place c.args.free (map (at_kept start.keeps) (outside start known ls row)) whole) (sym c.as_slice-literals.ensures) from in
    placing_end start (g.S.Store.table c.loop-literal.store) place c.loop-literal.free _ whole (ap (map (at_kept start.keeps)) (outside_none start known path c.loop-literal.literal-index _ c.loop-literal-test.false)) (c.loop-literal.invariant start place whole room here)
