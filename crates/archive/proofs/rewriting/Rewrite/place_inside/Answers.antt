use Rattle.std.proofs.Common.{◌≡◌, None, set, ap, ◌∙◌, subst, w32, SFits, rules}
use Rattle.std.proofs.lemmas.Int.{to_z-of_z}
use Rattle.rows.specs.declared.cells.Cells.{Cells}
use Rattle.rows.specs.Cells.{with_cell}
use Rattle.stores.specs.Tables.{Facet, facet, touches}
use Rattle.archive.specs.Rules.{at_kept, inside}
use Rattle.archive.specs.Turns.{given, path_of, shown, Placing, Shows}
use Rattle.archive.proofs.Placed.{inside_set, placing_first}
use Rattle.archive.proofs.rewriting.Rewrite.place_inside.Goals as goal

pub returns-in-Set : goal.returns-in-Set
returns-in-Set g c =
    λ within touch still.
    let start = g.S.Store.table c.args.store.now in
    let after = g.S.Store.table c.place_part.new.store in
    let rewrite = c.args.self.now in
    let known = g.G.Guard.known in
    let admitted = g.G.Guard.admitted in
    let row = facet admitted c.args.row.now in
    let place = c.args.place in
    let part : Facet Cells = record { guard = (inside known (path_of rewrite) row).guard; held = with_cell c.in-Set.column c.in-Set.number row.held } in
    let fits : SFits w32 c.in-Set.number = search rules in
    let changed : c.with.result ≡ with_cell c.in-Set.column c.in-Set.number row.held = c.with.ensures ∙ ap (λ n. with_cell c.in-Set.column n row.held) (to_z-of_z w32 c.in-Set.number fits) in
    let made : facet admitted record { guard = c.guard_inside.result; cells = c.with.result } ≡ part = λ i. record { guard = c.guard_inside.ensures i; held = changed i } in
    let done = c.place_part.ensures (ap (touches start) c.guard_inside.ensures ∙ touch) within in
    subst (Placing start after place None still) (inside_set start (given known rewrite) row still c.in-Set.column c.in-Set.number c.in-Set.is) (placing_first start after place part still (subst (λ f. Shows start after (set (shown start) place (at_kept start.keeps f))) made done))
