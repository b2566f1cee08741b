use Rattle.std.proofs.Common.{map, sym, subst}
use Rattle.std.proofs.lemmas.Bool.{and_parts}
use Rattle.queries.specs.Tests.{passes}
use Rattle.stores.specs.Tables.{facet, touches}
use Rattle.archive.specs.Rules.{at_kept, inside, outside}
use Rattle.archive.specs.Turns.{path_of, test_of, given, parts, Placing}
use Rattle.archive.proofs.Placed.{parts_changed, unspread}
use Rattle.archive.proofs.rewriting.Rewrite.spread_row.Goals as goal

pub returns-then-concerns : goal.returns-then-concerns
returns-then-concerns g c =
    λ there room.
    let start = g.S.Store.table c.args.store.now in
    let path = path_of c.args.self.now in
    let known = g.G.Guard.known in
    let rewrite = given known c.args.self.now in
    let row = facet g.G.Guard.admitted c.args.row.now in
    let is = sym c.if-concerns.ensures in
    let touch = (and_parts (passes (test_of c.args.self.now) row.held.values) (touches start (inside known path row).guard) is).1 in
    let still = map (at_kept start.keeps) (outside start known path row) in
    let first = c.place_inside-free.ensures room.within touch still in
    c.place_outside.ensures start c.args.place (parts start rewrite row) room (subst (Placing start (g.S.Store.table c.place_inside-free.new.store) c.args.place c.place_inside-free.result still) (parts_changed start rewrite row is) first)

pub returns-else-concerns : goal.returns-else-concerns
returns-else-concerns g c =
    λ there room.
    unspread (g.S.Store.table c.args.store.now) (given g.G.Guard.known c.args.self.now) c.args.place (facet g.G.Guard.admitted c.args.row.now) (sym c.if-concerns.ensures) there room
