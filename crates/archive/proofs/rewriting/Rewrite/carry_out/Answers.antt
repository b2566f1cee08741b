use Rattle.archive.specs.Runs.{place_of}
use Rattle.archive.specs.Turns.{given}
use Rattle.archive.proofs.Checked.{rows_fit}
use Rattle.archive.proofs.Placed.{gathered_spreadable, spread_holds}
use Rattle.archive.proofs.rewriting.Rewrite.carry_out.Goals as goal

pub returns-clause-done : goal.returns-clause-done
returns-clause-done g c =
    let start = g.S.Store.table c.args.store.now in
    let middle = g.S.Store.table c.gather.new.store in
    let rewrite = given g.G.Guard.known c.args.self.now in
    let gathered = c.gather.ensures in
    spread_holds start rewrite middle gathered (g.S.Store.table c.spread.new.store)
    (c.spread.ensures (gathered_spreadable start rewrite middle gathered (rows_fit (place_of c.args.name) start rewrite c.in_ok-check.ensures)))
