use Rattle.std.proofs.Common.{sym, ◌∙◌}
use Rattle.indexed.proofs.Tabled.{rows_count}
use Rattle.indexed.proofs.tables.store.IndexedStore.count.Goals as goal

pub returns : goal.returns
returns g c = c.len.ensures ∙ sym (rows_count g.G.Guard.admitted c.args.self.now.rows)
