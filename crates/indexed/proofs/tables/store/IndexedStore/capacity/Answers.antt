use Rattle.std.proofs.Common.{refl}
use Rattle.indexed.proofs.Tabled.{bounded}
use Rattle.indexed.proofs.tables.store.IndexedStore.capacity.Goals as goal

pub returns : goal.returns
returns g c = record { value = refl; bounded = bounded g.G.Guard.admitted c.args.self.now.rows }
