use Rattle.std.proofs.Common.{◌≡◌, ap, ◌∙◌}
use Rattle.std.specs.Option.{unwrap_or}
use Rattle.rows.specs.Lists.{entries}
use Rattle.stores.specs.Heaps.{heap_table}
use Rattle.stores.specs.Tables.{facet, no_row, row_at}
use Rattle.stores.proofs.Listed.{image_at}
use Rattle.stores.proofs.Touching.{row_touching}
use Rattle.stores.proofs.heaps.HeapStore.row.Goals as goal

pub returns : goal.returns
returns g c =
    let admitted = g.G.Guard.admitted in
    let heap = c.args.self.now in
    let value : facet admitted c.unwrap_or.result ≡ row_at (heap_table g.G.Guard heap) c.args.place =
    ap (facet admitted) (c.unwrap_or.ensures ∙ ap (λ found. unwrap_or found c.no_row.result) c.get.ensures)
    ∙ image_at (facet admitted) (entries heap.rows) c.args.place c.no_row.result no_row c.no_row.ensures in
    record { value = value; touching = row_touching (heap_table g.G.Guard heap) c.args.place _ value heap.touching }
