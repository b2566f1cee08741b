use Rattle.std.proofs.Common.{◌≡◌, vec_items, ap, ◌∙◌}
use Rattle.std.specs.Option.{unwrap_or}
use Rattle.stores.specs.Tables.{facet, no_row, row_at}
use Rattle.stores.proofs.Listed.{image_at}
use Rattle.stores.proofs.Touching.{row_touching}
use Rattle.indexed.specs.Tables.{rows_table}
use Rattle.indexed.proofs.tables.store.IndexedStore.row.Goals as goal

pub returns : goal.returns
returns g c =
    let admitted = g.G.Guard.admitted in
    let self = c.args.self.now in
    let value : facet admitted c.unwrap_or.result ≡ row_at (rows_table admitted self.rows) c.args.place =
    ap (facet admitted) (c.unwrap_or.ensures ∙ ap (λ found. unwrap_or found c.no_row.result) c.get.ensures)
    ∙ image_at (facet admitted) (vec_items self.rows.rows) c.args.place c.no_row.result no_row c.no_row.ensures in
    record { value = value; touching = row_touching (rows_table admitted self.rows) c.args.place _ value self.touching }
