use Rattle.std.proofs.Common.{vec_items, ◌∙◌, arith, w32, rules}
use Rattle.std.proofs.lemmas.Int.{to_z-of_z}
use Rattle.indexed.proofs.Listed.{number_read}
use Rattle.indexed.proofs.tables.IndexedRows.number_at.Goals as goal

pub returns : goal.returns
returns g c =
    let rows = c.args.self.now.rows in
    to_z-of_z w32 c.first_number.result (search rules)
    ∙ c.first_number.ensures
    ∙ number_read (vec_items rows) c.args.place c.stored.result (omega (arith, c.requires, rows.ok.0)) c.stored.ensures
