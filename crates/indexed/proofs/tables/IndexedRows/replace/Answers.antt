use Rattle.std.proofs.Common.{vec_items, ap, ◌∙◌, w32, rules}
use Rattle.std.proofs.lemmas.List.{map-set}
use Rattle.std.proofs.lemmas.Int.{to_z-of_z}
use Rattle.stores.specs.Tables.{facet}
use Rattle.indexed.specs.Tables.{rows_table, with_rows}
use Rattle.indexed.proofs.Relisted.{old_listed, other_not_listed, replace_lists}
use Rattle.indexed.proofs.tables.IndexedRows.replace.Goals as goal

pub renumber-requires : goal.renumber-requires
renumber-requires g c =
    let old = to_z-of_z w32 c.number_at.result (search rules) ∙ c.number_at.ensures in
    record {
      listed = old_listed c.args.self.now c.args.place c.requires _ old;
      absent = other_not_listed c.args.self.now c.args.place c.requires _ old _;
    }

pub invariant_of-self : goal.invariant_of-self
invariant_of-self g c =
    let old = to_z-of_z w32 c.number_at.result (search rules) ∙ c.number_at.ensures in
    let new = to_z-of_z w32 c.first_number.result (search rules) ∙ c.first_number.ensures in
    let listed = replace_lists c.args.self.now c.args.place c.requires _ old _ _ c.args.row.now new c.renumber.ensures.listed in
    record { few = search rules; limited = search rules; reserved = search rules; paired = search rules; room = search rules; listed = listed }

pub returns : goal.returns
returns g c =
    let admitted = g.G.Guard.admitted in
    let before = c.args.self.now in
    ap (with_rows (rows_table admitted before)) (map-set (facet admitted) (vec_items before.rows) c.args.place c.args.row.now)
