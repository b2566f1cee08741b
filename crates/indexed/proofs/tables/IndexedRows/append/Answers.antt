use Rattle.std.proofs.Common.{map, vec_items, ap, ◌∙◌, w32, rules}
use Rattle.std.proofs.lemmas.List.{map_push}
use Rattle.std.proofs.lemmas.Int.{to_z-of_z}
use Rattle.stores.specs.Tables.{facet}
use Rattle.indexed.specs.Tables.{rows_table, with_rows}
use Rattle.indexed.proofs.Relisted.{nothing_behind, append_lists}
use Rattle.indexed.proofs.tables.IndexedRows.append.Goals as goal

pub insert-requires : goal.insert-requires
insert-requires g c =
    record { room = search rules; absent = nothing_behind c.args.self.now _ c.len.result c.len.ensures }

pub invariant_of-self : goal.invariant_of-self
invariant_of-self g c =
    let number = to_z-of_z w32 c.first_number.result (search rules) ∙ c.first_number.ensures in
    let listed = append_lists c.args.self.now (vec_items c.push_reserved.new.self) _ c.args.row.now _ c.len.result number c.len.ensures c.push_reserved.ensures.items c.insert.ensures.listed in
    record { few = search rules; limited = search rules; reserved = search rules; paired = search rules; room = search rules; listed = listed }

pub returns : goal.returns
returns g c =
    let admitted = g.G.Guard.admitted in
    let before = c.args.self.now in
    ap (with_rows (rows_table admitted before)) (ap (map (facet admitted)) c.push_reserved.ensures.items ∙ map_push (facet admitted) (vec_items before.rows) c.args.row.now)
