use Rattle.std.proofs.Common.{◌-◌, map, vec_items, ap, ◌∙◌, arith, w32, rules}
use Rattle.std.proofs.lemmas.Int.{to_z-of_z}
use Rattle.stores.specs.Tables.{facet, no_row}
use Rattle.indexed.specs.Tables.{rows_table, with_rows}
use Rattle.indexed.proofs.Moved.{map_swapped}
use Rattle.indexed.proofs.Relisted.{old_listed, other_not_listed, last_listed, move_lists}
use Rattle.indexed.proofs.tables.IndexedRows.take_out.Goals as goal

pub close_gap-requires : goal.close_gap-requires
close_gap-requires g c =
    let old = to_z-of_z w32 c.number_at.result (search rules) ∙ c.number_at.ensures in
    let moved = to_z-of_z w32 c.number_at-2.result (search rules) ∙ c.number_at-2.ensures in
    record {
      listed = old_listed c.args.self.now c.args.place c.requires _ old;
      absent = other_not_listed c.args.self.now c.args.place c.requires _ old _;
      moves = last_listed c.args.self.now c.args.place c.requires _ old _ (c.len-end.result - 1) (omega (arith, c.len-end.ensures)) moved;
    }

pub invariant_of-self : goal.invariant_of-self
invariant_of-self g c =
    let old = to_z-of_z w32 c.number_at.result (search rules) ∙ c.number_at.ensures in
    let moved = to_z-of_z w32 c.number_at-2.result (search rules) ∙ c.number_at-2.ensures in
    let listed = move_lists c.args.self.now c.args.place c.requires _ old _ (c.len-end.result - 1) (omega (arith, c.len-end.ensures)) moved (vec_items c.swap_remove.new.self) c.swap_remove.result _ c.swap_remove.ensures.items c.close_gap.ensures.listed in
    record { few = search rules; limited = search rules; reserved = search rules; paired = search rules; room = search rules; listed = listed }

pub returns : goal.returns
returns g c =
    let admitted = g.G.Guard.admitted in
    let before = c.args.self.now in
    ap (with_rows (rows_table admitted before)) (ap (map (facet admitted)) c.swap_remove.ensures.items ∙ map_swapped (facet admitted) (vec_items before.rows) c.args.place c.swap_remove.result no_row (omega (arith, c.requires, before.rows.ok.0)))
