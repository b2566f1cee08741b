use Rattle.std.proofs.Common.{vec_items, ◌∙◌, refl}
use Rattle.std.proofs.lemmas.Bool.{cond-true}
use Rattle.indexed.proofs.Edited.{insert_ascends, insert_lists}
use Rattle.indexed.proofs.index.Index.insert.Goals as goal

pub invariant_of-self : goal.invariant_of-self
invariant_of-self c = record {
  ordered = insert_ascends _ _ _ _ _ _ _ c.insert.ensures.items (c.insert.ensures.succeeds c.requires.room) refl c.args.self.now.ordered c.position-at.ensures c.requires.absent;
}

pub returns : goal.returns
returns c = record {
  listed = insert_lists (vec_items c.args.self.now.entries) _ _ _ _ c.args.entry.place c.position-at.result c.insert.ensures.items (c.insert.ensures.succeeds c.requires.room) refl;
  len = c.insert.ensures.len ∙ cond-true _ _ _ (c.insert.ensures.succeeds c.requires.room);
  room = (c.insert.ensures.in_place c.requires.room).1.0;
}
