use Rattle.std.proofs.Common.{arith, refl}
use Rattle.indexed.proofs.Edited.{remove_within, remove_ascends, remove_lists}
use Rattle.indexed.proofs.index.Index.remove.Goals as goal

pub remove-requires : goal.remove-requires
remove-requires c =
    let within = remove_within _ _ _ _ _ refl c.args.self.now.ordered c.position-at.ensures c.requires in omega (arith, c.args.self.now.entries.ok.0)

pub invariant_of-self : goal.invariant_of-self
invariant_of-self c = record {
  ordered = remove_ascends _ _ _ _ _ refl c.args.self.now.ordered c.position-at.ensures c.requires _ c.remove.ensures.items;
}

pub returns : goal.returns
returns c = record {
  listed = remove_lists _ _ _ _ _ refl c.args.self.now.ordered c.position-at.ensures c.requires _ c.remove.ensures.items;
  len = c.remove.ensures.len;
  room = c.remove.ensures.capacity;
}
