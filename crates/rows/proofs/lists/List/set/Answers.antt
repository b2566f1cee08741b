use Rattle.std.proofs.Common.{◌<◌, min, length, refl, arith}
use Rattle.std.proofs.lemmas.List.{length-set}
use Rattle.rows.specs.Lists.{memory, most, entries}
use Rattle.rows.proofs.Entries.{entries_length, replaced, now_has}
use Rattle.rows.proofs.lists.List.set.Goals as goal

pub returns-clause-after : goal.returns-clause-after
returns-clause-after g c =
    let before = c.args.self.now in
    let e = c.args.entry in
    let p = c.args.place in
    let long = entries_length before in
    let below : p < length (entries before) = omega (arith, c.len.ensures) in
    now_has before _ _ (omega (arith, length-set (entries before) p e)) (replaced (memory before) (min before.count (most before)) p e (omega arith) (omega arith)) refl
