use Rattle.std.proofs.Common.{◌≡◌, ◌+◌, ◌<◌, min, length, refl, ap, sym, ◌∙◌, arith}
use Rattle.std.proofs.lemmas.List.Edits.{length-remove}
use Rattle.std.proofs.lemmas.Option.{slice_get_within}
use Rattle.std.specs.List.{copy_within}
use Rattle.rows.specs.Lists.{memory, most, entries}
use Rattle.rows.proofs.Entries.{entries_length, closed_up, now_has}
use Rattle.rows.proofs.lists.List.remove.Goals as goal

pub returns-clause-after : goal.returns-clause-after
returns-clause-after g c =
    let before = c.args.self.now in
    let p = c.args.place in
    let full : c.len-len.result ≡ min before.count (most before) = c.len-len.ensures ∙ entries_length before in
    let below : p < length (entries before) = slice_get_within (entries before) p c.in_ok-taken.taken (sym c.in_ok-taken.ensures) in
    now_has before _ _ (omega (arith, length-remove (entries before) p below, c.len-len.ensures)) (c.copy_within.ensures.after ∙ ap (λ k. copy_within (memory before) (p + 1) k p) full ∙ closed_up (memory before) (min before.count (most before)) p (omega arith) (omega arith)) refl
