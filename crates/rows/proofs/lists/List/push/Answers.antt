use Rattle.std.proofs.Common.{◌≡◌, ◌<◌, min, set, refl, ap, ◌∙◌, arith}
use Rattle.std.proofs.lemmas.List.{length_push}
use Rattle.rows.specs.Lists.{memory, most, entries}
use Rattle.rows.proofs.Entries.{entries_length, pushed, now_has}
use Rattle.rows.proofs.lists.List.push.Goals as goal

pub returns-clause-after : goal.returns-clause-after
returns-clause-after g c =
    let before = c.args.self.now in
    let e = c.args.entry in
    let full : c.len-len.result ≡ min before.count (most before) = c.len-len.ensures ∙ entries_length before in
    let room : c.len-len.result < most before = omega (arith, c.capacity.ensures) in
    now_has before _ _ (omega (arith, length_push (entries before) e, c.len-len.ensures)) (ap (λ k. set (memory before) k e) full ∙ pushed (memory before) (min before.count (most before)) e (omega arith)) refl
