use Rattle.std.proofs.Common.{◌≡◌, ap, ◌∙◌, rules}
use Rattle.std.proofs.lemmas.Fn.{fold_over, slice_gives, fronts}
use Rattle.labels.specs.Paths.{literals, path_guard}
use Rattle.labels.proofs.Along.{guard_push, path_guard_holds}
use Rattle.labels.proofs.paths.Path.guard.Goals as goal

pub returns : goal.returns
returns g c =
    let n = g.G.Guard.known in
    let admitted = g.G.Guard.admitted in
    let all : admitted c.fold.result ≡ path_guard n (literals c.args.self.now) =
    fold_over fronts (λ y. y.now) _ (λ ls a. admitted a ≡ path_guard n ls) _ (λ ls a l b f' before k. let more = guard_push n ls l.now (admitted a) (admitted b) before in search rules) _ _ _ _ (slice_gives c.iter.result) c.everything.ensures c.fold.ensures.ran
    ∙ ap (path_guard n) (c.iter.ensures.rest ∙ c.as_slice.ensures) in
    record { admitted = all; holds = λ k. all ∙ path_guard_holds n _ k }
