use Rattle.std.proofs.Common.{true, refl, subst, below_more}
use Rattle.std.specs.Fn.{FnReturnsAt}
use Rattle.std.proofs.lemmas.Fn.{says_at}
use Rattle.std.proofs.lemmas.List.{get_or_read_under}
use Rattle.queries.proofs.Told.{first_fails, all_pass}
use Rattle.queries.proofs.checks.refuse_first.Goals as goal

pub returns-then-not-passes : goal.returns-then-not-passes
returns-then-not-passes g c ok says =
    let here = says_at g.F.Fn c.passes.ensures c.if-not-passes.true in
    first_fails ok _ _ _ _ _ c.loop-place-test.true (λ d k h. says _ true (c.loop-place.invariant d k h)) c.index-items-place.is (says _ _ here) c.new.ensures

pub loop-place-preserved : goal.loop-place-preserved
loop-place-preserved g c d =
    let here = says_at g.F.Fn c.passes.ensures c.if-not-passes.false in
    below_more _ _ (c.loop-place.invariant d) (subst (λ x. FnReturnsAt g.F.Fn c.args.passes x true) (get_or_read_under _ _ _ _ d c.index-items-place.is c.loop-place-test.true refl) here)

pub returns : goal.returns
returns g c ok says = all_pass ok _ _ _ c.loop-place-test.false (λ d k h. says _ true (c.loop-place.invariant d k h))
