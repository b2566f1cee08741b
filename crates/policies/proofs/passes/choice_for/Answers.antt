use Rattle.std.proofs.Common.{rules, ◌≡◌, ℕ, Bool, ap, ◌∙◌, tests, arith}
use Rattle.std.proofs.lemmas.Iterator.{YieldsList-from_range}
use Rattle.std.proofs.lemmas.Iterator.Consumers.{fold_from_yields_List, YieldsList-from_filter}
use Rattle.words.specs.Bits.{has, word_of}
use Rattle.words.proofs.Digits.{has_word_of}
use Rattle.policies.proofs.Gathered.{with, none, gathered, bits-gathered}
use Rattle.policies.proofs.passes.choice_for.Goals as goal

pub returns : goal.returns
returns g c =
    let n = g.G.Guard.known in
    let says : ℕ → Bool = λ l. g.P.Policy.says c.args.policy.now c.args.viewer.number l c.args.day.number in
    let folded : c.fold.result ≡ gathered says n = fold_from_yields_List _ with none _ c.fold.ensures.ran (YieldsList-from_filter _ says (YieldsList-from_range 0 c.label_count.result n (cc) (omega arith)) c.filter.ensures.closure (λ x b q k. search (rules, tests))) (λ a x b q k. search (rules, tests)) in
    let all : c.fold.result.bits ≡ word_of n says = ap (λ k. k.bits) folded ∙ bits-gathered says n g.met.G.Guard.few in
    record { value = all; labels = λ l. ap (λ w. has w l) all ∙ has_word_of n says l }
