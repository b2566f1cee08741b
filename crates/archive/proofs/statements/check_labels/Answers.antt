use Rattle.std.proofs.Common.{◌≡◌, not, ltb, Err, sym, ap, ◌∙◌, rules}
use Rattle.std.specs.List.{position}
use Rattle.std.specs.Option.{option_map}
use Rattle.std.proofs.lemmas.Iterator.{YieldsList-from_slice}
use Rattle.std.proofs.lemmas.Iterator.Search.{position_from_yields_List}
use borrow.Author.Tests.{tests}
use Rattle.faults.specs.declared.Refusal.TheVariants.{UnknownLabel}
use Rattle.faults.specs.Faults.{fault, answered}
use Rattle.labels.specs.Paths.{literals}
use Rattle.archive.proofs.statements.check_labels.Goals as goal

pub returns-in-Some : goal.returns-in-Some
returns-in-Some g c =
    let known = g.G.Guard.known in
    let found : c.position.result ≡ position (λ l. not (ltb l.label known)) (literals c.args.path.now) =
    position_from_yields_List (λ l. not (ltb l.label known)) _ _ c.position.result c.position.ensures.ran (YieldsList-from_slice _ (c.iter.ensures.rest ∙ c.as_slice-literals.ensures)) (λ x b q k. let is = c.label_count-known.ensures in search (rules, tests)) in
    ap Err c.new.ensures ∙ ap (λ place. answered (option_map (fault UnknownLabel) place)) (sym c.in-Some.is ∙ found)

pub returns-in-None : goal.returns-in-None
returns-in-None g c =
    let known = g.G.Guard.known in
    let found : c.position.result ≡ position (λ l. not (ltb l.label known)) (literals c.args.path.now) =
    position_from_yields_List (λ l. not (ltb l.label known)) _ _ c.position.result c.position.ensures.ran (YieldsList-from_slice _ (c.iter.ensures.rest ∙ c.as_slice-literals.ensures)) (λ x b q k. let is = c.label_count-known.ensures in search (rules, tests)) in
    ap (λ place. answered (option_map (fault UnknownLabel) place)) (sym c.in-None.is ∙ found)
