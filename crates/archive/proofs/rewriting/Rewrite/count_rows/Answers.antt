use Rattle.std.proofs.Common.{◌≡◌, ◌^◌, length, ◌∙◌, arith, rules}
use Rattle.std.specs.List.{range_with_len, sum_by}
use Rattle.std.proofs.lemmas.Iterator.{YieldsList-from_range, YieldsList-from_map}
use Rattle.std.proofs.lemmas.Iterator.Adapters.{at_most_from_yields_List, fits_from_length}
use Rattle.std.proofs.lemmas.Iterator.Consumers.{sum_by_from_yields_List}
use Rattle.std.proofs.lemmas.List.FromFn.{length-range_with_len}
use borrow.Author.Tests.{tests}
use Rattle.stores.specs.Tables.{row_at}
use Rattle.archive.specs.Rules.{rewritten}
use Rattle.archive.specs.Turns.{given, ruled}
use Rattle.archive.proofs.Counted.{joined_by_place}
use Rattle.archive.proofs.rewriting.Rewrite.count_rows.Goals as goal

pub sum-requires-clause-fits : goal.sum-requires-clause-fits
sum-requires-clause-fits g c =
    fits_from_length _ _ (2 ^ 32) (2 ^ 64) (at_most_from_yields_List (YieldsList-from_range 0 c.count.result c.count.result c.map.ensures.source (omega arith)) (omega (arith, length-range_with_len 0 c.count.result))) c.map.ensures.closure (omega arith) (λ x r q k. search (rules, tests))

pub returns : goal.returns
returns g c =
    let table = g.S.Store.table c.args.store.now in
    let parts = ruled (rewritten table) (given g.G.Guard.known c.args.self.now) in
    let n = c.count.result in
    let total : c.sum.result ≡ sum_by (λ place. length (parts (row_at table place))) (range_with_len 0 n) =
    sum_by_from_yields_List (λ place. length (parts (row_at table place))) (range_with_len 0 n) c.map.result c.sum.result c.sum.ensures.ran
    (YieldsList-from_map _ (λ place. length (parts (row_at table place))) (YieldsList-from_range 0 n n c.map.ensures.source (omega arith)) c.map.ensures.closure (λ x r q k. search rules)) in
    total ∙ joined_by_place parts table n c.count.ensures
