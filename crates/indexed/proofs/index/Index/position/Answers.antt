use Rattle.std.proofs.Common.{ap, ◌∙◌, subst, rules}
use Rattle.std.proofs.lemmas.List.Sorted.{IsPartitionPoint-from_clause}
use Rattle.indexed.specs.Index.{ascending, before, Splits}
use Rattle.indexed.proofs.Ordered.{partitioned, splits}
use Rattle.indexed.proofs.index.Index.position.Goals as goal

pub returns : goal.returns
returns c =
    let entry = c.args.entry in
    let es = c.deref.result.now in
    let at = c.partition_point.result in
    let order = ap ascending c.deref.ensures.value ∙ c.args.self.now.ordered in
    subst (λ xs. Splits xs entry.number entry.place at) c.deref.ensures.value
    (splits es order entry.number entry.place at c.partition_point.ensures.bound
    (IsPartitionPoint-from_clause (λ e. before e entry.number entry.place) es at c.partition_point.ensures.partitioned (partitioned es order entry.number entry.place) (λ a r f' k. search rules)))
