-- What a change of a choice or a policy comes to. Assumes nothing.
use Rattle.std.proofs.Common.{arith}
use Rattle.std.proofs.lemmas.Bool.Decides.{nat_tests}
use Rattle.std.proofs.lemmas.Grind.{common_steps}
use Rattle.std.proofs.lemmas.List.Folds.{list_any-append}
use Rattle.words.proofs.Digits.{has_or, has_pow}
use Rattle.cases.specs.Worked.{Changes}

pub changes : Changes
changes = record {
  one_more = λ c l m few. grind (arith, nat_tests, has_or, has_pow);
  day_set = λ records after l d k long e. grind (arith, common_steps, nat_tests);
  pair_listed = λ before after v l other e. grind (arith, common_steps, nat_tests, list_any-append);
}
