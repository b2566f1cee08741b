use Rattle.std.proofs.Common.{rules}
use Rattle.faults.specs.declared.Refusal.TheVariants.{CountOutOfLimits, TestOutOfForm, UnknownColumn}
use Rattle.queries.specs.Arms.{arm_of, arm_counted, arm_in_form, arm_within}
use Rattle.queries.proofs.Told.{told_of_arms}
use Rattle.queries.proofs.arms.Query.check.Goals as goal

pub returns-in_err-refuse_first : goal.returns-in_err-refuse_first
returns-in_err-refuse_first c =
    let arms = c.args.self.now.arms.now in
    let counts = told_of_arms arm_counted CountOutOfLimits arms c.refuse_first.result (c.refuse_first.ensures (λ arm. arm_counted (arm_of arm)) (λ arm told says. search rules)) in
    search rules

pub returns-in_err-refuse_first-2 : goal.returns-in_err-refuse_first-2
returns-in_err-refuse_first-2 c =
    let arms = c.args.self.now.arms.now in
    let counts = told_of_arms arm_counted CountOutOfLimits arms c.refuse_first.result (c.refuse_first.ensures (λ arm. arm_counted (arm_of arm)) (λ arm told says. search rules)) in
    let form = told_of_arms arm_in_form TestOutOfForm arms c.refuse_first-2.result (c.refuse_first-2.ensures (λ arm. arm_in_form (arm_of arm)) (λ arm told says. search rules)) in
    search rules

pub returns : goal.returns
returns c =
    let arms = c.args.self.now.arms.now in
    let counts = told_of_arms arm_counted CountOutOfLimits arms c.refuse_first.result (c.refuse_first.ensures (λ arm. arm_counted (arm_of arm)) (λ arm told says. search rules)) in
    let form = told_of_arms arm_in_form TestOutOfForm arms c.refuse_first-2.result (c.refuse_first-2.ensures (λ arm. arm_in_form (arm_of arm)) (λ arm told says. search rules)) in
    let within = told_of_arms arm_within UnknownColumn arms c.refuse_first-3.result (c.refuse_first-3.ensures (λ arm. arm_within (arm_of arm)) (λ arm told says. search rules)) in
    search rules
