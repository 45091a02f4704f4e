use Rattle.std.proofs.Common.{◌≡◌, ◌-◌, ◌<◌, ◌∙◌, ap, arith, length, refl, sym}
use Rattle.curves.specs.Slices.{bound_of}
use Rattle.formula_bounds.specs.Walks.{of_outcomes_if_there}
use Rattle.curves.proofs.LeastLaws.{last_outcomes, one_more_outcomes, outcomes_from}
use Rattle.curves.proofs.slices.bound_of_all.Goals as goal

pub loop-index-init : goal.loop-index-init
loop-index-init c =
    last_outcomes c.args.column c.args.entries.now (length c.args.entries.now - 1) c.index-entries-last.result c.in_entry.result.now
    c.outcomes_of-outcomes.result c.requires refl c.index-entries-last.is c.in_entry.ensures c.outcomes_of-outcomes.ensures

pub loop-index-preserved : goal.loop-index-preserved
loop-index-preserved c =
    let below : c.loop-index.index < length c.args.entries.now = omega (arith, c.loop-index.auto.index, c.requires) in
    one_more_outcomes c.args.column c.args.entries.now c.loop-index.index c.index-entries-index.result c.in_entry-in-loop-index.result.now
    c.outcomes_of.result c.loop-index.outcomes c.either_of-outcomes.result c.loop-index-test.true below c.index-entries-index.is
    c.in_entry-in-loop-index.ensures c.outcomes_of.ensures c.loop-index.invariant c.either_of-outcomes.ensures

pub returns-in-Some : goal.returns-in-Some
returns-in-Some c =
    let zero : c.loop-index.index ≡ 0 = omega (arith, c.loop-index-test.false) in
    let all = sym c.in-Some.is ∙ c.loop-index.invariant ∙ ap (outcomes_from c.args.column c.args.entries.now) zero in
    c.bound_of.ensures ∙ ap bound_of c.approximation.ensures ∙ ap (λ t. bound_of (of_outcomes_if_there t)) all
