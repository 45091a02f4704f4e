use Rattle.std.proofs.Common.{◌∙◌, rules}
use Rattle.std.specs.Int.{w128}
use Rattle.std.proofs.lemmas.Int.{to_z-of_z}
use mir.Val.{SFits}
use Rattle.interval_domain.proofs.RangeLemmas.{range_same}
use Rattle.interval_domain.specs.Views.{range_of}
use Rattle.error_bounds.proofs.CornerLaws.{quotients_are, quotients_in_order}
use Rattle.error_bounds.proofs.corners.quotients_above.Goals as goal

pub invariant_of-result : goal.invariant_of-result
invariant_of-result c =
    let x = c.args.x in
    let y = c.args.y in
    let a : SFits w128 x.low = search rules in
    let b : SFits w128 x.high = search rules in
    let p : SFits w128 c.least_quotient.result = search rules in
    let q : SFits w128 c.greatest_quotient.result = search rules in
    let l = simp to_z-of_z at c.least_quotient.ensures.value in
    let h = simp to_z-of_z at c.greatest_quotient.ensures in
    let t = quotients_are (range_of x) (range_of y) x.ordered c.requires.positive y.ordered in
    record { ordered = simp to_z-of_z (quotients_in_order (range_of x) (range_of y) _ _ y.ordered c.requires.positive (range_same _ _ _ _ l h ∙ t)) }

pub returns : goal.returns
returns c =
    let x = c.args.x in
    let y = c.args.y in
    let a : SFits w128 x.low = search rules in
    let b : SFits w128 x.high = search rules in
    let p : SFits w128 c.least_quotient.result = search rules in
    let q : SFits w128 c.greatest_quotient.result = search rules in
    let l = simp to_z-of_z at c.least_quotient.ensures.value in
    let h = simp to_z-of_z at c.greatest_quotient.ensures in
    simp to_z-of_z (range_same _ _ _ _ l h ∙ quotients_are (range_of x) (range_of y) x.ordered c.requires.positive y.ordered)
