use Rattle.std.proofs.Common.{◌∙◌, neg_ℤ, ap, rules}
use Rattle.std.specs.Int.{w128}
use Rattle.std.proofs.lemmas.Int.{to_z-of_z}
use mir.Val.{SFits}
use Rattle.error_bounds.proofs.CornerLaws.{greatest_is}
use Rattle.error_bounds.proofs.corners.greatest_quotient.Goals as goal

pub returns : goal.returns
returns c =
    let d = c.args.d in
    let n = c.ranges.n in
    let a : SFits w128 d.low = search rules in
    let b : SFits w128 d.high = search rules in
    let p : SFits w128 c.negative.result = search rules in
    let q : SFits w128 c.least_quotient.result = search rules in
    let r : SFits w128 c.negative-2.result = search rules in
    let m = simp to_z-of_z at c.negative.ensures in
    let l = simp to_z-of_z at c.least_quotient.ensures.value in
    let h = simp to_z-of_z at c.negative-2.ensures in
    simp to_z-of_z (h ∙ ap neg_ℤ (rw m at l) ∙ greatest_is c.args.n d.low d.high)
