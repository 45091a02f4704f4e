use Rattle.std.proofs.Common.{◌∙◌, arith, rules}
use Rattle.std.specs.Int.{w128}
use Rattle.std.proofs.lemmas.Int.{ints, to_z-of_z}
use mir.Val.{SFits}
use Rattle.error_bounds.proofs.CornerLaws.{least_of_greatest, least_of_least}
use Rattle.error_bounds.proofs.corners.least_quotient.Goals as goal

pub returns-then-n-lt0-clause-value : goal.returns-then-n-lt0-clause-value
returns-then-n-lt0-clause-value c =
    let d = c.args.d in
    let a : SFits w128 d.low = search rules in
    let b : SFits w128 d.high = search rules in
    let p : SFits w128 c.floor_div.result = search rules in
    let n = c.ranges.n in
    let t = simp to_z-of_z at c.if-n-lt0.true in
    simp to_z-of_z
    (simp to_z-of_z at c.floor_div.ensures.value ∙ least_of_least c.args.n d.low d.high (omega (arith, ints, t)) c.requires.positive d.ordered)

pub returns-else-n-lt0-clause-value : goal.returns-else-n-lt0-clause-value
returns-else-n-lt0-clause-value c =
    let d = c.args.d in
    let a : SFits w128 d.low = search rules in
    let b : SFits w128 d.high = search rules in
    let p : SFits w128 c.floor_div-else-n-lt0.result = search rules in
    let n = c.ranges.n in
    let t = simp to_z-of_z at c.if-n-lt0.false in
    simp to_z-of_z
    (simp to_z-of_z at c.floor_div-else-n-lt0.ensures.value
    ∙ least_of_greatest c.args.n d.low d.high (omega (arith, ints, t)) c.requires.positive d.ordered)
