use Rattle.std.proofs.Common.{◌∙◌, arith, rules}
use Rattle.std.specs.Int.{w128}
use Rattle.std.proofs.lemmas.Int.{ints, to_z-of_z}
use mir.Val.{SFits}
use Rattle.error_bounds.proofs.CornerLaws.{products_kept, products_turned}
use Rattle.error_bounds.proofs.corners.least_product.Goals as goal

pub returns-then-n-lt0 : goal.returns-then-n-lt0
returns-then-n-lt0 c =
    let x = c.args.x in
    let a : SFits w128 x.low = search rules in
    let b : SFits w128 x.high = search rules in
    let p : SFits w128 c.product.result = search rules in
    let n = c.ranges.n in
    let t = simp to_z-of_z at c.if-n-lt0.true in
    simp to_z-of_z (simp to_z-of_z at c.product.ensures ∙ (products_turned x.low x.high c.args.n x.ordered (omega (arith, ints, t))).0)

pub returns-else-n-lt0 : goal.returns-else-n-lt0
returns-else-n-lt0 c =
    let x = c.args.x in
    let a : SFits w128 x.low = search rules in
    let b : SFits w128 x.high = search rules in
    let p : SFits w128 c.product-else-n-lt0.result = search rules in
    let n = c.ranges.n in
    let t = simp to_z-of_z at c.if-n-lt0.false in
    simp to_z-of_z
    (simp to_z-of_z at c.product-else-n-lt0.ensures ∙ (products_kept x.low x.high c.args.n x.ordered (omega (arith, ints, t))).0)
