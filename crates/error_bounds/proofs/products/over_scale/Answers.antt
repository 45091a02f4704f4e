use Rattle.std.proofs.Common.{pos, ◌<ℤ◌, arith, rules}
use Rattle.std.specs.Int.{w128}
use Rattle.std.proofs.lemmas.Int.{ints, to_z-of_z}
use mir.Val.{SFits}
use Rattle.fixed.specs.Fractions.{bits_of}
use Rattle.interval_domain.proofs.RangeLemmas.{over_ordered}
use Rattle.error_bounds.specs.Approximations.{scale}
use Rattle.error_bounds.proofs.Bounded.{scale_above_zero}
use Rattle.error_bounds.proofs.products.over_scale.Goals as goal

pub invariant_of-result : goal.invariant_of-result
invariant_of-result c =
    let x = c.args.x in
    let a : SFits w128 x.low = search rules in
    let b : SFits w128 x.high = search rules in
    let p : SFits w128 c.floor_over_scale.result = search rules in
    let q : SFits w128 c.negative.result = search rules in
    let r : SFits w128 c.floor_over_scale-2.result = search rules in
    let s : SFits w128 c.negative-2.result = search rules in
    let l = simp to_z-of_z at c.floor_over_scale.ensures.value in
    let m = simp to_z-of_z at c.negative.ensures in
    let n = simp to_z-of_z at c.floor_over_scale-2.ensures.value in
    let h = simp to_z-of_z at c.negative-2.ensures in
    let one = scale_above_zero (bits_of c.args.frac) in
    let above : pos 0 <ℤ pos (scale (bits_of c.args.frac)) = omega (arith, ints, one) in
    let o = over_ordered x.low x.high (pos (scale (bits_of c.args.frac))) x.ordered above in
    record { ordered = simp to_z-of_z (rw (l, h, n, m) o) }
