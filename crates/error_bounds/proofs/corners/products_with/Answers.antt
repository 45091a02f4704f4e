use Rattle.std.proofs.Common.{rules}
use Rattle.std.specs.Int.{w128}
use Rattle.std.proofs.lemmas.Int.{to_z-of_z}
use mir.Val.{SFits}
use Rattle.interval_domain.proofs.RangeLemmas.{range_same}
use Rattle.error_bounds.proofs.corners.products_with.Goals as goal

pub invariant_of-result : goal.invariant_of-result
invariant_of-result c =
    let p : SFits w128 c.least_product.result = search rules in
    let q : SFits w128 c.greatest_product.result = search rules in
    let n = c.ranges.least in
    let m = c.ranges.greatest in
    let l = simp to_z-of_z at c.least_product.ensures in
    let h = simp to_z-of_z at c.greatest_product.ensures in
    record { ordered = simp to_z-of_z (rw (l, h) c.requires.ordered) }

pub returns : goal.returns
returns c =
    let p : SFits w128 c.least_product.result = search rules in
    let q : SFits w128 c.greatest_product.result = search rules in
    let n = c.ranges.least in
    let m = c.ranges.greatest in
    simp to_z-of_z (range_same _ _ _ _ (simp to_z-of_z at c.least_product.ensures) (simp to_z-of_z at c.greatest_product.ensures))
