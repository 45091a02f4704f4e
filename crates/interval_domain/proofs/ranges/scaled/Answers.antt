use Rattle.std.proofs.Common.{rules}
use Rattle.std.specs.Int.{w128}
use Rattle.std.proofs.lemmas.Int.{to_z-of_z}
use mir.Val.{SFits}
use Rattle.interval_domain.proofs.RangeLemmas.{scaled_ordered}
use Rattle.interval_domain.proofs.ranges.scaled.Goals as goal

pub invariant_of-result : goal.invariant_of-result
invariant_of-result c =
    let a : SFits w128 c.args.x.low = search rules in
    let b : SFits w128 c.args.x.high = search rules in
    let d = c.ranges.c in
    let p : SFits w128 c.product.result = search rules in
    let q : SFits w128 c.product-2.result = search rules in
    let pe = simp to_z-of_z at c.product.ensures in
    let qe = simp to_z-of_z at c.product-2.ensures in
    let o = scaled_ordered c.args.x.low c.args.x.high c.args.c c.args.x.ordered c.requires.factor in
    record { ordered = simp to_z-of_z (rw (pe, qe) o) }
