use Rattle.std.proofs.Common.{rules}
use Rattle.std.specs.Int.{w128}
use Rattle.std.proofs.lemmas.Int.{to_z-of_z}
use mir.Val.{SFits}
use Rattle.interval_domain.proofs.RangeLemmas.{over_ordered, range_same}
use Rattle.interval_domain.proofs.ranges.over.Goals as goal

pub invariant_of-result : goal.invariant_of-result
invariant_of-result c =
    let a : SFits w128 c.args.x.low = search rules in
    let b : SFits w128 c.args.x.high = search rules in
    let d = c.ranges.d in
    let p : SFits w128 c.floor_div.result = search rules in
    let q : SFits w128 c.up_over.result = search rules in
    let pe = simp to_z-of_z at c.floor_div.ensures.value in
    let qe = simp to_z-of_z at c.up_over.ensures in
    let o = over_ordered c.args.x.low c.args.x.high c.args.d c.args.x.ordered c.requires.positive in
    record { ordered = simp to_z-of_z (rw (pe, qe) o) }

pub returns : goal.returns
returns c =
    let a : SFits w128 c.args.x.low = search rules in
    let b : SFits w128 c.args.x.high = search rules in
    let d = c.ranges.d in
    let p : SFits w128 c.floor_div.result = search rules in
    let q : SFits w128 c.up_over.result = search rules in
    let pe = simp to_z-of_z at c.floor_div.ensures.value in
    let qe = simp to_z-of_z at c.up_over.ensures in
    simp to_z-of_z (range_same c.floor_div.result c.up_over.result _ _ pe qe)
