use Rattle.std.proofs.Common.{rules}
use Rattle.std.specs.Int.{w128}
use Rattle.std.proofs.lemmas.Int.{to_z-of_z}
use mir.Val.{SFits}
use Rattle.interval_domain.specs.Views.{range_of}
use Rattle.interval_domain.proofs.RangeLemmas.{quotients_are, quotients_ordered}
use Rattle.interval_domain.proofs.ranges.quotients.Goals as goal

pub invariant_of-result : goal.invariant_of-result
invariant_of-result c =
    let a : SFits w128 c.args.x.low = search rules in
    let b : SFits w128 c.args.x.high = search rules in
    let l : SFits w128 c.ends_hull-lows.result.low = search rules in
    let h : SFits w128 c.ends_hull-highs.result.high = search rules in
    let are = quotients_are (range_of c.args.x) (range_of c.args.y) _ _ _ _ _ _ (simp to_z-of_z at c.floors.ensures) (simp to_z-of_z at c.floors-2.ensures)
    (simp to_z-of_z at c.ceilings.ensures) (simp to_z-of_z at c.ceilings-2.ensures) c.ends_hull-lows.ensures c.ends_hull-highs.ensures in
    record { ordered = simp to_z-of_z (quotients_ordered (range_of c.args.x) (range_of c.args.y) _ c.args.y.ordered c.requires.nonzero are) }

pub returns : goal.returns
returns c =
    let a : SFits w128 c.args.x.low = search rules in
    let b : SFits w128 c.args.x.high = search rules in
    let l : SFits w128 c.ends_hull-lows.result.low = search rules in
    let h : SFits w128 c.ends_hull-highs.result.high = search rules in
    simp to_z-of_z (quotients_are (range_of c.args.x) (range_of c.args.y) _ _ _ _ _ _ (simp to_z-of_z at c.floors.ensures) (simp to_z-of_z at c.floors-2.ensures)
    (simp to_z-of_z at c.ceilings.ensures) (simp to_z-of_z at c.ceilings-2.ensures) c.ends_hull-lows.ensures c.ends_hull-highs.ensures)
