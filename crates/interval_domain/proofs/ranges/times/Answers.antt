use Rattle.std.proofs.Common.{◌*ℤ◌, ◌^◌, ◌-◌, rules}
use Rattle.std.specs.Int.{w128}
use Rattle.std.proofs.lemmas.Int.{to_z-of_z}
use mir.Val.{SFits}
use Rattle.interval_domain.proofs.RangeLemmas.{corners_small, hull_same}
use Rattle.interval_domain.proofs.ranges.times.Goals as goal

pub multiples-requires-2 : goal.multiples-requires-2
multiples-requires-2 c =
    let x = c.args.x in
    let y = c.args.y in
    let a : SFits w128 x.high = search rules in
    let k = corners_small (2 ^ 127 - 1) (x.low *ℤ y.low) (x.low *ℤ y.high) (x.high *ℤ y.low) (x.high *ℤ y.high) c.requires in
    record { low = simp to_z-of_z k.2; high = simp to_z-of_z k.3 }

pub returns : goal.returns
returns c =
    let a : SFits w128 c.args.x.low = search rules in
    let b : SFits w128 c.args.x.high = search rules in
    hull_same _ _ _ _ _ (simp to_z-of_z at c.multiples.ensures) (simp to_z-of_z at c.multiples-2.ensures) c.ends_hull.ensures
