use Rattle.std.proofs.lemmas.Int.{to_z-of_z}
use Rattle.interval_domain.proofs.RangeLemmas.{hull_same}
use Rattle.interval_domain.proofs.ranges.ends_around.Goals as goal

pub returns : goal.returns
returns c =
    let p = c.ranges.p in
    let q = c.ranges.q in
    let r = c.ranges.r in
    let s = c.ranges.s in
    hull_same _ _ _ _ _ (simp to_z-of_z at c.ends_between.ensures) (simp to_z-of_z at c.ends_between-2.ensures) c.ends_hull.ensures
