use Rattle.std.proofs.Common.{◌<◌}
use Rattle.ring_box.specs.Acting.{limit_of}
use Rattle.ring_box.proofs.DistanceLemmas.{within_reach}
use Rattle.ring_box.proofs.reaches.Reach.distance.Goals as goal

pub outside_core-requires-clause-near : goal.outside_core-requires-clause-near
outside_core-requires-clause-near c =
    let i = c.self.inside in
    let near : c.args.s < limit_of i.frac i.cutoff = rw (← c.self.view_is) at c.requires.near in
    rw (c.distance_by_root.ensures) (within_reach i.frac c.args.s i.core i.cutoff c.self.invariant.0.core c.self.invariant.0.order near)
