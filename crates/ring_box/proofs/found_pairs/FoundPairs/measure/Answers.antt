use Rattle.std.proofs.Common.{arith, map}
use Rattle.ring_box.specs.FoundPairs.{scaled}
use Rattle.ring_box.proofs.FoundLemmas.{near_all}
use Rattle.ring_box.proofs.found_pairs.FoundPairs.measure.Goals as goal

pub find_distances-self-inside-requires-clause-lengths : goal.find_distances-self-inside-requires-clause-lengths
find_distances-self-inside-requires-clause-lengths c =
    let f = c.self.inside in
    near_all f.reach f.count (map (scaled f.ring) f.lanes.pairs) f.lanes.x f.lanes.y f.lanes.z f.lanes.squares c.near_lengths.new.lengths c.self.invariant.0.fits c.self.invariant.1 c.near_lengths.ensures

pub invariant_of-self : goal.invariant_of-self
invariant_of-self c =
    let f = c.self.inside in
    let i = c.self.invariant in
    let found = c.find_distances-self-inside.ensures in (
      i.0,
      i.1,
      record {
        before = omega arith;
        lengths' = near_all f.reach f.count (map (scaled f.ring) f.lanes.pairs) f.lanes.x f.lanes.y f.lanes.z f.lanes.squares c.near_lengths.new.lengths i.0.fits i.1 c.near_lengths.ensures;
        taken = found.taken;
        apart' = found.apart;
      },
    )
