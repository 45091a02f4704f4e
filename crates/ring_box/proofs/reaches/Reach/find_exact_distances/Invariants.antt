use Rattle.std.proofs.Common.{map}
use Rattle.ring_box.specs.FoundPairs.{AreExactlyMeasured, scaled}
use Rattle.ring_box.proofs.reaches.Reach.find_exact_distances.Given as goal

abbrev pub invariant-loop-l : goal.invariant-loop-l
invariant-loop-l l = record {
  measured : AreExactlyMeasured l.self (map (scaled l.ring) l.pairs) l.first l.l l.apart l.fn.distances l.distances;
}
