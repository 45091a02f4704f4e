use Rattle.std.proofs.Common.{◌*◌, map}
use Rattle.ring_box.specs.FoundPairs.{AreMeasuredBefore, scaled}
use Rattle.ring_box.proofs.reaches.Reach.find_distances.Given as goal

abbrev pub invariant-loop-i : goal.invariant-loop-i
invariant-loop-i l = record {
  measured : AreMeasuredBefore l.self l.count (map (scaled l.ring) l.pairs) l.apart (4 * l.i) l.distances;
}
