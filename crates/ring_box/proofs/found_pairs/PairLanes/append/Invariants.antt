use Rattle.std.proofs.Common.{◌≡◌, ◌≤◌, ◌+◌, ◌++◌, map, take}
use Rattle.ring_box.specs.FoundPairs.{AreHeld, found_among, found_from, found_in, scaled}
use Rattle.ring_box.proofs.found_pairs.PairLanes.append.Given as goal

abbrev pub invariant-loop-k : goal.invariant-loop-k
invariant-loop-k l = record {
  room : l.l ≤ l.count + l.k;
  held : AreHeld l.reach l.l (map (scaled l.ring) l.pairs) l.x l.y l.z l.squares;
  found : map (found_from l.reach) (take l.l (map (scaled l.ring) l.pairs)) ≡ found_in l.reach l.ring l.count l.fn.self ++ found_among l.reach l.ring l.frame (take l.k l.near);
}
