use Rattle.std.proofs.Common.{◌≡◌, ◌≤◌, ◌-◌, length, take}
use Rattle.ring_box.specs.FoundPairs.{AreLanesHeld, found_among, found_in}
use Rattle.ring_box.proofs.found_pairs.FoundPairs.fill.Given as goal

abbrev pub invariant-loop-k : goal.invariant-loop-k
invariant-loop-k l = record {
  tried : l.k ≤ length l.near;
  held : AreLanesHeld l.reach l.ring l.l l.lanes;
  found : found_in l.reach l.ring l.l l.lanes ≡ found_among l.reach l.ring l.frame (take l.k l.near);
}

abbrev pub decreases-loop-k : goal.decreases-loop-k
decreases-loop-k l = length l.near - l.k
