use Rattle.std.proofs.Common.{◌-◌, ◌≤◌, ◌++◌, List, length, map, take}
use Rattle.pair_lists.specs.PairLists.{list_at}
use Rattle.ring_box.specs.declared.found_pairs.FoundPair.{FoundPair}
use Rattle.rounds.specs.Tiles.{acting}
use Rattle.frame_sums.specs.Rows.{found_of}
use Rattle.frame_sums.proofs.frame_pairs.FramePairs.add_tile.Given as goal

abbrev pub decreases-loop-k : goal.decreases-loop-k
decreases-loop-k g l = l.pairs - l.k

-- the sum covers the pairs summed before the tile, then the tile's interacting pairs before the pair k
abbrev pub invariant-loop-k : goal.invariant-loop-k
invariant-loop-k g l =
    let s = l.self.system.now.system in
    let frame = l.self.frame.now in
    let pairs = list_at l.self.system.now.lists l.tile in
    record {
      within : l.k ≤ length pairs;
      sum : (done : List FoundPair) → g.T.SumOverPairs.is_sum l.rule s done l.fn.sum
          → g.T.SumOverPairs.is_sum l.rule s (done ++ acting (map (found_of s frame) (take l.k pairs))) l.sum;
    }
