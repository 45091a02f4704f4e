use Rattle.std.proofs.Common.{take}
use Rattle.pair_lists.specs.PairLists.{lists_of}
use Rattle.frame_sums.specs.Rows.{pairs_found}
use Rattle.frame_sums.proofs.frame_pairs.FramePairs.add_all.Given as goal

-- the sum over the pairs of the tiles so far
abbrev pub invariant-loop-tile : goal.invariant-loop-tile
invariant-loop-tile g l =
    let s = l.self.system.now.system in
    g.T.SumOverPairs.is_sum l.rule s (pairs_found s l.self.frame.now (take l.tile (lists_of l.self.system.now.lists))) l.sum
