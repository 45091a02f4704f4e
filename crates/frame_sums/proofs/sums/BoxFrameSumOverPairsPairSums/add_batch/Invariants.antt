use Rattle.std.proofs.Common.{◌++◌, List, take}
use Rattle.rounds.specs.declared.work.PairAdd.{PairAdd}
use Rattle.frame_sums.specs.PairSums.{AreSumsOfPairs}
use Rattle.frame_sums.specs.Rows.{adds_from}
use Rattle.frame_sums.proofs.sums.BoxFrameSumOverPairsPairSums.add_batch.Given as goal

-- the sums over some pairs have become the sums over these pairs and the batch's pairs before k
abbrev pub invariant-loop-k : goal.invariant-loop-k
invariant-loop-k g l =
    (done : List PairAdd) → AreSumsOfPairs l.self.frac l.self.ring.now l.self.core l.self.places.now done l.fn.sum
    → AreSumsOfPairs l.self.frac l.self.ring.now l.self.core l.self.places.now (done ++ take l.k (adds_from 0 l.scratch.found.pairs l.scratch.forces)) l.sum
