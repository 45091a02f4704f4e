use Rattle.std.proofs.Common.{take}
use Rattle.rounds.specs.Tiles.{additions_of_all}
use Rattle.rounds.specs.Totals.{GoesOn}
use Rattle.frame_sums.specs.Rows.{adds_from}
use Rattle.frame_sums.proofs.force_sums.ForceSumSumOverPairsForces.add_batch.Given as goal

-- the forces of the pairs before l have been added
abbrev pub invariant-loop-l : goal.invariant-loop-l
invariant-loop-l g l = GoesOn l.fn.sum (additions_of_all (take l.l (adds_from 0 l.scratch.found.pairs l.scratch.forces))) l.sum
