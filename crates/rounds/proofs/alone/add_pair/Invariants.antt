use Rattle.std.proofs.Common.{Some, take}
use Rattle.rounds.specs.Tiles.{additions_of}
use Rattle.rounds.specs.Totals.{GoesOn}
use Rattle.rounds.proofs.alone.add_pair.Given as goal

abbrev pub invariant-loop-part : goal.invariant-loop-part
invariant-loop-part l = GoesOn l.fn.sums (take l.part (additions_of (Some l.add))) l.sums
