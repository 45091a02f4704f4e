use Rattle.curves.specs.Slices.{Part}
use Rattle.curves.proofs.PartLaws.{IsWorstBefore}
use Rattle.curves.proofs.slices.worst.Given as goal

-- the worst of the parts before the index
abbrev pub invariant-loop-i : goal.invariant-loop-i
invariant-loop-i l = (part : Part) × IsWorstBefore l.column l.parts l.i l.worst part
