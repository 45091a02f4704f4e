use Rattle.std.proofs.Common.{◌≡◌}
use Rattle.curves.proofs.LeastLaws.{outcomes_from}
use Rattle.curves.proofs.slices.bound_of_all.Given as goal

-- the outcomes of the entries from the index on
abbrev pub invariant-loop-index : goal.invariant-loop-index
invariant-loop-index l = l.outcomes ≡ outcomes_from l.column l.entries l.index
