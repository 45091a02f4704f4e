use Rattle.verifier.proofs.Repeats.{AreAlikeBelow}
use Rattle.verifier.proofs.searches.Search.are_alike.Given as goal

abbrev pub invariant-loop-number : goal.invariant-loop-number
invariant-loop-number g l = AreAlikeBelow l.self.table.now l.first l.second l.self.core l.number
