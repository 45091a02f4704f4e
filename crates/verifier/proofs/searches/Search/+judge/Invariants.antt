use Rattle.verifier.proofs.searches.Search.+judge.Given as goal

abbrev pub decreases-judge : goal.decreases-judge
decreases-judge g l = l.depth
