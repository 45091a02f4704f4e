use Rattle.derivative.proofs.prune.+rank.Given as goal

abbrev pub decreases-rank : goal.decreases-rank
decreases-rank l = l.number
