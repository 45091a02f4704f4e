use Rattle.error_bounds.proofs.powers.+whole_power.Given as goal

abbrev pub decreases-whole_power : goal.decreases-whole_power
decreases-whole_power l = l.n
