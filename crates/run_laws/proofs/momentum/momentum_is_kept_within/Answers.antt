use Rattle.run_laws.proofs.MomentumLaws.{atoms_keep, balanced_keep, steps_keep}
use Rattle.run_laws.proofs.momentum.momentum_is_kept_within.Goals as goal

pub returns-clause-balanced : goal.returns-clause-balanced
returns-clause-balanced c = balanced_keep

pub returns-clause-steps : goal.returns-clause-steps
returns-clause-steps c = steps_keep

pub returns-clause-atoms : goal.returns-clause-atoms
returns-clause-atoms c = atoms_keep
