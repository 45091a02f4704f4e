use Rattle.run_laws.proofs.MomentumLaws.{steps_balanced, third_law}
use Rattle.run_laws.proofs.momentum.newtons_third_law.Goals as goal

pub returns-clause-forces : goal.returns-clause-forces
returns-clause-forces c = third_law

pub returns-clause-steps : goal.returns-clause-steps
returns-clause-steps c = steps_balanced
