use Rattle.std.proofs.Common.{arith, rules}
use Rattle.integrator.proofs.StepLemmas.{there_and_back}
use Rattle.integrator.proofs.displacement.next_place.Goals as goal

pub returns-clause-value : goal.returns-clause-value
returns-clause-value c = search rules

pub returns-clause-back : goal.returns-clause-back
returns-clause-back c = rw (returns-clause-value c) (there_and_back c.args.before c.args.middle c.args.displacement (omega arith))
