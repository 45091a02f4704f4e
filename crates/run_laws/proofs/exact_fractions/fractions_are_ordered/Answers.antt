use Rattle.run_laws.proofs.ExistingFractions.{decimal_exists, quotient_exists, root_exists}
use Rattle.run_laws.proofs.FractionOrder.{are_ordered}
use Rattle.run_laws.proofs.exact_fractions.fractions_are_ordered.Goals as goal

pub returns-clause-order : goal.returns-clause-order
returns-clause-order c = are_ordered

pub returns-clause-quotients : goal.returns-clause-quotients
returns-clause-quotients c = quotient_exists

pub returns-clause-roots : goal.returns-clause-roots
returns-clause-roots c = root_exists

pub returns-clause-decimals : goal.returns-clause-decimals
returns-clause-decimals c = decimal_exists
