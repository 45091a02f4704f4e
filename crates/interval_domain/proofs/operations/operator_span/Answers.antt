use Rattle.std.proofs.Common.{rules}
use Rattle.fixed.specs.Fractions.{bits_of}
use Rattle.interval_domain.proofs.OperationLemmas.{operator_cause, operator_least}
use Rattle.interval_domain.proofs.operations.operator_span.Goals as goal

pub returns-else-divides-clause-range : goal.returns-else-divides-clause-range
returns-else-divides-clause-range c = search rules

pub returns-else-divides-clause-span : goal.returns-else-divides-clause-span
returns-else-divides-clause-span c =
    operator_least (bits_of c.args.frac) c.args.operator c.args.a c.args.b _ (returns-else-divides-clause-range c)

pub returns-else-divides-clause-fault : goal.returns-else-divides-clause-fault
returns-else-divides-clause-fault c =
    operator_cause (bits_of c.args.frac) c.args.operator c.args.a c.args.b _ (returns-else-divides-clause-range c)
