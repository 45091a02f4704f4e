use Rattle.std.proofs.Common.{rules}
use Rattle.fixed.specs.Fractions.{bits_of}
use Rattle.interval_domain.proofs.OperationLemmas.{unary_cause, unary_least}
use Rattle.interval_domain.proofs.operations.unary_span.Goals as goal

pub returns-clause-range : goal.returns-clause-range
returns-clause-range c = search rules

pub returns-clause-span : goal.returns-clause-span
returns-clause-span c = unary_least (bits_of c.args.frac) c.args.operator c.args.a _ (returns-clause-range c)

pub returns-clause-fault : goal.returns-clause-fault
returns-clause-fault c = unary_cause (bits_of c.args.frac) c.args.operator c.args.a _ (returns-clause-range c)
