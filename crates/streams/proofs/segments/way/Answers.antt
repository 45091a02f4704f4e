-- the counter fits after each of the steps, since it does at both ends
use Rattle.std.proofs.Common.{rules}
use Rattle.engine.proofs.EngineLaws.{each_fits}
use Rattle.integrator.specs.declared.direction.Direction.TheVariants.{Forward, Back}
use Rattle.fixed.proofs.IntegerLaws.{in_range_is}
use Rattle.streams.proofs.segments.way.Goals as goal

pub returns-then-from-to-clause-each : goal.returns-then-from-to-clause-each
returns-then-from-to-clause-each c = each_fits Forward c.args.from c.abs_diff.result (in_range_is c.args.from (search rules)) (search rules)

pub returns-else-from-to-clause-each : goal.returns-else-from-to-clause-each
returns-else-from-to-clause-each c = each_fits Back c.args.from c.abs_diff-else-from-to.result (in_range_is c.args.from (search rules)) (search rules)
