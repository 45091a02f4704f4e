-- Without answers the check closes the goals too, after a search of seconds.
use Rattle.std.proofs.Common.{arith}
use Rattle.std.proofs.lemmas.Grind.{common_steps}
use Rattle.interval_domain.proofs.span.Span.contains.Goals as goal

pub returns-then-raw : goal.returns-then-raw
returns-then-raw c = grind (arith, common_steps)

pub returns-else-raw : goal.returns-else-raw
returns-else-raw c = grind (arith, common_steps)
