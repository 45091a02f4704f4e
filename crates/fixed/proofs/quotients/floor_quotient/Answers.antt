-- Without answers the check closes the goals too, after a search of seconds.
use Rattle.std.proofs.Common.{rules}
use Rattle.fixed.proofs.quotients.floor_quotient.Goals as goal

pub returns-else-d-gt0 : goal.returns-else-d-gt0
returns-else-d-gt0 c = search rules
