-- Without answers the check closes the goals too, after a search of seconds.
use Rattle.std.proofs.Common.{rules}
use Rattle.fixed.proofs.checked.checked_sqrt.Goals as goal

pub returns-in-Ok-clause-value : goal.returns-in-Ok-clause-value
returns-in-Ok-clause-value c = search rules

pub returns-in-Ok-clause-greatest : goal.returns-in-Ok-clause-greatest
returns-in-Ok-clause-greatest c = search rules
