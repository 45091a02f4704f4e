-- Without an answer the check closes the goal too, after a search of seconds.
use Rattle.std.proofs.Common.{rules}
use Rattle.fixed.proofs.plain.mul.Goals as goal

pub returns : goal.returns
returns c = search rules
