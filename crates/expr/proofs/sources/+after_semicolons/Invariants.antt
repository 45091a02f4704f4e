use Rattle.std.proofs.Common.{length}
use Rattle.expr.proofs.sources.+after_semicolons.Given as goal

abbrev pub decreases-after_semicolons : goal.decreases-after_semicolons
decreases-after_semicolons l = length l.tokens.now
