use Rattle.std.proofs.Common.{rules}
use Rattle.fixed.specs.Fractions.{bits_of}
use Rattle.fixed.proofs.MultipleLemmas.{ceiling_is}
use Rattle.fixed.proofs.whole.checked_ceil.Goals as goal

pub returns-clause-least : goal.returns-clause-least
returns-clause-least c = ceiling_is (bits_of c.args.frac) c.args.a _ (search rules)
