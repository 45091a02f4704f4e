use Rattle.std.proofs.Common.{arith, rules}
use Rattle.std.proofs.lemmas.Grind.{common_steps}
use Rattle.fixed.specs.Fractions.{bits_of}
use Rattle.fixed.proofs.MultipleLemmas.{whole_is}
use Rattle.fixed.proofs.whole.floor.Goals as goal

pub returns-clause-value : goal.returns-clause-value
returns-clause-value c = search rules

pub returns-clause-greatest : goal.returns-clause-greatest
returns-clause-greatest c = whole_is (bits_of c.args.frac) c.args.a _ (returns-clause-value c)

pub overflow_cast-whole : goal.overflow_cast-whole
overflow_cast-whole c = grind (arith, common_steps)
