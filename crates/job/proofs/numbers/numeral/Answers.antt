use Rattle.std.proofs.Common.{IfOk, ◌≤ℤ◌, pos, subst, sym}
use Rattle.fixed.specs.Fractions.{bits_of}
use Rattle.fixed.proofs.NumeralLemmas.{reading_least}
use Rattle.std.proofs.Common.{ℤ}
use Rattle.job.specs.Numbers.{Reading, numeral_of}
use Rattle.job.proofs.numbers.numeral.Goals as goal

pub returns-clause-value : goal.returns-clause-value
unfolding numeral_of
returns-clause-value c = c.numeral.ensures.exact

pub returns-clause-least : goal.returns-clause-least
returns-clause-least c = subst (λ (r : Reading ℤ). IfOk r (λ v. pos 0 ≤ℤ v)) (sym c.numeral.ensures.exact) (reading_least (bits_of c.args.frac) c.args.word.now)
