use Rattle.std.proofs.Common.{sym, ◌∙◌}
use Rattle.std.proofs.lemmas.Bool.{eqb-false}
use Rattle.job.proofs.NumberLemmas.{mass_is, mass_bad_whole, mass_bad_part}
use Rattle.job.proofs.numbers.decimal_mass.Goals as goal

pub returns-in_default-clause-value : goal.returns-in_default-clause-value
returns-in_default-clause-value c = mass_bad_whole 1001 c.args.whole.now c.args.part.now c.in_default.ensures.exact

pub returns-in_default-digits-clause-value : goal.returns-in_default-digits-clause-value
returns-in_default-digits-clause-value c = mass_bad_part c.args.whole.now c.args.part.now c.in_default-digits.ensures.exact

pub returns-clause-value : goal.returns-clause-value
returns-clause-value c =
    c.within.ensures.value
    ∙ mass_is c.args.whole.now c.args.part.now _ _ _ (eqb-false _ _ (sym c.is_empty.ensures ∙ c.if-is_empty.false)) c.if-part-gt5.false c.in-Some.ensures.exact c.in-Some-digits.ensures.exact c.power_of_ten.ensures.exact
