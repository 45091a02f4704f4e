use Rattle.std.proofs.Common.{Result, IfOk, true, false, sym, subst, ◌∙◌}
use Rattle.fixed.specs.Constants.{IsConstantReading, IsRead}
use Rattle.fixed.specs.Fractions.{bits_of}
use Rattle.fixed.specs.declared.constants.Constant.{Constant}
use Rattle.fixed.specs.declared.faults.NumFault.{NumFault}
use Rattle.fixed.proofs.ConstantLemmas.{constant_within}
use Rattle.fixed.proofs.NumeralLemmas.{constant_some, constant_none, constant_reading_is}
use Rattle.fixed.proofs.numerals.constant.Goals as goal

pub returns-in_default-clause-exact : goal.returns-in_default-clause-exact
returns-in_default-clause-exact c = let h = rw c.in_default.is at c.decimal_front.ensures.value in sym (constant_none (bits_of c.args.frac) c.args.text.now h)

pub returns-in_default-clause-reading : goal.returns-in_default-clause-reading
returns-in_default-clause-reading c =
    subst (λ (r : Result Constant NumFault). IsConstantReading (bits_of c.args.frac) c.args.text.now r) (sym (returns-in_default-clause-exact c))
    (constant_reading_is (bits_of c.args.frac) c.args.text.now)

pub returns-then-is_empty-clause-exact : goal.returns-then-is_empty-clause-exact
returns-then-is_empty-clause-exact c =
    c.decimal_constant.ensures ∙ sym (constant_some (bits_of c.args.frac) c.args.text.now c.in-Some.rest.now c.in-Some.decimal true c.in-Some.ensures.value (sym c.if-is_empty.ensures))

pub returns-then-is_empty-clause-reading : goal.returns-then-is_empty-clause-reading
returns-then-is_empty-clause-reading c =
    subst (λ (r : Result Constant NumFault). IsConstantReading (bits_of c.args.frac) c.args.text.now r) (sym (returns-then-is_empty-clause-exact c))
    (constant_reading_is (bits_of c.args.frac) c.args.text.now)

pub returns-then-is_empty-clause-read : goal.returns-then-is_empty-clause-read
returns-then-is_empty-clause-read c =
    subst (λ (r : Result Constant NumFault). IfOk r IsRead) (sym (returns-then-is_empty-clause-exact c)) (constant_within (bits_of c.args.frac) c.args.text.now)

pub returns-else-is_empty-clause-exact : goal.returns-else-is_empty-clause-exact
returns-else-is_empty-clause-exact c =
    sym (constant_some (bits_of c.args.frac) c.args.text.now c.in-Some.rest.now c.in-Some.decimal false c.in-Some.ensures.value (sym c.if-is_empty.ensures))

pub returns-else-is_empty-clause-reading : goal.returns-else-is_empty-clause-reading
returns-else-is_empty-clause-reading c =
    subst (λ (r : Result Constant NumFault). IsConstantReading (bits_of c.args.frac) c.args.text.now r) (sym (returns-else-is_empty-clause-exact c))
    (constant_reading_is (bits_of c.args.frac) c.args.text.now)
