use Rattle.std.proofs.Common.{Result, ℕ, List, sym, subst, ap, ◌∙◌}
use Rattle.std.proofs.lemmas.Result.{err_from_is_err_and}
use Rattle.fixed.specs.Constants.{IsConstantFrontReading}
use Rattle.fixed.specs.Fractions.{bits_of}
use Rattle.fixed.specs.Numerals.{with_rest}
use Rattle.fixed.specs.declared.constants.Constant.{Constant}
use Rattle.fixed.specs.declared.faults.NumFault.{NumFault}
use Rattle.fixed.proofs.NumeralLemmas.{constant_front_some, constant_front_none, constant_front_reading}
use Rattle.fixed.proofs.numerals.constant_front.Goals as goal

pub returns-in_default-clause-exact : goal.returns-in_default-clause-exact
returns-in_default-clause-exact c = let h = rw c.in_default.is at c.decimal_front.ensures.value in sym (constant_front_none (bits_of c.args.frac) c.args.text.now h)

pub returns-in_default-clause-reading : goal.returns-in_default-clause-reading
returns-in_default-clause-reading c =
    subst (λ (r : Result (Constant × List ℕ) NumFault). IsConstantFrontReading (bits_of c.args.frac) c.args.text.now r) (sym (returns-in_default-clause-exact c))
    (constant_front_reading (bits_of c.args.frac) c.args.text.now)

pub returns-in_err-value-clause-exact : goal.returns-in_err-value-clause-exact
returns-in_err-value-clause-exact c =
    let p = err_from_is_err_and c.from_residual.result c.from_residual.ensures.1 in
    rw (p.1, p.2) (ap (with_rest c.in-Some.rest.now) c.in_err-value.ensures
    ∙ sym (constant_front_some (bits_of c.args.frac) c.args.text.now c.in-Some.rest.now c.in-Some.decimal c.in-Some.ensures.value))

pub returns-in_err-value-clause-reading : goal.returns-in_err-value-clause-reading
returns-in_err-value-clause-reading c =
    subst (λ (r : Result (Constant × List ℕ) NumFault). IsConstantFrontReading (bits_of c.args.frac) c.args.text.now r) (sym (returns-in_err-value-clause-exact c))
    (constant_front_reading (bits_of c.args.frac) c.args.text.now)

pub returns-clause-exact : goal.returns-clause-exact
returns-clause-exact c =
    ap (with_rest c.in-Some.rest.now) c.in_ok-value.ensures
    ∙ sym (constant_front_some (bits_of c.args.frac) c.args.text.now c.in-Some.rest.now c.in-Some.decimal c.in-Some.ensures.value)

pub returns-clause-reading : goal.returns-clause-reading
returns-clause-reading c =
    subst (λ (r : Result (Constant × List ℕ) NumFault). IsConstantFrontReading (bits_of c.args.frac) c.args.text.now r) (sym (returns-clause-exact c))
    (constant_front_reading (bits_of c.args.frac) c.args.text.now)
