use Rattle.std.proofs.Common.{arith, rules, sym, ap, ◌∙◌}
use Rattle.std.specs.Str.Parse.{digits_value_after}
use Rattle.fixed.specs.Numerals.{spoils}
use Rattle.fixed.proofs.NumeralLemmas.{decimal_is}
use Rattle.fixed.proofs.numerals.decimal_front.Goals as goal

pub returns-clause-value : goal.returns-clause-value
returns-clause-value c =
    let whole = c.split_digits.ensures in
    let fraction = c.split_fraction.ensures in
    let exponent = c.split_exponent-power.ensures in
    decimal_is c.args.text.now _ _ _ _ _ _ c.in_ok-power.field-0 _ whole.digits whole.after fraction.digits fraction.after exponent.after (sym c.in_ok-power.was ∙ exponent.power)
    (ap (λ q. spoils q c.split_exponent-power.result.1.now) (sym c.has_point.ensures) ∙ sym c.spoils.ensures ∙ c.if-spoils.false)
    (omega (arith, c.if-whole-fraction-eq0.false)) (omega (arith, c.if-whole-gt18.false, c.if-fraction-whole.false)) (c.append_digits-2.ensures ∙ ap (λ n. digits_value_after 10 n c.split_fraction.result.0.now) c.append_digits.ensures) (search rules)
