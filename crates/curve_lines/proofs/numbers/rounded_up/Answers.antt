use Rattle.std.proofs.Common.{arith}
use Rattle.curve_lines.proofs.NumberLaws.{few_exponents, next_least, next_power, next_unit}
use Rattle.curve_lines.proofs.numbers.rounded_up.Goals as goal

pub overflow_add-exponent : goal.overflow_add-exponent
overflow_add-exponent c =
    let kept = c.loop-unit.invariant in
    omega (arith, few_exponents c.loop-unit.exponent c.loop-unit.unit kept.power kept.bound)

pub loop-unit-preserved : goal.loop-unit-preserved
loop-unit-preserved c =
    let kept = c.loop-unit.invariant in
    let more = c.loop-unit-test.true in
    let bound = c.requires.numerator_bound in
    let positive = kept.positive in
    record {
      unit = next_unit c.loop-unit.exponent c.args.denominator c.loop-unit.unit kept.unit;
      positive = omega arith;
      enough = omega arith;
      bound = omega arith;
      power = next_power c.loop-unit.exponent c.loop-unit.unit kept.power;
      least = next_least c.loop-unit.exponent c.args.denominator c.loop-unit.unit c.args.numerator kept.unit more kept.least;
    }

pub returns-clause-few : goal.returns-clause-few
returns-clause-few c =
    few_exponents c.loop-unit.exponent c.loop-unit.unit c.loop-unit.invariant.power c.loop-unit.invariant.bound
