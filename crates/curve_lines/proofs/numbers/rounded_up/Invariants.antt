use Rattle.std.proofs.Common.{◌≡◌, ◌*◌, ◌^◌, ◌<◌, ◌≤◌, ◌-◌, ℕ}
use Rattle.curve_lines.proofs.numbers.rounded_up.Given as goal

-- The unit is the denominator times a power of ten, which leaves three digits, and each smaller power leaves more.
abbrev pub invariant-loop-unit : goal.invariant-loop-unit
invariant-loop-unit l = record {
  unit : l.unit ≡ 10 ^ l.exponent * l.fn.denominator;
  positive : 0 < l.unit;
  enough : 99 * l.unit < l.fn.numerator;
  bound : l.unit < 2 ^ 115;
  power : 2 ^ l.exponent ≤ l.unit;
  least : (h : ℕ) → h < l.exponent → 999 * (10 ^ h * l.fn.denominator) < l.fn.numerator;
}

abbrev pub decreases-loop-unit : goal.decreases-loop-unit
decreases-loop-unit l = l.numerator - l.unit
