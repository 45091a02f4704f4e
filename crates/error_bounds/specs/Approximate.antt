-- The operations of energies on approximations, as an instance of the operations of the table of derivatives.
use Rattle.std.specs.Prelude.{ℕ, zero, suc, ℤ, pos, negsuc, ◌*◌, ◌/◌, ◌%◌, ◌^◌, ◌==◌, if◌then◌else◌, Option, Some, None}
use Rattle.fixed.specs.Arithmetic.{one}
use Rattle.fixed.specs.declared.operations.Operator.{Operator}
use Rattle.fixed.specs.declared.operations.Operator.TheVariants as op
use Rattle.fixed.specs.declared.operations.UnaryOperator.TheVariants as unary
use Rattle.fixed.specs.declared.operations.Function.{Function}
use Rattle.fixed.specs.declared.operations.Function.TheVariants as f
use Rattle.fixed.specs.declared.operations.FlatFunction.TheVariants as flat
use Rattle.derivative.specs.Exact.{on_one, on_two}
use Rattle.derivative.specs.Slope.{Operations}
use Rattle.error_bounds.specs.Approximations.{Approximation}
use Rattle.error_bounds.specs.Rules.{exactly, operator_rule, select_rule, unary_rule}

-- x to the power n, n at least 1, by squaring, as the program computes it; the first argument bounds the number of
-- halvings of n
unfoldable pub power_within : ℕ → ℕ → Approximation → ℕ → Option Approximation
power_within zero bits x n = Some x
power_within (suc halvings) bits x n =
    if n == 1 then Some x
    else if n % 2 == 0 then on_one (unary_rule bits unary.Square) (power_within halvings bits x (n / 2))
    else on_one (λ y. operator_rule bits op.Multiply y x) (on_one (unary_rule bits unary.Square) (power_within halvings bits x (n / 2)))

-- x to the power n, n not 0; for negative n, one divided by the power -n
abbrev pub power_rule : ℕ → ℤ → Approximation → Option Approximation
power_rule bits (pos n) x = power_within n bits x n
power_rule bits (negsuc m) x = on_one (operator_rule bits op.Divide (exactly (one bits))) (power_within (suc m) bits x (suc m))

-- the second value if the first isn't 0, else the third
abbrev pub selected : (x y z : Option Approximation) → Option Approximation
selected None y z = None
selected (Some x) y z = select_rule x y z

-- the operations on approximations of numbers with `bits` fraction bits
abbrev pub approximate : ℕ → Operations Approximation
approximate bits =
    record {
      zero = exactly (pos 0);
      one = exactly (one bits);
      whole = λ n. Some (exactly (pos (n * 2 ^ bits)));
      negative = on_one (unary_rule bits unary.Negate);
      sum = on_two (operator_rule bits op.Add);
      difference = on_two (operator_rule bits op.Subtract);
      product = on_two (operator_rule bits op.Multiply);
      quotient = on_two (operator_rule bits op.Divide);
      square = on_one (unary_rule bits unary.Square);
      square_root = on_one (unary_rule bits (unary.Apply f.SquareRoot));
      step = on_one (unary_rule bits (unary.Apply (f.Flat flat.Step)));
      power = λ x n. on_one (power_rule bits n) x;
      selected = selected;
    }

-- the approximation of a binary operation
abbrev pub operation : ℕ → Operator → (x y : Option Approximation) → Option Approximation
operation bits o x y = on_two (operator_rule bits o) x y

-- the approximation of a function
abbrev pub applied : ℕ → Function → Option Approximation → Option Approximation
applied bits g x = on_one (unary_rule bits (unary.Apply g)) x
