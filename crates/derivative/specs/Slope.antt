-- The table of derivatives with respect to the distance, as a partial function of values; it builds no tree. It applies
-- to trees after definitions are substituted, and the first row that matches counts. A tree that is free of the
-- distance has slope 0, whether or not it has a value. The table is generic in its numbers: `slope_of` here is its
-- fixed-point instance, `exact_slope` in Exact its instance over exact numbers.
use Rattle.std.specs.Prelude.{ℕ, ◌+◌, ◌*◌, ◌^◌, ◌-◌, ℤ, pos, negsuc, Bool, true, false, ◌==◌, ◌&&◌, if◌then◌else◌, List, Option, Some}
use Rattle.fixed.specs.Arithmetic.{one}
use Rattle.fixed.specs.declared.operations.Operator.{Operator}
use Rattle.fixed.specs.declared.operations.Operator.TheVariants as op
use Rattle.fixed.specs.declared.operations.Function.{Function}
use Rattle.fixed.specs.declared.operations.Function.TheVariants as f
use Rattle.energy_program.specs.Tree.{Tree, Number, Input, Definition, Negated, Binary, Applied, Power, Select, is_free_of_distance}
use Rattle.energy_program.specs.Value.{negative, sum, difference, product, square, quotient, square_root, step, power, selected, value_of}

-- the operations that the table uses, on values that may be missing
pub record Operations (V : Type 0) : Type 0 where
  pub zero : V
  pub one : V
  pub whole : ℕ → Option V
  pub negative : Option V → Option V
  pub sum : Option V → Option V → Option V
  pub difference : Option V → Option V → Option V
  pub product : Option V → Option V → Option V
  pub quotient : Option V → Option V → Option V
  pub square : Option V → Option V
  pub square_root : Option V → Option V
  pub step : Option V → Option V
  pub power : Option V → ℤ → Option V
  pub selected : Option V → Option V → Option V → Option V

-- ---- the table

-- `u` and `v` are the values of the parts, `du` and `dv` their slopes. The rows of products and quotients depend on
-- which part, left or right, is free of the distance; both never are, since then the whole tree is free.
abbrev pub product_row : {V : Type 0} → Operations V → Bool → Bool → Option V → Option V → Option V → Option V → Option V
product_row on true free_v u v du dv = on.product u dv
product_row on false true u v du dv = on.product du v
product_row on false false u v du dv = on.sum (on.product du v) (on.product u dv)

abbrev pub quotient_row : {V : Type 0} → Operations V → Bool → Bool → Option V → Option V → Option V → Option V → Option V
quotient_row on free_u true u v du dv = on.quotient du v
quotient_row on true false u v du dv = on.quotient (on.negative (on.product u dv)) (on.square v)
quotient_row on false false u v du dv = on.quotient (on.difference (on.product du v) (on.product u dv)) (on.square v)

abbrev pub operation_row : {V : Type 0} → Operations V → Operator → Bool → Bool → Option V → Option V → Option V → Option V → Option V
operation_row on op.Add free_u free_v u v du dv = on.sum du dv
operation_row on op.Subtract free_u free_v u v du dv = on.difference du dv
operation_row on op.Multiply free_u free_v u v du dv = product_row on free_u free_v u v du dv
operation_row on op.Divide free_u free_v u v du dv = quotient_row on free_u free_v u v du dv
operation_row on op.Minimum free_u free_v u v du dv = on.selected (on.step (on.difference v u)) du dv
operation_row on op.Maximum free_u free_v u v du dv = on.selected (on.step (on.difference u v)) du dv

-- a flat function has slope 0, and its argument needs no value
abbrev pub applied_row : {V : Type 0} → Operations V → Function → Option V → Option V → Option V
applied_row on f.SquareRoot u du = on.quotient du (on.product (on.whole 2) (on.square_root u))
applied_row on f.Absolute u du = on.selected (on.step u) du (on.negative du)
applied_row on (f.Flat g) u du = Some on.zero

-- the power rule; negsuc m is -(m + 1)
abbrev pub power_row : {V : Type 0} → Operations V → Option V → ℤ → Option V → Option V
power_row on u (pos n) du = if n == 1 then du else on.product (on.product (on.whole n) (on.power u (pos (n - 1)))) du
power_row on u (negsuc m) du = on.negative (on.quotient (on.product (on.whole (m + 1)) du) (on.power u (pos (m + 2))))

-- zero for a tree that is free of the distance, whether or not a slope exists
abbrev pub unless_constant : {V : Type 0} → V → Bool → Option V → Option V
unless_constant zero true slope = Some zero
unless_constant zero false slope = slope

-- the slope of a tree, if `value` gives the values of its subtrees
abbrev pub slope_by : {V : Type 0} → Operations V → (Tree → Option V) → Tree → Option V
slope_by on value (Number c) = Some on.zero
slope_by on value (Input i) = Some (if i == 0 then on.one else on.zero)
slope_by on value (Definition j) = Some on.zero
slope_by on value (Negated a) = unless_constant on.zero (is_free_of_distance a) (on.negative (slope_by on value a))
slope_by on value (Binary o a b) =
    unless_constant on.zero (is_free_of_distance a && is_free_of_distance b)
    (operation_row on o (is_free_of_distance a) (is_free_of_distance b) (value a) (value b) (slope_by on value a) (slope_by on value b))
slope_by on value (Applied g a) = unless_constant on.zero (is_free_of_distance a) (applied_row on g (value a) (slope_by on value a))
slope_by on value (Power a n) = unless_constant on.zero (is_free_of_distance a) (power_row on (value a) n (slope_by on value a))
slope_by on value (Select x a b) =
    unless_constant on.zero (is_free_of_distance x && (is_free_of_distance a && is_free_of_distance b))
    (on.selected (value x) (slope_by on value a) (slope_by on value b))

-- ---- the table over fixed-point numbers

-- the integer n as a fixed-point value
abbrev pub whole : ℕ → ℕ → Option ℤ
whole bits n = Some (pos (n * 2 ^ bits))

-- the fixed-point operations with `bits` fraction bits
abbrev pub fixed_point : ℕ → Operations ℤ
fixed_point bits =
    record {
      zero = pos 0;
      one = one bits;
      whole = whole bits;
      negative = negative;
      sum = sum;
      difference = difference;
      product = product bits;
      quotient = quotient bits;
      square = square bits;
      square_root = square_root bits;
      step = step bits;
      power = power bits;
      selected = selected;
    }

abbrev pub product_slope : ℕ → Bool → Bool → Option ℤ → Option ℤ → Option ℤ → Option ℤ → Option ℤ
product_slope bits free_u free_v u v du dv = product_row (fixed_point bits) free_u free_v u v du dv

abbrev pub quotient_slope : ℕ → Bool → Bool → Option ℤ → Option ℤ → Option ℤ → Option ℤ → Option ℤ
quotient_slope bits free_u free_v u v du dv = quotient_row (fixed_point bits) free_u free_v u v du dv

abbrev pub operation_slope : ℕ → Operator → Bool → Bool → Option ℤ → Option ℤ → Option ℤ → Option ℤ → Option ℤ
operation_slope bits o free_u free_v u v du dv = operation_row (fixed_point bits) o free_u free_v u v du dv

abbrev pub applied_slope : ℕ → Function → Option ℤ → Option ℤ → Option ℤ
applied_slope bits g u du = applied_row (fixed_point bits) g u du

abbrev pub power_slope : ℕ → Option ℤ → ℤ → Option ℤ → Option ℤ
power_slope bits u n du = power_row (fixed_point bits) u n du

abbrev pub zero_or : Bool → Option ℤ → Option ℤ
zero_or free slope = unless_constant (pos 0) free slope

-- the slope of a tree with `bits` fraction bits on these inputs: the distance first, then the others
abbrev pub slope_of : ℕ → List ℤ → Tree → Option ℤ
slope_of bits inputs tree = slope_by (fixed_point bits) (value_of bits inputs) tree
