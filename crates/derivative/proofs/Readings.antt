-- Readings of trees: the value of each written row, over any numbers with these operations.
use Rattle.std.proofs.Common.{◌≡◌, ℕ, ◌==◌, ℤ, pos, negsuc, Bool, true, false, if◌then◌else◌, List, Option, Some, None, refl, ap, subst, sym}
use Rattle.std.specs.Bool.{IsTrue}
use Rattle.fixed.specs.Constants.{exactly}
use Rattle.fixed.specs.Arithmetic.{one, in_range, power_within}
use Rattle.fixed.specs.declared.operations.Operator.{Operator}
use Rattle.fixed.specs.declared.operations.Operator.TheVariants as op
use Rattle.fixed.specs.declared.operations.Function.{Function}
use Rattle.fixed.specs.declared.operations.Function.TheVariants as f
use Rattle.energy_program.specs.Tree.{Tree, Number, Input, Definition, Negated, Binary, Applied, Power, Select, is_free_of_distance}
use Rattle.energy_program.specs.Value.{square, power, value_of}
use Rattle.derivative.specs.Slope.{Operations, fixed_point, operation_row, applied_row, power_row, unless_constant, slope_by}
use Rattle.derivative.specs.Written.{operation_tree, applied_tree, power_tree}
use Rattle.derivative.proofs.Ranges.{Fits, slope_fits, sign_times}

-- the trees that are written for the rows have the rows' values
pub record Reads {V : Type 0} (bits : ℕ) (on : Operations V) (value : Tree → Option V) : Type 0 where
  pub zero : value (Number (exactly (pos 0))) ≡ Some on.zero
  pub one : value (Number (exactly (one bits))) ≡ Some on.one
  pub negated : (x : Tree) → value (Negated x) ≡ on.negative (value x)
  pub operation : (o : Operator) (p q : Bool) (u v du dv : Tree)
      → value (operation_tree o p q u v du dv) ≡ operation_row on o p q (value u) (value v) (value du) (value dv)
  pub applied : (g : Function) (u du e : Tree) → value du ≡ slope_by on value e → value (applied_tree bits g u du) ≡ applied_row on g (value u) (value du)
  pub power : (k : ℤ) (u du : Tree) → value (power_tree bits k u du) ≡ power_row on (value u) k (value du)
  pub select : (c a b : Tree) → value (Select c a b) ≡ on.selected (value c) (value a) (value b)

zero_at : {V : Type 0} (o : V) (b : Bool) (x : Option V) → b ≡ true → unless_constant o b x ≡ Some o
zero_at o true x h = refl
zero_at o false x h = absurd (cc)

input_at : {V : Type 0} (o i : V) (b : Bool) → (if b then false else true) ≡ true → (if b then i else o) ≡ o
input_at o i true h = absurd (cc)
input_at o i false h = refl

-- A tree that is free of the distance has slope 0.
pub free_slope : {V : Type 0} (on : Operations V) (value : Tree → Option V) (e : Tree) → is_free_of_distance e ≡ true → slope_by on value e ≡ Some on.zero
free_slope on value (Number c) h = refl
free_slope on value (Input i) h = ap Some (input_at on.zero on.one (i == 0) h)
free_slope on value (Definition j) h = refl
free_slope on value (Negated a) h = zero_at _ _ _ h
free_slope on value (Binary o a b) h = zero_at _ _ _ h
free_slope on value (Applied g a) h = zero_at _ _ _ h
free_slope on value (Power a n) h = zero_at _ _ _ h
free_slope on value (Select c a b) h = zero_at _ _ _ h

-- the value of a choice of trees
pub value_if : {V : Type 0} (value : Tree → Option V) (b : Bool) (x y : Tree) → value (if b then x else y) ≡ (if b then value x else value y)
value_if value true x y = refl
value_if value false x y = refl

-- ---- of fixed-point numbers

module _ (bits : ℕ) (one_fits : IsTrue (in_range (one bits))) (inputs : List ℤ) where
  power_two : (x : Option ℤ) → power bits x (pos 2) ≡ square bits x
  unfolding power_within
  power_two None = refl
  power_two (Some x) = refl

  fixed_operation : (o : Operator) (p q : Bool) (u v du dv : Tree)
      → value_of bits inputs (operation_tree o p q u v du dv)
      ≡ operation_row (fixed_point bits) o p q (value_of bits inputs u) (value_of bits inputs v) (value_of bits inputs du) (value_of bits inputs dv)
  fixed_operation op.Multiply true q u v du dv = refl
  fixed_operation op.Multiply false true u v du dv = refl
  fixed_operation op.Multiply false false u v du dv = refl
  fixed_operation op.Divide p true u v du dv = refl
  fixed_operation op.Divide true false u v du dv = rw (power_two (value_of bits inputs v)) refl
  fixed_operation op.Divide false false u v du dv = rw (power_two (value_of bits inputs v)) refl
  fixed_operation _ p q u v du dv = refl

  fixed_applied : (g : Function) (u du e : Tree) → value_of bits inputs du ≡ slope_by (fixed_point bits) (value_of bits inputs) e
      → value_of bits inputs (applied_tree bits g u du) ≡ applied_row (fixed_point bits) g (value_of bits inputs u) (value_of bits inputs du)
  fixed_applied f.SquareRoot u du e is = refl
  fixed_applied f.Absolute u du e is = sign_times bits (value_of bits inputs u) (value_of bits inputs du) (subst Fits (sym is) (slope_fits bits one_fits inputs e))
  fixed_applied (f.Flat g) u du e is = refl

  fixed_power : (k : ℤ) (u du : Tree) → value_of bits inputs (power_tree bits k u du) ≡ power_row (fixed_point bits) (value_of bits inputs u) k (value_of bits inputs du)
  fixed_power (pos n) u du = value_if (value_of bits inputs) (n == 1) du _
  fixed_power (negsuc m) u du = refl

  -- the trees that are written for the rows have the rows' fixed-point values
  pub fixed_reads : Reads bits (fixed_point bits) (value_of bits inputs)
  fixed_reads =
      record {
        zero = refl;
        one = refl;
        negated = λ x. refl;
        operation = fixed_operation;
        applied = fixed_applied;
        power = fixed_power;
        select = λ c a b. refl;
      }
