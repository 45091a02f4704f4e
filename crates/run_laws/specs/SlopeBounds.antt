-- A derivative has a magnitude of at most 2^63, as each operation gives a 64-bit number or none.
use Rattle.std.proofs.Common.{◌≡◌, ℕ, ◌+◌, ◌-◌, ◌^◌, ◌<◌, ◌≤◌, ℤ, pos, negsuc, Bool, true, false, List, Option, Some, None, Result, Ok, Err, arith, refl}
use Rattle.std.specs.Prelude.{unsigned_abs, neg_ℤ, ◌+ℤ◌, ◌-ℤ◌, ◌*ℤ◌, ◌&&◌, ◌==◌, if◌then◌else◌}
use Rattle.std.proofs.lemmas.Bool.{ltb-true}
use Rattle.fixed.specs.declared.faults.Fault.{Fault}
use Rattle.fixed.specs.declared.faults.Fault.TheVariants.{Overflow, ZeroDivisor}
use Rattle.fixed.specs.declared.frac.Frac.{Frac}
use Rattle.fixed.specs.declared.frac.Frac.TheVariants.{F24, F32, F40}
use Rattle.fixed.specs.Fractions.{bits_of}
use Rattle.fixed.specs.Arithmetic.{number_or_overflow, in_range, sum_of, difference_of, negative_of, product_of, quotient_of, one, is_zero, floor_of, floor_over}
use Rattle.fixed.specs.declared.operations.Operator.{Operator}
use Rattle.fixed.specs.declared.operations.Operator.TheVariants as op
use Rattle.fixed.specs.declared.operations.Function.{Function}
use Rattle.fixed.specs.declared.operations.Function.TheVariants as function
use Rattle.energy_program.specs.Tree.{Tree, Number, Input, Definition, Negated, Binary, Applied, Power, Select, is_free_of_distance}
use Rattle.energy_program.specs.Value.{difference, negative, number_of, on_one, on_two, power, product, quotient, selected, square, square_root, step, value_of}
use Rattle.kernel_code.specs.declared.traps.Trap.{Trap}
use Rattle.run_laws.specs.Outcomes.{where_given}
use Rattle.derivative.specs.Slope.{applied_slope, operation_slope, power_slope, product_slope, quotient_slope, slope_of, whole, zero_or}

-- the number, if there is one, has a magnitude of at most 2^63
pub IsBounded : Option ℤ → Type 0
IsBounded o = (g : ℤ) → o ≡ Some g → unsigned_abs g ≤ 2 ^ 63

some_alike : (x y : ℤ) → Some x ≡ Some y → x ≡ y
some_alike x y e = cc

none_is_no_some : (x : ℤ) → ◌≡◌ {A = Option ℤ} None (Some x) → ⊥
none_is_no_some x e = cc

in_range_bounded : (z : ℤ) → in_range z ≡ true → unsigned_abs z ≤ 2 ^ 63
in_range_bounded (pos n) h = let l : n < 2 ^ 63 = ltb-true n (2 ^ 63) h in omega arith
in_range_bounded (negsuc n) h = let l : n < 2 ^ 63 = ltb-true n (2 ^ 63) h in omega arith

chosen_bounded : (b : Bool) (z : ℤ) (f : Fault) → in_range z ≡ b → IsBounded (number_of (if b then Ok z else Err f))
unfolding IsBounded
chosen_bounded true z f h g e = rw (← some_alike z g e) (in_range_bounded z h)
chosen_bounded false z f h g e = absurd (none_is_no_some g e)

overflow_bounded : (z : ℤ) → IsBounded (number_of (number_or_overflow z))
overflow_bounded z = chosen_bounded (in_range z) z Overflow refl

none_bounded : IsBounded None
unfolding IsBounded
none_bounded g e = absurd (none_is_no_some g e)

one_bounded : (f : ℤ → Result ℤ Fault) → ((x : ℤ) → IsBounded (number_of (f x))) → (o : Option ℤ) → IsBounded (on_one f o)
one_bounded f h None = none_bounded
one_bounded f h (Some x) = h x

two_bounded : (f : ℤ → ℤ → Result ℤ Fault) → ((x y : ℤ) → IsBounded (number_of (f x y))) → (o p : Option ℤ) → IsBounded (on_two f o p)
two_bounded f h None p = none_bounded
two_bounded f h (Some x) p = one_bounded (f x) (h x) p

guarded_bounded : (b : Bool) (r : Result ℤ Fault) (f : Fault) → IsBounded (number_of r) → IsBounded (number_of (if b then Err f else r))
guarded_bounded true r f h = none_bounded
guarded_bounded false r f h = h

quotient_bounded : (bits : ℕ) (x y : ℤ) → IsBounded (number_of (quotient_of bits x y))
quotient_bounded bits x y =
    guarded_bounded (is_zero y) (number_or_overflow (floor_of (x *ℤ one bits) y)) ZeroDivisor
    (overflow_bounded (floor_of (x *ℤ one bits) y))

zero_bounded : IsBounded (Some (pos 0))
unfolding IsBounded
zero_bounded g e = rw (← some_alike (pos 0) g e) (omega arith)

one_fits : (f : Frac) → 2 ^ bits_of f ≤ 2 ^ 63
one_fits F24 = omega arith
one_fits F32 = omega arith
one_fits F40 = omega arith

input_bounded : (f : Frac) (b : Bool) → IsBounded (Some (if b then one (bits_of f) else pos 0))
unfolding IsBounded
input_bounded f true g e = rw (← some_alike (one (bits_of f)) g e) (one_fits f)
input_bounded f false g e = rw (← some_alike (pos 0) g e) (omega arith)

sum_bounded : (x y : ℤ) → IsBounded (number_of (sum_of x y))
sum_bounded x y = overflow_bounded (x +ℤ y)

difference_bounded : (x y : ℤ) → IsBounded (number_of (difference_of x y))
difference_bounded x y = overflow_bounded (x -ℤ y)

negative_bounded : (x : ℤ) → IsBounded (number_of (negative_of x))
negative_bounded x = overflow_bounded (neg_ℤ x)

product_bounded : (bits : ℕ) (x y : ℤ) → IsBounded (number_of (product_of bits x y))
product_bounded bits x y = overflow_bounded (floor_over (x *ℤ y) (2 ^ bits))

product_slope_bounded : (bits : ℕ) (p q : Bool) (u v du dv : Option ℤ) → IsBounded (product_slope bits p q u v du dv)
product_slope_bounded bits true q u v du dv = two_bounded (product_of bits) (product_bounded bits) u dv
product_slope_bounded bits false true u v du dv = two_bounded (product_of bits) (product_bounded bits) du v
product_slope_bounded bits false false u v du dv = two_bounded sum_of sum_bounded (product bits du v) (product bits u dv)

quotient_slope_bounded : (bits : ℕ) (p q : Bool) (u v du dv : Option ℤ) → IsBounded (quotient_slope bits p q u v du dv)
quotient_slope_bounded bits p true u v du dv = two_bounded (quotient_of bits) (quotient_bounded bits) du v
quotient_slope_bounded bits true false u v du dv =
    two_bounded (quotient_of bits) (quotient_bounded bits) (negative (product bits u dv)) (square bits v)
quotient_slope_bounded bits false false u v du dv =
    two_bounded (quotient_of bits) (quotient_bounded bits) (difference (product bits du v) (product bits u dv)) (square bits v)

either_bounded : (b : Bool) (x y : Option ℤ) → IsBounded x → IsBounded y → IsBounded (if b then x else y)
either_bounded true x y p q = p
either_bounded false x y p q = q

selected_bounded : (o x y : Option ℤ) → IsBounded x → IsBounded y → IsBounded (selected o x y)
selected_bounded None x y p q = none_bounded
selected_bounded (Some z) x y p q = either_bounded (is_zero z) y x q p

operation_slope_bounded : (bits : ℕ) (o : Operator) (p q : Bool) (u v du dv : Option ℤ) → IsBounded du → IsBounded dv
    → IsBounded (operation_slope bits o p q u v du dv)
operation_slope_bounded bits op.Add p q u v du dv hu hv = two_bounded sum_of sum_bounded du dv
operation_slope_bounded bits op.Subtract p q u v du dv hu hv = two_bounded difference_of difference_bounded du dv
operation_slope_bounded bits op.Multiply p q u v du dv hu hv = product_slope_bounded bits p q u v du dv
operation_slope_bounded bits op.Divide p q u v du dv hu hv = quotient_slope_bounded bits p q u v du dv
operation_slope_bounded bits op.Minimum p q u v du dv hu hv = selected_bounded (step bits (difference v u)) du dv hu hv
operation_slope_bounded bits op.Maximum p q u v du dv hu hv = selected_bounded (step bits (difference u v)) du dv hu hv

applied_slope_bounded : (bits : ℕ) (g : Function) (u du : Option ℤ) → IsBounded du → IsBounded (applied_slope bits g u du)
applied_slope_bounded bits function.SquareRoot u du h =
    two_bounded (quotient_of bits) (quotient_bounded bits) du (product bits (whole bits 2) (square_root bits u))
applied_slope_bounded bits function.Absolute u du h =
    selected_bounded (step bits u) du (negative du) h (one_bounded negative_of negative_bounded du)
applied_slope_bounded bits (function.Flat g) u du h = zero_bounded

power_slope_bounded : (bits : ℕ) (u : Option ℤ) (n : ℤ) (du : Option ℤ) → IsBounded du → IsBounded (power_slope bits u n du)
power_slope_bounded bits u (pos n) du h =
    either_bounded (n == 1) du _ h
    (two_bounded (product_of bits) (product_bounded bits) (product bits (whole bits n) (power bits u (pos (n - 1)))) du)
power_slope_bounded bits u (negsuc m) du h =
    one_bounded negative_of negative_bounded (quotient bits (product bits (whole bits (m + 1)) du) (power bits u (pos (m + 2))))

zero_or_bounded : (free : Bool) (o : Option ℤ) → IsBounded o → IsBounded (zero_or free o)
zero_or_bounded true o h = zero_bounded
zero_or_bounded false o h = h

tree_bounded : (f : Frac) (inputs : List ℤ) (t : Tree) → IsBounded (slope_of (bits_of f) inputs t)
tree_bounded f inputs (Number z) = zero_bounded
tree_bounded f inputs (Input i) = input_bounded f (i == 0)
tree_bounded f inputs (Definition j) = zero_bounded
tree_bounded f inputs (Negated a) =
    zero_or_bounded (is_free_of_distance a) _ (one_bounded negative_of negative_bounded (slope_of (bits_of f) inputs a))
tree_bounded f inputs (Binary o a b) =
    zero_or_bounded (is_free_of_distance a && is_free_of_distance b) _
    (operation_slope_bounded (bits_of f) o (is_free_of_distance a) (is_free_of_distance b)
    (value_of (bits_of f) inputs a) (value_of (bits_of f) inputs b) (slope_of (bits_of f) inputs a) (slope_of (bits_of f) inputs b)
    (tree_bounded f inputs a) (tree_bounded f inputs b))
tree_bounded f inputs (Applied g a) =
    zero_or_bounded (is_free_of_distance a) _
    (applied_slope_bounded (bits_of f) g (value_of (bits_of f) inputs a) (slope_of (bits_of f) inputs a) (tree_bounded f inputs a))
tree_bounded f inputs (Power a n) =
    zero_or_bounded (is_free_of_distance a) _
    (power_slope_bounded (bits_of f) (value_of (bits_of f) inputs a) n (slope_of (bits_of f) inputs a) (tree_bounded f inputs a))
tree_bounded f inputs (Select x a b) =
    zero_or_bounded (is_free_of_distance x && (is_free_of_distance a && is_free_of_distance b)) _
    (selected_bounded (value_of (bits_of f) inputs x) (slope_of (bits_of f) inputs a) (slope_of (bits_of f) inputs b)
    (tree_bounded f inputs a) (tree_bounded f inputs b))

slope_bounded : (f : Frac) (inputs : List ℤ) (t : Tree) (g : ℤ) → slope_of (bits_of f) inputs t ≡ Some g → unsigned_abs g ≤ 2 ^ 63
unfolding IsBounded
slope_bounded f inputs t g e = tree_bounded f inputs t g e

-- A derivative that is used only if a run returns a value also has a magnitude of at most 2^63.
pub given_bounded : (f : Frac) (inputs : List ℤ) (t : Tree) (o : Option (Result ℤ Trap)) (g : ℤ)
    → where_given o (slope_of (bits_of f) inputs t) ≡ Some g → unsigned_abs g ≤ 2 ^ 63
given_bounded f inputs t None g e = absurd (none_is_no_some g e)
given_bounded f inputs t (Some (Ok v)) g e = slope_bounded f inputs t g e
given_bounded f inputs t (Some (Err trap)) g e = absurd (none_is_no_some g e)
