-- Slopes are numbers from -2^63 to 2^63 - 1, and one and minus one times such a number.
use Rattle.std.proofs.Common.{◌≡◌, ℕ, zero, suc, ◌+◌, ◌-◌, ◌^◌, ◌<◌, ◌==◌, ◌&&◌, ℤ, pos, negsuc, neg_ℤ, ◌+ℤ◌, ◌-ℤ◌, ◌*ℤ◌, Bool, true, false, if◌then◌else◌, List, Option, Some, None, Ok, Err, refl, sym, ap, ◌∙◌, arith, ne_eqb}
use Rattle.std.specs.Bool.{IsTrue}
use Rattle.std.proofs.Math.IntN.{*ℤ_comm}
use Rattle.std.proofs.Math.Nat.{mul_comm}
use Rattle.std.proofs.lemmas.Int.{ints}
use Rattle.fixed.specs.declared.faults.Fault.TheVariants.{Overflow, ZeroDivisor}
use Rattle.fixed.specs.Arithmetic.{one, in_range, is_zero, number_or_overflow, floor_over, floor_of, product_of, negative_of}
use Rattle.fixed.proofs.FloorLemmas.{floor_unique, two_pos}
use Rattle.fixed.proofs.IntegerLaws.{neg_times}
use Rattle.fixed.specs.declared.operations.Operator.{Operator}
use Rattle.fixed.specs.declared.operations.Operator.TheVariants as op
use Rattle.fixed.specs.declared.operations.Function.{Function}
use Rattle.fixed.specs.declared.operations.Function.TheVariants as f
use Rattle.energy_program.specs.Tree.{Tree, Number, Input, Definition, Negated, Binary, Applied, Power, Select, is_free_of_distance}
use Rattle.energy_program.specs.Value.{number_of, negative, sum, difference, product, square, quotient, square_root, step, power, selected, value_of}
use Rattle.derivative.specs.Slope.{whole, operation_slope, applied_slope, power_slope, zero_or, slope_of}

-- A number, if present, is from -2^63 to 2^63 - 1.
abbrev pub Fits : Option ℤ → Type 0
Fits None = Unit {0}
Fits (Some z) = IsTrue (in_range z)

number_fits : (z : ℤ) → Fits (number_of (number_or_overflow z))
number_fits z = by_test (in_range z) refl
  where
    by_test : (b : Bool) → in_range z ≡ b → Fits (number_of (if b then Ok z else Err Overflow))
    by_test true h = h
    by_test false h = tt

negative_fits : (x : Option ℤ) → Fits (negative x)
negative_fits None = tt
negative_fits (Some x) = number_fits (neg_ℤ x)

sum_fits : (x y : Option ℤ) → Fits (sum x y)
sum_fits None y = tt
sum_fits (Some x) None = tt
sum_fits (Some x) (Some y) = number_fits (x +ℤ y)

difference_fits : (x y : Option ℤ) → Fits (difference x y)
difference_fits None y = tt
difference_fits (Some x) None = tt
difference_fits (Some x) (Some y) = number_fits (x -ℤ y)

product_fits : (bits : ℕ) (x y : Option ℤ) → Fits (product bits x y)
product_fits bits None y = tt
product_fits bits (Some x) None = tt
product_fits bits (Some x) (Some y) = number_fits (floor_over (x *ℤ y) (2 ^ bits))

quotient_fits : (bits : ℕ) (x y : Option ℤ) → Fits (quotient bits x y)
quotient_fits bits None y = tt
quotient_fits bits (Some x) None = tt
quotient_fits bits (Some x) (Some y) = by_test (is_zero y)
  where
    by_test : (b : Bool) → Fits (number_of (if b then Err ZeroDivisor else number_or_overflow (floor_of (x *ℤ one bits) y)))
    by_test true = tt
    by_test false = number_fits (floor_of (x *ℤ one bits) y)

selected_fits : (x y z : Option ℤ) → Fits y → Fits z → Fits (selected x y z)
selected_fits None y z h k = tt
selected_fits (Some x) y z h k = by_test (is_zero x)
  where
    by_test : (b : Bool) → Fits (if b then z else y)
    by_test true = k
    by_test false = h

zero_fits : (b : Bool) (x : Option ℤ) → Fits x → Fits (zero_or b x)
zero_fits true x h = refl
zero_fits false x h = h

operation_fits : (bits : ℕ) (o : Operator) (p q : Bool) (u v du dv : Option ℤ) → Fits du → Fits dv → Fits (operation_slope bits o p q u v du dv)
operation_fits bits op.Add p q u v du dv h k = sum_fits du dv
operation_fits bits op.Subtract p q u v du dv h k = difference_fits du dv
operation_fits bits op.Multiply true q u v du dv h k = product_fits bits u dv
operation_fits bits op.Multiply false true u v du dv h k = product_fits bits du v
operation_fits bits op.Multiply false false u v du dv h k = sum_fits (product bits du v) (product bits u dv)
operation_fits bits op.Divide p true u v du dv h k = quotient_fits bits du v
operation_fits bits op.Divide true false u v du dv h k = quotient_fits bits (negative (product bits u dv)) (square bits v)
operation_fits bits op.Divide false false u v du dv h k = quotient_fits bits (difference (product bits du v) (product bits u dv)) (square bits v)
operation_fits bits op.Minimum p q u v du dv h k = selected_fits (step bits (difference v u)) du dv h k
operation_fits bits op.Maximum p q u v du dv h k = selected_fits (step bits (difference u v)) du dv h k

applied_fits : (bits : ℕ) (g : Function) (u du : Option ℤ) → Fits du → Fits (applied_slope bits g u du)
applied_fits bits f.SquareRoot u du h = quotient_fits bits du (product bits (whole bits 2) (square_root bits u))
applied_fits bits f.Absolute u du h = selected_fits (step bits u) du (negative du) h (negative_fits du)
applied_fits bits (f.Flat g) u du h = refl

power_fits : (bits : ℕ) (u : Option ℤ) (k : ℤ) (du : Option ℤ) → Fits du → Fits (power_slope bits u k du)
power_fits bits u (pos n) du h = by_test (n == 1)
  where
    factor : Option ℤ
    factor = product bits (whole bits n) (power bits u (pos (n - 1)))

    by_test : (b : Bool) → Fits (if b then du else product bits factor du)
    by_test true = h
    by_test false = product_fits bits factor du
power_fits bits u (negsuc m) du h = negative_fits (quotient bits (product bits (whole bits (m + 1)) du) (power bits u (pos (m + 2))))

-- A derivative, if present, is from -2^63 to 2^63 - 1.
pub slope_fits : (bits : ℕ) → IsTrue (in_range (one bits)) → (inputs : List ℤ) (e : Tree) → Fits (slope_of bits inputs e)
slope_fits bits w inputs (Number c) = refl
slope_fits bits w inputs (Input i) = by_test (i == 0)
  where
    by_test : (b : Bool) → IsTrue (in_range (if b then one bits else pos 0))
    by_test true = w
    by_test false = refl
slope_fits bits w inputs (Definition j) = refl
slope_fits bits w inputs (Negated a) =
    zero_fits (is_free_of_distance a) (negative (slope_of bits inputs a)) (negative_fits (slope_of bits inputs a))
slope_fits bits w inputs (Binary o a b) =
    zero_fits (is_free_of_distance a && is_free_of_distance b)
    (operation_slope bits o (is_free_of_distance a) (is_free_of_distance b) (value_of bits inputs a) (value_of bits inputs b) (slope_of bits inputs a) (slope_of bits inputs b))
    (operation_fits bits o (is_free_of_distance a) (is_free_of_distance b) (value_of bits inputs a) (value_of bits inputs b)
    (slope_of bits inputs a) (slope_of bits inputs b) (slope_fits bits w inputs a) (slope_fits bits w inputs b))
slope_fits bits w inputs (Applied g a) =
    zero_fits (is_free_of_distance a) (applied_slope bits g (value_of bits inputs a) (slope_of bits inputs a))
    (applied_fits bits g (value_of bits inputs a) (slope_of bits inputs a) (slope_fits bits w inputs a))
slope_fits bits w inputs (Power a k) =
    zero_fits (is_free_of_distance a) (power_slope bits (value_of bits inputs a) k (slope_of bits inputs a))
    (power_fits bits (value_of bits inputs a) k (slope_of bits inputs a) (slope_fits bits w inputs a))
slope_fits bits w inputs (Select c a b) =
    zero_fits (is_free_of_distance c && (is_free_of_distance a && is_free_of_distance b))
    (selected (value_of bits inputs c) (slope_of bits inputs a) (slope_of bits inputs b))
    (selected_fits (value_of bits inputs c) (slope_of bits inputs a) (slope_of bits inputs b) (slope_fits bits w inputs a) (slope_fits bits w inputs b))

-- ---- one and minus one

-- a multiple of a divisor over it
pub floor_multiple : (z : ℤ) (d : ℕ) → 0 < d → floor_over (z *ℤ pos d) d ≡ z
floor_multiple z d h = sym (floor_unique (z *ℤ pos d) d z (record { at_most = omega (arith, ints); next_above = omega (arith, ints) }))

one_times : (bits : ℕ) (z : ℤ) → product_of bits (one bits) z ≡ number_or_overflow z
one_times bits z =
    ap (λ x. number_or_overflow (floor_over x (2 ^ bits))) (*ℤ_comm (one bits) z) ∙ ap number_or_overflow (floor_multiple z (2 ^ bits) (two_pos bits))

minus_moves : (d : ℕ) (z : ℤ) → neg_ℤ (pos d) *ℤ z ≡ neg_ℤ z *ℤ pos d
minus_moves d (pos m) = sym (neg_times (pos d) m) ∙ ap neg_ℤ (*ℤ_comm (pos d) (pos m)) ∙ neg_times (pos m) d
minus_moves zero (negsuc m) = *ℤ_comm (pos 0) (negsuc m) ∙ omega (arith, ints)
minus_moves (suc e) (negsuc m) = ap pos (mul_comm (suc e) (suc m))

minus_one_times : (bits : ℕ) (z : ℤ) → product_of bits (neg_ℤ (one bits)) z ≡ negative_of z
minus_one_times bits z =
    ap (λ x. number_or_overflow (floor_over x (2 ^ bits))) (minus_moves (2 ^ bits) z) ∙ ap number_or_overflow (floor_multiple (neg_ℤ z) (2 ^ bits) (two_pos bits))

not_zero : (bits : ℕ) → (2 ^ bits == 0) ≡ false
not_zero bits = let w = two_pos bits in ne_eqb (2 ^ bits) 0 (λ e. omega arith)

-- the row of an absolute value, as it is written
pub sign_times : (bits : ℕ) (u du : Option ℤ) → Fits du
    → product bits (selected (step bits u) (Some (one bits)) (Some (neg_ℤ (one bits)))) du ≡ selected (step bits u) du (negative du)
sign_times bits None du h = refl
sign_times bits (Some (pos n)) None h = rw (not_zero bits) refl
sign_times bits (Some (pos n)) (Some z) h = rw (not_zero bits, one_times bits z, h) refl
sign_times bits (Some (negsuc n)) None h = refl
sign_times bits (Some (negsuc n)) (Some z) h = ap number_of (minus_one_times bits z)
