-- The rules for errors: how the error of a result follows from the errors of its operands, for each operation of an
-- energy. A rule gives no approximation (None) in these cases:
--   the operation may fault;
--   an exact divisor may be 0;
--   an error may be beyond 2^62 error units, which is 2^54 units of the computed value;
--   128 bits may be too few for the errors of a product (`has_room`) or of a quotient (`are_moderate`);
--   a value that may be chosen has no approximation.
--
-- The rules belong to forward error analysis in interval arithmetic, as in the tools Gappa, Rosa and Daisy, with
-- signed errors: x y - X Y = x (y - Y) + Y (x - X), and x / y - X / Y = ((x - X) - x / y (y - Y)) / Y, for computed x, y
-- and exact X, Y.
use Rattle.std.specs.Prelude.{ℕ, zero, suc, max, nat_le, ℤ, pos, negsuc, neg_ℤ, unsigned_abs, ◌+◌, ◌*◌, ◌^◌, ◌+ℤ◌, ◌-ℤ◌, ◌*ℤ◌, ◌&&◌, ◌||◌, Bool, true, false, int_le, if◌then◌else◌, Option, Some, None, Result, Ok, Err}
use Rattle.std.specs.Int.{int_max, int_min}
use Rattle.fixed.specs.Arithmetic.{floor_over, is_zero, one}
use Rattle.fixed.specs.Roots.{root}
use Rattle.fixed.specs.declared.constants.Constant.{Constant}
use Rattle.fixed.specs.declared.faults.Fault.{Fault}
use Rattle.fixed.specs.declared.operations.Operator.{Operator}
use Rattle.fixed.specs.declared.operations.Operator.TheVariants as op
use Rattle.fixed.specs.declared.operations.UnaryOperator.{UnaryOperator}
use Rattle.fixed.specs.declared.operations.UnaryOperator.TheVariants as unary
use Rattle.fixed.specs.declared.operations.Function.TheVariants as f
use Rattle.fixed.specs.declared.operations.FlatFunction.{FlatFunction}
use Rattle.fixed.specs.declared.operations.FlatFunction.TheVariants as flat
use Rattle.error_bounds.specs.Approximations.{Approximation, Outcomes, approximation, exact_range, outcomes, scale}
use Rattle.interval_domain.specs.Ranges.{Range, around, has_zero, hull, less, negated, operator_range, over, plus, quotients, range, scaled, times, turn_of, unary_range, up_over}

-- ---- limits

-- no error is beyond 2^62 error units
abbrev pub is_small : Range → Bool
is_small e = int_le (neg_ℤ (pos (2 ^ 62))) e.low && int_le e.high (pos (2 ^ 62))

-- the approximation with this range of results and these errors, if there are errors and they are small
abbrev pub within_limits : Range → Option Range → Option Approximation
within_limits r None = None
within_limits r (Some e) = if is_small e then Some (approximation r e) else None

-- the same for the range of an operation's results, if none is a fault, and the errors that follow from it
abbrev pub bounded : Result Range Fault → (Range → Option Range) → Option Approximation
bounded (Err fault) errors = None
bounded (Ok r) errors = within_limits r (errors r)

-- the greatest magnitude of an integer in the range
abbrev pub magnitude : Range → ℕ
magnitude x = max (unsigned_abs x.low) (unsigned_abs x.high)

-- no product of integers in the two ranges is beyond 2^116
abbrev pub are_moderate : (x y : Range) → Bool
are_moderate x y = nat_le (magnitude x * magnitude y) (2 ^ 116)

-- ---- exact numbers and inputs

-- a number that is computed exactly
abbrev pub exactly : ℤ → Approximation
exactly z = approximation (range z z) (range (pos 0) (pos 0))

-- the error of reading a constant: it is between its two bounds
abbrev pub error_of_reading : Constant → Range
error_of_reading c = if int_le c.low c.high then range c.low c.high else range c.high c.low

-- a constant that was read: its value, with the error of reading
abbrev pub as_read : Constant → Approximation
as_read c = approximation (range c.value c.value) (error_of_reading c)

-- a distance in a range: the exact distance is from the computed one to the next
abbrev pub distances : Range → Approximation
distances r = approximation r (range (neg_ℤ (pos 256)) (pos 0))

-- ---- products

-- one multiple of the number 1, by which products are exact
abbrev pub is_whole : ℕ → Range → Bool
is_whole bits r = is_zero (r.high -ℤ r.low) && is_zero (r.low -ℤ floor_over r.low (2 ^ bits) *ℤ one bits)

-- the error of rounding down: from -1 unit to 0
abbrev pub rounded_down : Range → Range
rounded_down e = range (e.low -ℤ pos 256) e.high

-- x (y - Y) + Y (x - X), in units of the square of an error unit, over the number 1
abbrev pub product_numerator : (x y : Approximation) → Range
product_numerator x y = plus (scaled (times x.computed y.error) (pos 256)) (times (exact_range y) x.error)

-- the errors of a product before it is rounded
abbrev pub product_spread : ℕ → (x y : Approximation) → Range
product_spread bits x y = over (product_numerator x y) (pos (scale bits))

abbrev pub product_error : ℕ → (x y : Approximation) → Range
product_error bits x y =
    if is_whole bits x.computed || is_whole bits y.computed then product_spread bits x y
    else rounded_down (product_spread bits x y)

-- 128 bits have room for the numerator of a product: 256 times the first two of these products, less the third. With up
-- to 40 fraction bits, if one of the three is beyond 2^116, the error is beyond 2^62 error units, unless the others
-- cancel it.
abbrev pub has_room : (x y : Approximation) → Bool
has_room x y = are_moderate x.computed y.error && are_moderate y.computed x.error && are_moderate x.error y.error

abbrev pub product_errors : ℕ → (x y : Approximation) → Option Range
product_errors bits x y = if has_room x y then Some (product_error bits x y) else None

-- ---- quotients

-- the quotients in the range, and up to one unit above it
abbrev pub up_to_next : Range → Range
up_to_next q = range q.low (q.high +ℤ pos 1)

-- (x - X) - q (y - Y), for quotients q in the range and up to one unit above it
abbrev pub quotient_numerator : ℕ → (q : Range) → (x y : Approximation) → Range
quotient_numerator bits q x y = less (scaled x.error (one bits)) (times (up_to_next q) y.error)

abbrev pub quotient_error : ℕ → (q : Range) → (x y : Approximation) → Range
quotient_error bits q x y = rounded_down (quotients (scaled (quotient_numerator bits q x y) (pos 256)) (exact_range y))

-- the errors of these quotients, if no exact divisor is 0 and 128 bits have room for the numerator
abbrev pub quotient_errors : ℕ → (q : Range) → (x y : Approximation) → Option Range
quotient_errors bits q x y =
    if has_zero (exact_range y) then None
    else if are_moderate (up_to_next q) y.error then Some (quotient_error bits q x y)
    else None

-- ---- square roots

-- a natural number at most the root of every exact value, in units
abbrev pub least_root : ℕ → Approximation → ℕ
least_root bits x = root (unsigned_abs (floor_over (int_max (pos 0) (exact_range x).low *ℤ one bits) 256))

-- a bound of the distance between two roots whose squares differ by `apart`: it is their difference over the sum of the
-- roots, which is at least `sum`, and at most the root of the difference
abbrev pub root_spread : ℕ → (apart : ℤ) → (sum : ℕ) → ℤ
root_spread bits apart zero = pos (suc (root (unsigned_abs (apart *ℤ pos (scale bits)))))
root_spread bits apart (suc sum) =
    int_min (pos (suc (root (unsigned_abs (apart *ℤ pos (scale bits)))))) (up_over (apart *ℤ one bits) (pos (suc sum)))

abbrev pub root_error : ℕ → (q : Range) → Approximation → Range
root_error bits q x =
    rounded_down (range
    (neg_ℤ (root_spread bits (int_max (pos 0) (neg_ℤ x.error.low)) (unsigned_abs q.low + least_root bits x)))
    (root_spread bits (int_max (pos 0) x.error.high) (unsigned_abs q.low + least_root bits x)))

-- ---- minimum, maximum and absolute value: they change by at most the greatest change of an operand

-- each computed and each exact value of x is at most each of y
abbrev pub is_below : (x y : Approximation) → Bool
is_below x y = int_le x.computed.high y.computed.low && int_le (exact_range x).high (exact_range y).low

-- the errors of the first operand if it is the one, of the second if that is the one, and of either if it may be either
abbrev pub errors_of_one : (first second : Bool) → (x y : Approximation) → Range
errors_of_one first second x y = if first then x.error else if second then y.error else hull x.error y.error

abbrev pub minimum_error : (x y : Approximation) → Range
minimum_error x y = errors_of_one (is_below x y) (is_below y x) x y

abbrev pub maximum_error : (x y : Approximation) → Range
maximum_error x y = errors_of_one (is_below y x) (is_below x y) x y

-- no computed and no exact value is negative
abbrev pub is_from_zero : Approximation → Bool
is_from_zero x = int_le (pos 0) x.computed.low && int_le (pos 0) (exact_range x).low

-- each computed and each exact value is negative
abbrev pub is_below_zero : Approximation → Bool
is_below_zero x = int_le x.computed.high (negsuc 0) && int_le (exact_range x).high (negsuc 0)

abbrev pub absolute_error : Approximation → Range
absolute_error x =
    if is_from_zero x then x.error
    else if is_below_zero x then negated x.error
    else hull x.error (negated x.error)

-- ---- flat functions: any computed result may meet any exact result, in error units

abbrev pub apart : (computed exact : Range) → Range
apart computed exact = less (scaled computed (pos 256)) exact

-- the value of a flat function at n, if `unit` represents 1
abbrev pub flat_at : (unit : ℕ) → FlatFunction → ℤ → ℤ
flat_at unit flat.Step n = if int_le (pos 0) n then pos unit else pos 0
flat_at unit flat.Delta n = if is_zero n then pos unit else pos 0
flat_at unit flat.Floor n = floor_over n unit *ℤ pos unit
flat_at unit flat.Ceiling n = neg_ℤ (floor_over (neg_ℤ n) unit *ℤ pos unit)

-- the range of a flat function's values on a range: each is monotone below 0 and above 0
abbrev pub flats_of : (unit : ℕ) → FlatFunction → Range → Range
flats_of unit g x = around (flat_at unit g x.low) (flat_at unit g (turn_of x)) (flat_at unit g (turn_of x)) (flat_at unit g x.high)

-- ---- the table of errors

-- the errors of an operator's results, which are in the range c
abbrev pub operator_errors : ℕ → Operator → (x y : Approximation) → (c : Range) → Option Range
operator_errors bits op.Add x y c = Some (plus x.error y.error)
operator_errors bits op.Subtract x y c = Some (less x.error y.error)
operator_errors bits op.Multiply x y c = product_errors bits x y
operator_errors bits op.Divide x y c = quotient_errors bits c x y
operator_errors bits op.Minimum x y c = Some (minimum_error x y)
operator_errors bits op.Maximum x y c = Some (maximum_error x y)

-- The errors of a unary operator's results, which are in the range c. The square is computed on one value, so that it
-- isn't negative; its errors are those of a product.
abbrev pub unary_errors : ℕ → UnaryOperator → Approximation → (c : Range) → Option Range
unary_errors bits unary.Negate x c = Some (negated x.error)
unary_errors bits unary.Square x c = product_errors bits x x
unary_errors bits (unary.Apply f.SquareRoot) x c = Some (root_error bits c x)
unary_errors bits (unary.Apply f.Absolute) x c = Some (absolute_error x)
unary_errors bits (unary.Apply (f.Flat g)) x c = Some (apart c (flats_of (scale bits) g (exact_range x)))

-- the rule of an operator
abbrev pub operator_rule : ℕ → Operator → (x y : Approximation) → Option Approximation
operator_rule bits o x y = bounded (operator_range bits o x.computed y.computed) (operator_errors bits o x y)

-- the rule of a unary operator
abbrev pub unary_rule : ℕ → UnaryOperator → Approximation → Option Approximation
unary_rule bits o x = bounded (unary_range bits o x.computed) (unary_errors bits o x)

-- ---- choices

-- either value may be computed, and either may be exact
abbrev pub either : (y z : Approximation) → Option Approximation
either y z =
    within_limits (hull y.computed z.computed)
    (Some (apart (hull y.computed z.computed) (hull (exact_range y) (exact_range z))))

abbrev pub either_of : (y z : Option Approximation) → Option Approximation
either_of (Some y) (Some z) = either y z
either_of _ _ = None

-- neither the computed nor the exact value can be 0
abbrev pub is_not_zero : Approximation → Bool
is_not_zero x = if has_zero x.computed then false else if has_zero (exact_range x) then false else true

-- the computed and the exact value are 0
abbrev pub is_only_zero : Approximation → Bool
is_only_zero x = (is_zero x.computed.low && is_zero x.computed.high) && (is_zero x.error.low && is_zero x.error.high)

-- the second operand if the first isn't 0, else the third; the one that isn't chosen may be missing
abbrev pub select_rule : (x : Approximation) → (y z : Option Approximation) → Option Approximation
select_rule x y z = if is_not_zero x then y else if is_only_zero x then z else either_of y z

-- both operands are needed
abbrev pub is_undecided : Approximation → Bool
is_undecided x = if is_not_zero x then false else if is_only_zero x then false else true

-- ---- several walks

-- the outcomes of either
abbrev pub either_outcomes : (s t : Outcomes) → Outcomes
either_outcomes s t = outcomes (hull s.computed t.computed) (hull s.exact t.exact)

-- the approximation of a value with these outcomes
abbrev pub of_outcomes : Outcomes → Option Approximation
of_outcomes s = within_limits s.computed (Some (apart s.computed s.exact))
