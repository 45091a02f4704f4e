-- Ranges of integers, and the ranges of their sums, products and quotients, each end rounded outward; the ranges of the
-- results of operations.
use Rattle.std.specs.Prelude.{ℕ, ℤ, pos, neg_ℤ, ◌≤◌, ◌≤ℤ◌, ◌+ℤ◌, ◌-ℤ◌, ◌*ℤ◌, ◌&&◌, Bool, true, false, if◌then◌else◌, int_le, unsigned_abs, Result, Ok, Err}
use Rattle.std.specs.Int.{int_max, int_min}
use Rattle.fixed.specs.Arithmetic.{floor_of}
use Rattle.fixed.specs.Operations.{operator_value, unary_value}
use Rattle.fixed.specs.declared.faults.Fault.{Fault}
use Rattle.fixed.specs.declared.faults.Fault.TheVariants.{ZeroDivisor}
use Rattle.fixed.specs.declared.operations.Operator.{Operator}
use Rattle.fixed.specs.declared.operations.Operator.TheVariants as op
use Rattle.fixed.specs.declared.operations.UnaryOperator.{UnaryOperator}

-- the integers from low to high
pub record Range : Type 0 where
  pub low : ℤ
  pub high : ℤ

abbrev pub range : (low high : ℤ) → Range
range low high = record { low = low; high = high }

-- all x + y
abbrev pub plus : Range → Range → Range
plus x y = range (x.low +ℤ y.low) (x.high +ℤ y.high)

-- all -x
abbrev pub negated : Range → Range
negated x = range (neg_ℤ x.high) (neg_ℤ x.low)

-- all x - y
abbrev pub less : Range → Range → Range
less x y = range (x.low -ℤ y.high) (x.high -ℤ y.low)

-- the least range that contains both
abbrev pub hull : Range → Range → Range
hull x y = range (int_min x.low y.low) (int_max x.high y.high)

-- the least range that contains two integers
abbrev pub between : (p q : ℤ) → Range
between p q = range (int_min p q) (int_max p q)

-- the least range that contains four integers
abbrev pub around : (p q r s : ℤ) → Range
around p q r s = range (int_min (int_min p q) (int_min r s)) (int_max (int_max p q) (int_max r s))

-- all x y
abbrev pub times : Range → Range → Range
times x y = around (x.low *ℤ y.low) (x.low *ℤ y.high) (x.high *ℤ y.low) (x.high *ℤ y.high)

-- all x c
abbrev pub scaled : Range → ℤ → Range
scaled x c = range (x.low *ℤ c) (x.high *ℤ c)

-- the ceiling of n / d, for any integer d except 0
abbrev pub up_over : ℤ → ℤ → ℤ
up_over n d = neg_ℤ (floor_of (neg_ℤ n) d)

-- all x / d, for d above 0: the floor of the least, the ceiling of the greatest
abbrev pub over : Range → ℤ → Range
over x d = range (floor_of x.low d) (up_over x.high d)

-- all x / y, if y doesn't contain 0: the least of the floors, the greatest of the ceilings
abbrev pub quotients : Range → Range → Range
quotients x y =
    range
    (int_min (int_min (floor_of x.low y.low) (floor_of x.low y.high)) (int_min (floor_of x.high y.low) (floor_of x.high y.high)))
    (int_max (int_max (up_over x.low y.low) (up_over x.low y.high)) (int_max (up_over x.high y.low) (up_over x.high y.high)))

-- both ends of the range are at most n in magnitude
pub record IsWithin (n : ℕ) (r : Range) : Type 0 where
  pub low : unsigned_abs r.low ≤ n
  pub high : unsigned_abs r.high ≤ n

-- the integer z is in the range
pub record IsIn (z : ℤ) (r : Range) : Type 0 where
  pub at_least : r.low ≤ℤ z
  pub at_most : z ≤ℤ r.high

-- whether 0 is in the range
abbrev pub has_zero : Range → Bool
has_zero x = int_le x.low (pos 0) && int_le (pos 0) x.high

-- ---- ranges of results

-- the least range that contains four results, or the first fault among them
abbrev pub around_results : (p q r s : Result ℤ Fault) → Result Range Fault
around_results (Err e) _ _ _ = Err e
around_results (Ok p) (Err e) _ _ = Err e
around_results (Ok p) (Ok q) (Err e) _ = Err e
around_results (Ok p) (Ok q) (Ok r) (Err e) = Err e
around_results (Ok p) (Ok q) (Ok r) (Ok s) = Ok (around p q r s)

-- the results of an operation that is monotone in each operand: around its results at the four pairs of ends
abbrev pub at_corners : (ℤ → ℤ → Result ℤ Fault) → Range → Range → Result Range Fault
at_corners f x y = around_results (f x.low y.low) (f x.low y.high) (f x.high y.low) (f x.high y.high)

-- whether the operator has no value if the second operand is 0
abbrev pub divides : Operator → Bool
divides op.Divide = true
divides _ = false

-- the range of an operator's results, or a fault of one of them
abbrev pub operator_range : ℕ → Operator → Range → Range → Result Range Fault
operator_range bits o x y = if divides o && has_zero y then Err ZeroDivisor else at_corners (operator_value bits o) x y

-- 0 if it is in the range, else the range's least integer
abbrev pub turn_of : Range → ℤ
turn_of x = if has_zero x then pos 0 else x.low

-- the range of a unary operator's results, or a fault of one of them: each is monotone below 0 and above 0
abbrev pub unary_range : ℕ → UnaryOperator → Range → Result Range Fault
unary_range bits o x =
    around_results (unary_value bits o x.low) (unary_value bits o (turn_of x)) (unary_value bits o (turn_of x)) (unary_value bits o x.high)
