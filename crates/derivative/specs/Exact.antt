-- The semantics of trees over exact numbers, whose operations neither round nor overflow.
use Rattle.std.specs.Prelude.{◌≡◌, ◌≢◌, ℕ, zero, suc, ℤ, pos, negsuc, neg_ℤ, ◌*◌, ◌^◌, ◌==◌, ◌+ℤ◌, ◌-ℤ◌, ◌*ℤ◌, Bool, true, false, if◌then◌else◌, List, Option, Some, None, slice_get}
use Rattle.fixed.specs.Arithmetic.{floor_of, is_zero}
use Rattle.fixed.specs.Roots.{root}
use Rattle.fixed.specs.declared.operations.Operator.{Operator}
use Rattle.fixed.specs.declared.operations.Operator.TheVariants as op
use Rattle.fixed.specs.declared.operations.Function.{Function}
use Rattle.fixed.specs.declared.operations.FlatFunction.{FlatFunction}
use Rattle.fixed.specs.declared.operations.FlatFunction.TheVariants as flat
use Rattle.fixed.specs.declared.operations.Function.TheVariants as f
use Rattle.energy_program.specs.Tree.{Tree, Number, Input, Definition, Negated, Binary, Applied, Power, Select}
use Rattle.derivative.specs.Slope.{Operations, slope_by}

-- the operations and constants of a ring
pub record Ring (V : Type 0) : Type 0 where
  pub zero : V
  pub one : V
  pub plus : V → V → V
  pub negative : V → V
  pub times : V → V → V

-- the laws of a commutative ring
pub record IsRing {V : Type 0} (r : Ring V) : Type 0 where
  pub plus_assoc : (x y z : V) → r.plus (r.plus x y) z ≡ r.plus x (r.plus y z)
  pub plus_comm : (x y : V) → r.plus x y ≡ r.plus y x
  pub plus_zero : (x : V) → r.plus x r.zero ≡ x
  pub plus_negative : (x : V) → r.plus x (r.negative x) ≡ r.zero
  pub times_assoc : (x y z : V) → r.times (r.times x y) z ≡ r.times x (r.times y z)
  pub times_comm : (x y : V) → r.times x y ≡ r.times y x
  pub times_one : (x : V) → r.times x r.one ≡ x
  pub times_plus : (x y z : V) → r.times x (r.plus y z) ≡ r.plus (r.times x y) (r.times x z)

-- subtraction
abbrev pub minus : {V : Type 0} → Ring V → V → V → V
minus r x y = r.plus x (r.negative y)

-- the natural number n in the ring
abbrev pub whole : {V : Type 0} → Ring V → ℕ → V
whole r zero = r.zero
whole r (suc n) = r.plus (whole r n) r.one

-- the integer z in the ring
abbrev pub integer : {V : Type 0} → Ring V → ℤ → V
integer r (pos n) = whole r n
integer r (negsuc n) = r.negative (whole r (suc n))

-- the product of n factors x
abbrev pub power : {V : Type 0} → Ring V → V → ℕ → V
power r x zero = r.one
power r x (suc n) = r.times (power r x n) x

-- Numbers with the operations of energies. Quotients and roots may be missing; `number` is the number with a constant's
-- raw value.
pub record Numbers (V : Type 0) : Type 0 where
  pub ring : Ring V
  pub quotient : V → V → Option V
  pub root : V → Option V
  pub is_zero : V → Bool
  pub is_at_most : V → V → Bool
  pub floor : V → V
  pub ceiling : V → V
  pub number : ℤ → V

-- The laws of exact numbers, which fractions and real numbers satisfy: a commutative ring without zero divisors, in
-- which 2 is not 0 and addition preserves the order. A quotient times the divisor is the dividend; a root's square is
-- its argument. Roots, the order, floors and ceilings have no further requirements.
pub record AreExact {V : Type 0} (k : Numbers V) : Type 0 where
  pub is_ring : IsRing k.ring
  pub no_zero_divisors : (x y : V) → k.ring.times x y ≡ k.ring.zero → y ≢ k.ring.zero → x ≡ k.ring.zero
  pub two : k.ring.plus k.ring.one k.ring.one ≢ k.ring.zero
  pub zero_found : k.is_zero k.ring.zero ≡ true
  pub zero_alone : (x : V) → k.is_zero x ≡ true → x ≡ k.ring.zero
  pub divisor : (n d q : V) → k.quotient n d ≡ Some q → d ≢ k.ring.zero
  pub quotient_times : (n d q : V) → k.quotient n d ≡ Some q → k.ring.times q d ≡ n
  pub quotient_there : (n d q : V) → d ≢ k.ring.zero → k.ring.times q d ≡ n → k.quotient n d ≡ Some q
  pub root_square : (x y : V) → k.root x ≡ Some y → k.ring.times y y ≡ x
  pub order_kept : (x y z : V) → k.is_at_most (k.ring.plus x z) (k.ring.plus y z) ≡ k.is_at_most x y

-- ---- the integers, with a quotient or root only if it is an integer

abbrev pub exact_quotient : ℤ → ℤ → Option ℤ
exact_quotient n d = if is_zero d then None else (if is_zero (floor_of n d *ℤ d -ℤ n) then Some (floor_of n d) else None)

abbrev pub exact_root : ℤ → Option ℤ
exact_root (pos n) = if root n * root n == n then Some (pos (root n)) else None
exact_root (negsuc n) = None

abbrev pub is_from_zero : ℤ → Bool
is_from_zero (pos n) = true
is_from_zero (negsuc n) = false

abbrev pub whole_numbers : Numbers ℤ
whole_numbers =
    record {
      ring = record { zero = pos 0; one = pos 1; plus = λ x y. x +ℤ y; negative = neg_ℤ; times = λ x y. x *ℤ y };
      quotient = exact_quotient;
      root = exact_root;
      is_zero = is_zero;
      is_at_most = λ x y. is_from_zero (y -ℤ x);
      floor = λ x. x;
      ceiling = λ x. x;
      number = λ z. z;
    }

-- a constant with `bits` fraction bits is its raw value over 2^bits
abbrev pub StandsForFraction : {V : Type 0} → Numbers V → ℕ → ℤ → Type 0
StandsForFraction k bits z = k.ring.times (k.number z) (whole k.ring (2 ^ bits)) ≡ integer k.ring z

-- ---- values

-- an operation lifted to values that may be missing
abbrev pub on_one : {V : Type 0} → (V → Option V) → Option V → Option V
on_one f None = None
on_one f (Some x) = f x

abbrev pub on_two : {V : Type 0} → (V → V → Option V) → Option V → Option V → Option V
on_two f None y = None
on_two f (Some x) y = on_one (f x) y

abbrev pub step_of : {V : Type 0} → Numbers V → V → V
step_of k x = if k.is_at_most k.ring.zero x then k.ring.one else k.ring.zero

abbrev pub absolute_of : {V : Type 0} → Numbers V → V → V
absolute_of k x = if k.is_at_most k.ring.zero x then x else k.ring.negative x

abbrev pub delta_of : {V : Type 0} → Numbers V → V → V
delta_of k x = if k.is_zero x then k.ring.one else k.ring.zero

-- a negative power is one over the power; negsuc m is -(m + 1)
abbrev pub power_of : {V : Type 0} → Numbers V → ℤ → V → Option V
power_of k (pos n) x = Some (power k.ring x n)
power_of k (negsuc m) x = k.quotient k.ring.one (power k.ring x (suc m))

-- the second value if the first isn't 0, else the third; the one that isn't chosen may be missing
abbrev pub selected : {V : Type 0} → Numbers V → Option V → Option V → Option V → Option V
selected k None y z = None
selected k (Some x) y z = if k.is_zero x then z else y

-- the operations of the table of derivatives
abbrev pub exact : {V : Type 0} → Numbers V → Operations V
exact k =
    record {
      zero = k.ring.zero;
      one = k.ring.one;
      whole = λ n. Some (whole k.ring n);
      negative = on_one (λ x. Some (k.ring.negative x));
      sum = on_two (λ x y. Some (k.ring.plus x y));
      difference = on_two (λ x y. Some (minus k.ring x y));
      product = on_two (λ x y. Some (k.ring.times x y));
      quotient = on_two k.quotient;
      square = on_one (λ x. Some (k.ring.times x x));
      square_root = on_one k.root;
      step = on_one (λ x. Some (step_of k x));
      power = λ x n. on_one (power_of k n) x;
      selected = selected k;
    }

-- the value of an operator, which may be missing
abbrev pub operator_value : {V : Type 0} → Numbers V → Operator → V → V → Option V
operator_value k op.Add x y = Some (k.ring.plus x y)
operator_value k op.Subtract x y = Some (minus k.ring x y)
operator_value k op.Multiply x y = Some (k.ring.times x y)
operator_value k op.Divide x y = k.quotient x y
operator_value k op.Minimum x y = Some (if k.is_at_most x y then x else y)
operator_value k op.Maximum x y = Some (if k.is_at_most y x then x else y)

-- the value of a flat function
abbrev pub flat_value : {V : Type 0} → Numbers V → FlatFunction → V → V
flat_value k flat.Step x = step_of k x
flat_value k flat.Delta x = delta_of k x
flat_value k flat.Floor x = k.floor x
flat_value k flat.Ceiling x = k.ceiling x

-- the value of a function, which may be missing
abbrev pub function_value : {V : Type 0} → Numbers V → Function → V → Option V
function_value k f.SquareRoot x = k.root x
function_value k f.Absolute x = Some (absolute_of k x)
function_value k (f.Flat g) x = Some (flat_value k g x)

-- the value of a binary operation
abbrev pub operation : {V : Type 0} → Numbers V → Operator → Option V → Option V → Option V
operation k o x y = on_two (operator_value k o) x y

-- the value of a function of a value that may be missing
abbrev pub applied : {V : Type 0} → Numbers V → Function → Option V → Option V
applied k g x = on_one (function_value k g) x

-- The exact value of a tree, after all definitions are substituted, on these inputs: the distance first, then the
-- others.
abbrev pub exact_value : {V : Type 0} → Numbers V → List V → Tree → Option V
exact_value k inputs (Number c) = Some (k.number c.value)
exact_value k inputs (Input i) = slice_get inputs i
exact_value k inputs (Definition j) = None
exact_value k inputs (Negated a) = (exact k).negative (exact_value k inputs a)
exact_value k inputs (Binary o a b) = operation k o (exact_value k inputs a) (exact_value k inputs b)
exact_value k inputs (Applied g a) = applied k g (exact_value k inputs a)
exact_value k inputs (Power a n) = (exact k).power (exact_value k inputs a) n
exact_value k inputs (Select x a b) = selected k (exact_value k inputs x) (exact_value k inputs a) (exact_value k inputs b)

-- the slope according to the table, over exact numbers
abbrev pub exact_slope : {V : Type 0} → Numbers V → List V → Tree → Option V
exact_slope k inputs tree = slope_by (exact k) (exact_value k inputs) tree
