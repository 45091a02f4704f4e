-- The integers, with a quotient or a root only if it is an integer, are ordered exact numbers.
use Rattle.std.proofs.Common.{◌≡◌, ℕ, zero, suc, ◌*◌, ◌==◌, ℤ, pos, negsuc, ◌+ℤ◌, ◌-ℤ◌, ◌*ℤ◌, ◌≤ℤ◌, ◌<ℤ◌, Bool, true, false, Some, None, refl, sym, subst, arith, if◌then◌else◌}
use Rattle.std.proofs.lemmas.Int.{ints}
use Rattle.fixed.specs.Roots.{root}
use Rattle.derivative.specs.Exact.{integer, is_from_zero, whole, whole_numbers}
use Rattle.derivative.proofs.WholeNumbers as exact
use Rattle.error_bounds.proofs.IntegerProducts.{times_keeps}
use Rattle.error_bounds.specs.Ordered.{AreOrdered, AtMost}

-- ---- the test of order

-- the test says yes from 0 on
yes : (z : ℤ) → pos 0 ≤ℤ z → is_from_zero z ≡ true
yes (pos n) p = refl
yes (negsuc n) p = absurd (omega (arith, ints))

-- and no below 0
no : (z : ℤ) → z <ℤ pos 0 → is_from_zero z ≡ false
no (pos n) p = absurd (omega (arith, ints))
no (negsuc n) p = refl

-- if the test is true, the integer is at least 0
from_yes : (z : ℤ) → is_from_zero z ≡ true → pos 0 ≤ℤ z
from_yes (pos n) e = omega (arith, ints)
from_yes (negsuc n) e = absurd (cc)

-- if the test is false, the integer is below 0
from_no : (z : ℤ) → is_from_zero z ≡ false → z <ℤ pos 0
from_no (pos n) e = absurd (cc)
from_no (negsuc n) e = omega (arith, ints)

-- ---- integers in the integers

-- a natural number in the integers is itself
whole_is : (n : ℕ) → whole whole_numbers.ring n ≡ pos n
whole_is zero = refl
whole_is (suc n) = rw (whole_is n) (omega (arith, ints))

-- so is an integer
integer_is : (z : ℤ) → integer whole_numbers.ring z ≡ z
integer_is (pos n) = whole_is n
integer_is (negsuc n) = rw (whole_is (suc n)) refl

-- a root that is there isn't negative
root_if : (n : ℕ) (y : ℤ) (test : Bool) → (if test then Some (pos (root n)) else None) ≡ Some y → pos 0 ≤ℤ y
root_if n y true e = let same : pos (root n) ≡ y = cc in omega (arith, ints)
root_if n y false e = absurd (cc)

-- so no root of an integer is
root_from_zero : (x y : ℤ) → whole_numbers.root x ≡ Some y → pos 0 ≤ℤ y
root_from_zero (pos n) y e = root_if n y (root n * root n == n) e
root_from_zero (negsuc n) y e = absurd (cc)

-- an integer is at most itself
itself : (x : ℤ) → AtMost whole_numbers (integer whole_numbers.ring x) x
itself x = subst (λ (n : ℤ). is_from_zero (x -ℤ n) ≡ true) (sym (integer_is x)) (yes (x -ℤ x) (omega (arith, ints)))

-- and at least itself
at_least_itself : (x : ℤ) → AtMost whole_numbers x (integer whole_numbers.ring x)
at_least_itself x = subst (λ (n : ℤ). is_from_zero (n -ℤ x) ≡ true) (sym (integer_is x)) (yes (x -ℤ x) (omega (arith, ints)))

-- the next integer isn't at most it
next : (x : ℤ) → whole_numbers.is_at_most (integer whole_numbers.ring (x +ℤ pos 1)) x ≡ false
next x = subst (λ (n : ℤ). is_from_zero (x -ℤ n) ≡ false) (sym (integer_is (x +ℤ pos 1))) (no (x -ℤ (x +ℤ pos 1)) (omega (arith, ints)))

-- and it isn't at most the last one
last : (x : ℤ) → whole_numbers.is_at_most x (integer whole_numbers.ring (x -ℤ pos 1)) ≡ false
last x = subst (λ (n : ℤ). is_from_zero (n -ℤ x) ≡ false) (sym (integer_is (x -ℤ pos 1))) (no ((x -ℤ pos 1) -ℤ x) (omega (arith, ints)))

-- products of integers from 0 on are from 0 on
kept : (x y : ℤ) → AtMost whole_numbers (pos 0) x → AtMost whole_numbers (pos 0) y → AtMost whole_numbers (pos 0) (x *ℤ y)
kept x y p q =
    let a : pos 0 ≤ℤ x = omega (arith, ints, from_yes (x -ℤ pos 0) p) in
    let b : pos 0 ≤ℤ y = omega (arith, ints, from_yes (y -ℤ pos 0) q) in
    yes ((x *ℤ y) -ℤ pos 0) (omega (arith, ints, times_keeps x (pos 0) y a b))

-- ---- all laws

-- the integers are ordered exact numbers
pub are_ordered : AreOrdered whole_numbers
are_ordered = record {
  are_exact = exact.are_exact;
  total = λ x y e. yes (x -ℤ y) (omega (arith, ints, from_no (y -ℤ x) e));
  antisymmetric = λ x y p q. omega (arith, ints, from_yes (y -ℤ x) p, from_yes (x -ℤ y) q);
  transitive = λ x y z p q. yes (z -ℤ x) (omega (arith, ints, from_yes (y -ℤ x) p, from_yes (z -ℤ y) q));
  times_kept = kept;
  root_from_zero = λ x y e. yes (y -ℤ pos 0) (omega (arith, ints, root_from_zero x y e));
  floor_is = λ x. (x, sym (integer_is x), record { at_most = itself x; next_above = next x });
  ceiling_is = λ x. (x, sym (integer_is x), record { at_least = at_least_itself x; last_below = last x });
}
