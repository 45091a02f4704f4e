-- Products of an integer with a natural number: they distribute over sums, associate, and keep signs and order.
use Rattle.std.proofs.Common.{◌≡◌, ℕ, zero, suc, ◌+◌, ◌*◌, ◌^◌, ◌<◌, true, ℤ, pos, negsuc, neg_ℤ, ◌+ℤ◌, ◌*ℤ◌, ◌≤ℤ◌, ◌<ℤ◌, arith, ap}
use Rattle.std.proofs.Math.IntN.{*ℤ-zero}
use Rattle.std.proofs.lemmas.Int.{ints}
use Rattle.std.proofs.lemmas.Nat.{mul-le}
use Rattle.std.proofs.lemmas.Bool.{eqb-true}
use Rattle.std.proofs.lemmas.Bool.Decides.{nat_tests}
use Rattle.fixed.specs.Arithmetic.{in_range, is_zero}
use lib.Signed.{mag}

-- a product with k + 1 is the product with k and the other factor
pub times_suc : (x : ℤ) (k : ℕ) → x *ℤ pos (suc k) ≡ x *ℤ pos k +ℤ x
times_suc (pos n) k = ap pos (omega arith)
times_suc (negsuc n) k = omega (arith, ints)

-- a product with a sum of natural numbers is the sum of the products
pub times_sum : (x : ℤ) (m n : ℕ) → x *ℤ pos (m + n) ≡ x *ℤ pos m +ℤ x *ℤ pos n
times_sum (pos a) m n = ap pos (omega arith)
times_sum (negsuc a) m n = omega (arith, ints)

-- a sum times a natural number is the sum of the products
pub sum_times : (x y : ℤ) (k : ℕ) → (x +ℤ y) *ℤ pos k ≡ x *ℤ pos k +ℤ y *ℤ pos k
sum_times x y zero = omega (arith, ints, *ℤ-zero (x +ℤ y), *ℤ-zero x, *ℤ-zero y)
sum_times x y (suc k) = omega (arith, ints, times_suc (x +ℤ y) k, times_suc x k, times_suc y k, sum_times x y k)

-- a product with one natural number and then another is that with their product
pub times_times : (x : ℤ) (m k : ℕ) → (x *ℤ pos m) *ℤ pos k ≡ x *ℤ pos (m * k)
times_times x m zero = let e : m * zero ≡ zero = omega arith in rw e (omega (arith, ints, *ℤ-zero (x *ℤ pos m), *ℤ-zero x))
times_times x m (suc k) =
    let e : m * suc k ≡ m * k + m = omega arith in
    rw e (omega (arith, ints, times_suc (x *ℤ pos m) k, times_sum x (m * k) m, times_times x m k))

-- the negative of a product with a natural number is the negative times that number
pub neg_times : (k : ℤ) (d : ℕ) → neg_ℤ (k *ℤ pos d) ≡ neg_ℤ k *ℤ pos d
neg_times (pos zero) d = omega (arith, ints)
neg_times (pos (suc k)) d = omega (arith, ints)
neg_times (negsuc k) d = omega (arith, ints)

-- a greater factor makes the product greater by the other factor at least
pub times_next : (k m : ℤ) (d : ℕ) → k <ℤ m → (k *ℤ pos d +ℤ pos d) ≤ℤ (m *ℤ pos d)
times_next (pos k) (pos m) d h = omega (arith, ints, mul-le (suc k) d m d (omega (arith, ints)) (omega arith))
times_next (pos k) (negsuc m) d h = absurd (omega (arith, ints))
times_next (negsuc k) (pos m) d h = omega (arith, ints, mul-le 1 d (suc k) d (omega arith) (omega arith))
times_next (negsuc k) (negsuc m) d h = omega (arith, ints, mul-le (suc (suc m)) d (suc k) d (omega (arith, ints)) (omega arith))

-- products with a natural number keep the order
pub times_le : (k m : ℤ) (d : ℕ) → m ≤ℤ k → (m *ℤ pos d) ≤ℤ (k *ℤ pos d)
times_le (pos k) (pos m) d h = omega (arith, ints, mul-le m d k d (omega (arith, ints)) (omega arith))
times_le (negsuc k) (pos m) d h = absurd (omega (arith, ints))
times_le (pos k) (negsuc m) d h = omega (arith, ints)
times_le (negsuc k) (negsuc m) d h = omega (arith, ints, mul-le (suc k) d (suc m) d (omega (arith, ints)) (omega arith))

-- a number that tests as zero is zero
pub zero_alone : (z : ℤ) → is_zero z ≡ true → z ≡ pos 0
zero_alone (pos n) e = ap pos (eqb-true n 0 e)
zero_alone (negsuc n) e = absurd (cc)

-- a number whose magnitude has 63 bits is in range
pub in_range_is : (z : ℤ) → mag z < 2 ^ 63 → in_range z ≡ true
in_range_is (pos n) h = grind (arith, nat_tests)
in_range_is (negsuc n) h = grind (arith, nat_tests)

-- a number between two in range is in range
pub in_range_between : (lo z hi : ℤ) → in_range lo ≡ true → in_range hi ≡ true → lo ≤ℤ z → z ≤ℤ hi → in_range z ≡ true
in_range_between (pos l) (pos z) (pos h) p q a b = grind (arith, ints, nat_tests)
in_range_between (pos l) (pos z) (negsuc h) p q a b = absurd (omega (arith, ints))
in_range_between (pos l) (negsuc z) hi p q a b = absurd (omega (arith, ints))
in_range_between (negsuc l) (pos z) (pos h) p q a b = grind (arith, ints, nat_tests)
in_range_between (negsuc l) (pos z) (negsuc h) p q a b = absurd (omega (arith, ints))
in_range_between (negsuc l) (negsuc z) hi p q a b = grind (arith, ints, nat_tests)
