-- Separations as floats, and the sums of their squares.
use Rattle.std.proofs.Common.{◌≡◌, ℕ, ℤ, pos, negsuc, suc, ◌+◌, ◌*◌, ◌^◌, ◌<◌, ◌≤◌, ◌*ℤ◌, true, false, refl, sym, subst, arith}
use Rattle.std.proofs.lemmas.Int.{ints}
use Rattle.std.proofs.lemmas.Nat.{mul-le}
use Rattle.std.specs.Prelude.{unsigned_abs}
use Rattle.std.specs.Float.Ieee.{Float, binary64, add, mul}
use Rattle.float_filters.specs.Near.{IsNear, IsNearInteger, IsNearSigned}
use Rattle.float_filters.proofs.FloatLaws.{float_grows, near_product, near_sum}
use Rattle.float_filters.proofs.ConversionLaws.{natural_moderate}

-- the float product of floats near two natural numbers
pub near_natural_product : (k j n m : ℕ) (x y : Float) → k + j ≤ 100 → n * m ≤ 2 ^ 200 → IsNear k x n 1 → IsNear j y m 1
    → IsNear (k + j + 1) (mul binary64 x y) (n * m) 1
near_natural_product k j n m x y h g f e = near_product k j false false x y n 1 m 1 (omega arith) (omega arith) h (natural_moderate (n * m) g) f e

-- the float sum of floats near two natural numbers
pub near_natural_sum : (k n m : ℕ) (x y : Float) → k ≤ 100 → n + m ≤ 2 ^ 200 → IsNear k x n 1 → IsNear k y m 1
    → IsNear (k + 1) (add binary64 x y) (n + m) 1
near_natural_sum k n m x y h g f e =
    let whole : n * 1 + m * 1 ≡ n + m = omega arith in
    subst (λ i. IsNear (k + 1) (add binary64 x y) i 1) whole (near_sum k false x y n 1 m 1 (omega arith) (omega arith) h (natural_moderate (n * 1 + m * 1) (omega arith)) f e)

-- an integer with its sign
negative_product : (n l : ℕ) (z : ℤ) → 0 < l → z ≡ negsuc n *ℤ pos l → (m : ℕ) × (z ≡ negsuc m) × (suc n * l ≡ suc m)
negative_product n l (pos m) h e = absurd (omega (arith, ints, mul-le 1 1 (suc n) l (omega arith) h))
negative_product n l (negsuc m) h e = (m, refl, omega (arith, ints))

-- the float product of floats that equal an integer and a positive length
pub near_length : (n : ℤ) (l : ℕ) (x y : Float) → unsigned_abs n ≤ 2 ^ 90 → 0 < l → l ≤ 2 ^ 90 → IsNearInteger 0 x n → IsNear 0 y l 1
    → IsNearInteger 1 (mul binary64 x y) (n *ℤ pos l)
near_length (pos n) l x y h p g f e = near_natural_product 0 0 n l x y (omega arith) (omega (arith, mul-le n l (2 ^ 90) (2 ^ 90) h g)) f e
near_length (negsuc n) l x y h p g f e =
    let w = negative_product n l (negsuc n *ℤ pos l) p refl in
    let near : IsNearSigned 1 true (mul binary64 x y) (suc n * l) 1 = near_product 0 0 true false x y (suc n) 1 l 1 (omega arith) (omega arith) (omega arith) (natural_moderate (suc n * l) (omega (arith, mul-le (suc n) l (2 ^ 90) (2 ^ 90) h g))) f e in
    subst (λ z. IsNearInteger 1 (mul binary64 x y) z) (sym w.1) (subst (λ m. IsNearSigned 1 true (mul binary64 x y) m 1) w.2 near)

-- the square of a float near an integer
pub near_integer_square : (x : Float) (a : ℤ) → unsigned_abs a ≤ 2 ^ 90 → IsNearInteger 1 x a
    → IsNear 3 (mul binary64 x x) (unsigned_abs a * unsigned_abs a) 1
near_integer_square x (pos n) h f = near_natural_product 1 1 n n x x (omega arith) (omega (arith, mul-le n n (2 ^ 90) (2 ^ 90) h h)) f f
near_integer_square x (negsuc n) h f = near_product 1 1 true true x x (suc n) 1 (suc n) 1 (omega arith) (omega arith) (omega arith) (natural_moderate (suc n * suc n) (omega (arith, mul-le (suc n) (suc n) (2 ^ 90) (2 ^ 90) h h))) f f

-- the sum of three squares
pub near_squares : (p q r : ℕ) (x y z : Float) → p ≤ 2 ^ 180 → q ≤ 2 ^ 180 → r ≤ 2 ^ 180 → IsNear 3 x p 1 → IsNear 3 y q 1 → IsNear 3 z r 1
    → IsNear 5 (add binary64 (add binary64 x y) z) (p + q + r) 1
near_squares p q r x y z a b c f g h =
    near_natural_sum 4 (p + q) r (add binary64 x y) z (omega arith) (omega arith) (near_natural_sum 3 p q x y (omega arith) (omega arith) f g) (float_grows 3 4 false z r 1 (omega arith) h)
