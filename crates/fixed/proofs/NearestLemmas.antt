-- The nearest integer: a common factor cancels, and the magnitude is at most the sum of both magnitudes.
use Rattle.std.proofs.Common.{◌≡◌, ℕ, zero, suc, ◌+◌, ◌*◌, ◌/◌, ◌<◌, ℤ, pos, negsuc, ◌+ℤ◌, ◌*ℤ◌, arith, ap, sym, ◌∙◌}
use Rattle.std.proofs.lemmas.Int.{ints}
use Rattle.std.proofs.lemmas.Nat.{div-mul-add}
use Rattle.std.proofs.Math.Nat.{mul-div-mul_right, div-div-eq-div-mul}
use Rattle.fixed.specs.Arithmetic.{floor_over}
use Rattle.fixed.specs.Rounding.{nearest_of}
use Rattle.fixed.proofs.IntegerLaws.{sum_times}

-- (n + 1) k - 1 over d k, rounded down, is n over d
below_multiple : (n d j : ℕ) → (n * suc j + j) / (d * suc j) ≡ n / d
below_multiple n d j =
    let e : d * suc j ≡ suc j * d = omega arith in
    let q : (n * suc j + j) / suc j ≡ n = div-mul-add n (suc j) j (omega arith) in
    rw e (sym (div-div-eq-div-mul (n * suc j + j) (suc j) d) ∙ ap (λ m. m / d) q)

-- a common factor of dividend and divisor changes no floor
pub floor_cancel : (n : ℤ) (d k : ℕ) → 0 < k → floor_over (n *ℤ pos k) (d * k) ≡ floor_over n d
floor_cancel (pos n) d k p = ap pos (mul-div-mul_right n d p)
floor_cancel (negsuc n) d (suc j) p =
    let e : negsuc n *ℤ pos (suc j) ≡ negsuc (n * suc j + j) = omega (arith, ints) in
    rw e (ap negsuc (below_multiple n d j))
floor_cancel (negsuc n) d zero p = absurd (omega arith)

double_times : (a : ℤ) (b k : ℕ) → pos 2 *ℤ (a *ℤ pos k) +ℤ pos (b * k) ≡ (pos 2 *ℤ a +ℤ pos b) *ℤ pos k
double_times a b k =
    let e : pos 2 *ℤ a ≡ a +ℤ a = omega (arith, ints) in
    rw e (omega (arith, ints, sum_times (a +ℤ a) (pos b) k, sum_times a a k))

-- a common factor of dividend and divisor doesn't change the nearest integer
pub nearest_cancel : (a : ℤ) (b k : ℕ) → 0 < k → nearest_of (a *ℤ pos k) (pos (b * k)) ≡ nearest_of a (pos b)
nearest_cancel a b k p =
    let e : 2 * (b * k) ≡ 2 * b * k = omega arith in
    rw (double_times a b k, e) (floor_cancel (pos 2 *ℤ a +ℤ pos b) (2 * b) k p)
