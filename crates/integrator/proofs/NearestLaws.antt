-- The nearest integer: there is only one, and a test for it.
use Rattle.std.proofs.Common.{◌≡◌, ℕ, ℤ, pos, negsuc, ◌+ℤ◌, ◌-ℤ◌, ◌*ℤ◌, ◌≤ℤ◌, ◌<ℤ◌, arith, ap}
use Rattle.std.proofs.lemmas.Int.{ints}
use Rattle.fixed.specs.Rounding.{IsNearest, nearest_of}
use Rattle.fixed.proofs.FloorLemmas.{floor_of_unique}

double_product : (q : ℤ) (b : ℕ) → q *ℤ (pos 2 *ℤ pos b) ≡ pos 2 *ℤ (q *ℤ pos b)
double_product (pos q) b = ap pos (omega arith)
double_product (negsuc q) b = omega (arith, ints)

-- what is nearest to a / b is nearest_of a b
pub nearest_unique : (a b q : ℤ) → pos 0 <ℤ b → IsNearest a b q → q ≡ nearest_of a b
nearest_unique a (pos b) q p h =
    let l = h.half_below in let u = h.half_above in let e = double_product q b in
    floor_of_unique (pos 2 *ℤ a +ℤ pos b) (pos 2 *ℤ pos b) q
    (record { at_most = omega (arith, ints); next_above = omega (arith, ints) })
nearest_unique a (negsuc b) q p h = absurd (omega (arith, ints))

-- if twice the error plus b is at least 0 and below 2 b, q is nearest
pub nearest_by_rest : (a b q e x d : ℤ) → e ≡ a -ℤ q *ℤ b → x ≡ pos 2 *ℤ e +ℤ b → d ≡ pos 2 *ℤ b → pos 0 ≤ℤ x → x <ℤ d → IsNearest a b q
nearest_by_rest a b q e x d f g h l u =
    let k = rw f at g in
    record { half_below = omega (arith, ints, k); half_above = omega (arith, ints, k) }
