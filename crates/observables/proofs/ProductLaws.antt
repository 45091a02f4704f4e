-- Products of factors, and floors over them.
use Rattle.std.proofs.Common.{◌≡◌, ℕ, zero, suc, ◌+◌, ◌*◌, ◌<◌, List, length, get_or, drop, ℤ, pos, negsuc, ◌*ℤ◌, unsigned_abs, sym, ap, ◌∙◌, arith}
use Rattle.std.proofs.lemmas.Int.{unsigned_abs-mul}
use Rattle.std.proofs.lemmas.Nat.{mul-le}
use Rattle.std.proofs.lemmas.List.{drop_more}
use Rattle.std.proofs.Math.Nat.{div-div-eq-div-mul}
use Rattle.fixed.specs.Arithmetic.{floor_over}
use Rattle.fixed.proofs.IntegerLaws.{times_times}
use Rattle.observables.specs.Products.{product_of}

-- the factors from i on: the one at i, and the rest
pub product_of-drop : (factors : List ℕ) (i : ℕ) → i < length factors → product_of (drop i factors) ≡ get_or factors i 0 * product_of (drop (i + 1) factors)
product_of-drop factors i h = ap product_of (drop_more factors i 0 h)

-- a factor of a product above 0 is above 0
pub positive_factors : (a b : ℕ) → 0 < a * b → (0 < a) × (0 < b)
positive_factors zero b h = absurd (omega arith)
positive_factors (suc a) zero h = absurd (omega arith)
positive_factors (suc a) (suc b) h = (omega arith, omega arith)

-- a number over two divisors in turn, each time rounded down, is that over their product
pub floor_over-twice : (z : ℤ) (a b : ℕ) → floor_over (floor_over z a) b ≡ floor_over z (a * b)
floor_over-twice (pos n) a b = ap pos (div-div-eq-div-mul n a b)
floor_over-twice (negsuc n) a b = ap negsuc (div-div-eq-div-mul n a b)

-- with one factor of a positive product a number is no greater than with all
pub part_below : (z y : ℤ) (a b limit : ℕ) → 0 < a * b → z *ℤ pos (a * b) ≡ y → unsigned_abs y < limit → unsigned_abs z * a < limit
part_below z y a b limit p e h =
    let k = positive_factors a b p in
    let s : unsigned_abs y ≡ unsigned_abs z * (a * b) = ap unsigned_abs (sym e) ∙ unsigned_abs-mul z (pos (a * b)) in
    omega (arith, s, mul-le (unsigned_abs z * a) 1 (unsigned_abs z * a) b (omega arith) (omega (arith, k.1)))

-- one factor of the rest
pub next_factor : (z y next : ℤ) (a b : ℕ) → z *ℤ pos (a * b) ≡ y → next ≡ z *ℤ pos a → next *ℤ pos b ≡ y
next_factor z y next a b e n = ap (λ (x : ℤ). x *ℤ pos b) n ∙ times_times z a b ∙ e
