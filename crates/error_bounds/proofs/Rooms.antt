-- Products of ranges that the rules find moderate are at most 2^116, and 128 bits hold their sums.
use Rattle.std.proofs.Common.{◌≡◌, ℕ, ◌+◌, ◌*◌, ◌^◌, ◌≤◌, ◌≤ℤ◌, pos, neg_ℤ, int_le, true, lit≤, arith, leb-true, le-leb}
use Rattle.std.proofs.lemmas.Bool.{and_parts}
use Rattle.std.proofs.lemmas.Int.{ints}
use Rattle.std.proofs.lemmas.Nat.{mul-le}
use Rattle.error_bounds.specs.Approximations.{Approximation, exact_range}
use Rattle.error_bounds.specs.Rules.{are_moderate, is_small, magnitude}
use Rattle.interval_domain.specs.Ranges.{IsWithin, Range, scaled, times}
use Rattle.interval_domain.proofs.RangeLemmas.{less_small, scaled_small, times_small, within_more}

-- a range is within its magnitude
within_magnitude : (x : Range) → IsWithin (magnitude x) x
within_magnitude x = record { low = omega arith; high = omega arith }

-- small errors are within 2^62
pub small_within : (e : Range) → e.low ≤ℤ e.high → is_small e ≡ true → IsWithin (2 ^ 62) e
small_within e h s =
    let p = and_parts (int_le (neg_ℤ (pos (2 ^ 62))) e.low) (int_le e.high (pos (2 ^ 62))) s in
    let l = p.0 in
    let u = p.1 in
    record { low = omega (arith, ints, l, u, h); high = omega (arith, ints, l, u, h) }

-- products with numbers within 2^53 are moderate
pub slight_moderate : (x y : Range) → IsWithin (2 ^ 63) x → IsWithin (2 ^ 53) y → are_moderate x y ≡ true
slight_moderate x y p q =
    let a : magnitude x ≤ 2 ^ 63 = omega (arith, p.low, p.high) in
    let b : magnitude y ≤ 2 ^ 53 = omega (arith, q.low, q.high) in
    let c = mul-le (magnitude x) (magnitude y) (2 ^ 63) (2 ^ 53) a b in
    le-leb (magnitude x * magnitude y) (2 ^ 116) (omega (arith, c))

-- products of two ranges are within 2^116 if the rules find them moderate
moderate_small : (x y : Range) → are_moderate x y ≡ true → IsWithin (2 ^ 116) (times x y)
moderate_small x y e =
    within_more (magnitude x * magnitude y) (2 ^ 116) (times x y) (leb-true (magnitude x * magnitude y) (2 ^ 116) e)
    (times_small (magnitude x) (magnitude y) x y (within_magnitude x) (within_magnitude y))

-- products of ranges equal to those two are within 2^116 too
pub same_moderate : (x y x' y' : Range) → x' ≡ x → y' ≡ y → are_moderate x y ≡ true → IsWithin (2 ^ 116) (times x' y')
same_moderate x y x' y' e f g = rw (e, f) (moderate_small x y g)

-- (256 a + b) c is at most 257 d if a c and c b are at most d
with_parts : (a b c d : ℕ) → a * c ≤ d → c * b ≤ d → (a * 256 + b) * c ≤ 257 * d
with_parts a b c d p q = omega arith

-- products of exact values and errors e are within 2^125 if both parts of them are moderate
exact_moderate : (p : Approximation) (e : Range) → are_moderate p.computed e ≡ true → are_moderate e p.error ≡ true
    → IsWithin (2 ^ 125) (times (exact_range p) e)
exact_moderate p e f g =
    let a = magnitude p.computed in
    let b = magnitude p.error in
    let c = magnitude e in
    let first = scaled_small a 256 p.computed (pos 256) (within_magnitude p.computed) (lit≤ tt) in
    let exact = less_small (a * 256) b (scaled p.computed (pos 256)) p.error first (within_magnitude p.error) in
    let parts = with_parts a b c (2 ^ 116) (leb-true (a * c) (2 ^ 116) f) (leb-true (c * b) (2 ^ 116) g) in
    within_more ((a * 256 + b) * c) (2 ^ 125) (times (exact_range p) e) (omega (arith, parts))
    (times_small (a * 256 + b) c (exact_range p) e exact (within_magnitude e))

-- products of ranges equal to the exact values and to e are within 2^125 too
pub same_exact_moderate : (p : Approximation) (e x' y' : Range) → x' ≡ exact_range p → y' ≡ e → are_moderate p.computed e ≡ true
    → are_moderate e p.error ≡ true → IsWithin (2 ^ 125) (times x' y')
same_exact_moderate p e x' y' i j f g = rw (i, j) (exact_moderate p e f g)
