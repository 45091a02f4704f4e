-- Laws of floats that are near the roots of exact numbers.
use Rattle.std.proofs.Common.{◌≡◌, ℕ, zero, suc, ◌+◌, ◌-◌, ◌*◌, ◌/◌, ◌^◌, ◌<◌, ◌≤◌, Bool, true, false, cond, eqb, true≢false, inl, inr, refl, ap, pos, arith}
use Rattle.std.proofs.lemmas.Bool.{cases_lt}
use Rattle.std.proofs.lemmas.Nat.{mul-le, pow_pos}
use Rattle.std.proofs.Math.Nat.{mul-le-mul_right, le_of_mul-le-mul_right, mul-pos, mul-mul-mul_comm, le-div_iff_mul-le, div-mul-le_self, lt-mul-div-succ}
use Rattle.std.specs.Float.Ieee.{Float, binary64, nan, inf, fin, up, round, mul, sqrt, size, root_below, root_twice}
use lib.Ieee.Fits.{up_pos}
use lib.Ieee.Root.{Root, whole_part}
use Rattle.fixed.proofs.RootLemmas.{le_of_squares}
use Rattle.float_filters.specs.Near.{IsFractionNear, IsNear, IsNearRoot, HasSign, numerator, denominator}
use Rattle.float_filters.proofs.Fractions.{denominator_pos, IsModerate, IsZeroOrModerate, near_after, near_times}
use Rattle.float_filters.proofs.Rounding.{IsNext}
use Rattle.float_filters.proofs.FloatLaws.{moderate_of_near, moderate_grows, product_is, round_near, round_next, some_of_near}

-- ---- the integer root that is rounded

-- twice the root of n, or the odd number between twice its neighbours
twice_bounds : (n : ℕ) → (r : ℕ) × (r * r ≤ n) × (n < (r + 1) * (r + 1)) × (2 * r ≤ root_twice n) × (root_twice n ≤ 2 * r + 1)
unfolding root_twice
twice_bounds n =
    let r = root_below (size n) n in
    let h : Root r n = whole_part n in
    (r, h.0, h.1, low r (eqb (r * r) n), high r (eqb (r * r) n))
  where
    low : (r : ℕ) (b : Bool) → 2 * r ≤ 2 * r + cond b 0 1
    low r true = omega arith
    low r false = omega arith

    high : (r : ℕ) (b : Bool) → 2 * r + cond b 0 1 ≤ 2 * r + 1
    high r true = omega arith
    high r false = omega arith

-- the root of a great number is great
root_great : (n r : ℕ) → 2 ^ 250 ≤ n → n < (r + 1) * (r + 1) → 2 ^ 120 ≤ r
root_great n r h g =
    elim (cases_lt r (2 ^ 120)) [
      | inl l ↦ absurd (omega (arith, mul-le (r + 1) (r + 1) (2 ^ 120) (2 ^ 120) (omega arith) (omega arith)))
      | inr l ↦ l
    ]

-- with r the root of m, m the floor of w / d, and t between 2 r and 2 r + 1: t^2 is within 2^-110 of 4 w / d
square_high : (w d m r t : ℕ) → 2 ^ 120 ≤ r → r * r ≤ m → m * d ≤ w → t ≤ 2 * r + 1 → t * t * d * 2 ^ 110 ≤ 4 * w * (2 ^ 110 + 1)
square_high w d m r t g a b h =
    let x : t * t ≤ (2 * r + 1) * (2 * r + 1) = mul-le t t (2 * r + 1) (2 * r + 1) h h in
    let y : 2 ^ 120 * r ≤ r * r = mul-le-mul_right r g in
    let z : t * t * 2 ^ 110 ≤ 4 * m * (2 ^ 110 + 1) = omega arith in
    omega (arith, mul-le-mul_right d z, mul-le-mul_right (4 * (2 ^ 110 + 1)) b)

square_low : (w d m r t : ℕ) → 2 ^ 120 ≤ r → m < (r + 1) * (r + 1) → w ≤ (m + 1) * d → 2 * r ≤ t
    → 4 * w * (2 ^ 110 - 1) ≤ t * t * d * 2 ^ 110
square_low w d m r t g a b h =
    let x : 2 * r * (2 * r) ≤ t * t = mul-le (2 * r) (2 * r) t t h h in
    let y : 2 ^ 120 * r ≤ r * r = mul-le-mul_right r g in
    let z : 4 * (m + 1) * (2 ^ 110 - 1) ≤ t * t * 2 ^ 110 = omega arith in
    omega (arith, mul-le-mul_right d z, mul-le-mul_right (4 * (2 ^ 110 - 1)) b)

-- t / z is within 2^-110 of the root of a / c, in squares
record IsClose (t z a c : ℕ) : Type 0 where
  pub low : a * (2 ^ 110 - 1) * (z * z) ≤ t * t * c * 2 ^ 110
  pub high : t * t * c * 2 ^ 110 ≤ a * (2 ^ 110 + 1) * (z * z)

-- the number that is rounded is close to the root of n / d, if that isn't too small
twice_close : (n d : ℕ) → 0 < d → d ≤ n * 2 ^ 400 → IsClose (root_twice (n * 2 ^ 4542 / d)) (2 ^ 2272) n d
twice_close n d D h =
    let w = n * 2 ^ 4542 in
    let m = w / d in
    let t = twice_bounds m in
    let floor : m * d ≤ w = div-mul-le_self w d in
    let next : w ≤ (m + 1) * d = omega (arith, lt-mul-div-succ w D) in
    let great : 2 ^ 250 ≤ m = (le-div_iff_mul-le D).1 (enough n d h) in
    let large = root_great m t.0 great t.2 in
    record {
      low = omega (arith, square_low w d m t.0 (root_twice m) large t.2 next t.3);
      high = omega (arith, square_high w d m t.0 (root_twice m) large t.1 floor t.4);
    }
  where
    enough : (n d : ℕ) → d ≤ n * 2 ^ 400 → 2 ^ 250 * d ≤ n * 2 ^ 4542
    enough n d h = omega arith

near_of_close : (t z a c : ℕ) → IsClose t z a c → IsFractionNear 1 (t * t) (z * z) a c
near_of_close t z a c h = record { low = omega (arith, h.low); high = omega (arith, h.high) }

-- One rounding of a number that is close to a root: the exact bound of one rounding leaves room for the distance.
next_high : (n d t z a c : ℕ) → 0 < z → n * z * (2 ^ 53 + 1) ≤ t * (2 ^ 53 + 2) * d → t * t * c * 2 ^ 110 ≤ a * (2 ^ 110 + 1) * (z * z)
    → n * n * c * (2 ^ 53) ^ 2 ≤ a * (2 ^ 53 + 1) ^ 2 * (d * d)
next_high n d t z a c Z h g =
    let x : n * z * (2 ^ 53 + 1) * (n * z * (2 ^ 53 + 1)) ≤ t * (2 ^ 53 + 2) * d * (t * (2 ^ 53 + 2) * d) = mul-le _ _ _ _ h h in
    le_of_mul-le-mul_right {k = z * z} (omega (arith, mul-le-mul_right c x, mul-le-mul_right (d * d) g)) (mul-pos Z Z)

next_low : (n d t z a c : ℕ) → 0 < z → t * 2 ^ 53 * d ≤ n * z * (2 ^ 53 + 1) → a * (2 ^ 110 - 1) * (z * z) ≤ t * t * c * 2 ^ 110
    → a * (2 ^ 53 - 1) ^ 2 * (d * d) ≤ n * n * c * (2 ^ 53) ^ 2
next_low n d t z a c Z h g =
    let x : t * 2 ^ 53 * d * (t * 2 ^ 53 * d) ≤ n * z * (2 ^ 53 + 1) * (n * z * (2 ^ 53 + 1)) = mul-le _ _ _ _ h h in
    le_of_mul-le-mul_right {k = z * z} (omega (arith, mul-le-mul_right c x, mul-le-mul_right (d * d) g)) (mul-pos Z Z)

next_square : (n d t z a c : ℕ) → 0 < z → IsNext n d t z → IsClose t z a c → IsFractionNear 2 (n * n) (d * d) a c
next_square n d t z a c Z h g = record { low = next_low n d t z a c Z h.low g.low; high = next_high n d t z a c Z h.high g.high }

-- ---- roots of floats

root_is : (x : Float) → HasSign false x → 0 < numerator x
    → sqrt binary64 x ≡ round binary64 false (root_twice (numerator x * 2 ^ 4542 / denominator x)) (2 ^ 2272)
unfolding sqrt
root_is nan h p = absurd h
root_is (inf s) h p = absurd h
root_is (fin true m e) h p = absurd (true≢false h)
root_is (fin false zero e) h p = absurd (omega arith)
root_is (fin false (suc m) e) h p = refl

root_of_zero : (x : Float) → HasSign false x → numerator x ≡ 0 → sqrt binary64 x ≡ fin false 0 (pos 0)
unfolding sqrt
root_of_zero nan h p = absurd h
root_of_zero (inf s) h p = absurd h
root_of_zero (fin true m e) h p = absurd (true≢false h)
root_of_zero (fin false zero e) h p = refl
root_of_zero (fin false (suc m) e) h p = absurd (omega (arith, mul-pos {m = suc m} {n = up e} (omega arith) (up_pos e)))

root_within : (b n d : ℕ) → d * d ≤ n * n * 2 ^ b → d ≤ n * 2 ^ b
root_within b n d h = le_of_squares d (n * 2 ^ b) (more (2 ^ b) (pow_pos b) h)
  where
    more : (t : ℕ) → 0 < t → d * d ≤ n * n * t → d * d ≤ n * t * (n * t)
    more t T h = omega (arith, mul-le (n * n * t) 1 (n * n * t) t (omega arith) T)

-- a fraction whose square is 0, or isn't too great or too small, is so too
moderate_root : (b n d : ℕ) → IsZeroOrModerate b (n * n) (d * d) → IsZeroOrModerate b n d
moderate_root b n d (inl e) = inl (none n e)
  where
    none : (n : ℕ) → n * n ≡ 0 → n ≡ 0
    none zero e = refl
    none (suc n) e = absurd (omega arith)
moderate_root b n d (inr m) = inr (record { low = root_within b n d m.low; high = root_within b d n m.high })

-- the square of the float next to a fraction is near the fraction's square
rounded_square : (n d : ℕ) → 0 < d → IsZeroOrModerate 400 (n * n) (d * d) → IsNearRoot 2 (round binary64 false n d) (n * n) (d * d)
rounded_square n d D m =
    let one = round_near false n d D (moderate_root 400 n d m) in
    record { sign = one.sign; near = near_times 1 1 _ _ _ _ n d n d one.near one.near }

-- a float near a root, seen from a fraction near another one
root_after : (k j n d : ℕ) (x : Float) (a c : ℕ) → 0 < d → IsFractionNear k n d a c → IsNearRoot j x n d → IsNearRoot (k + j) x a c
root_after k j n d x a c D h g = record { sign = g.sign; near = near_after k j n d _ _ a c D h g.near }

-- a fraction that isn't 0, or too great or too small, has a root that is rounded within the bound
some_moderate : (t z n d : ℕ) → 0 < d → 0 < z → IsModerate 300 n d → IsFractionNear 1 (t * t) (z * z) n d → IsModerate 400 t z
some_moderate t z n d D Z m h = go (moderate_root 400 t z (moderate_of_near 300 1 (t * t) (z * z) n d D (omega arith) (inr m) h))
  where
    positive : (n d : ℕ) → 0 < d → d ≤ n * 2 ^ 300 → 0 < n
    positive n d D h = omega arith

    some : 0 < t * t
    some = some_of_near 1 (t * t) (z * z) n d (positive n d D m.low) (mul-pos Z Z) h

    go : IsZeroOrModerate 400 t z → IsModerate 400 t z
    go (inl e) = absurd (omega (arith, some, ap (λ (x : ℕ). x * t) e))
    go (inr g) = g

root_of_fraction : (n d : ℕ) → 0 < d → IsModerate 300 n d
    → IsNearRoot 2 (round binary64 false (root_twice (n * 2 ^ 4542 / d)) (2 ^ 2272)) n d
root_of_fraction n d D m =
    let t = root_twice (n * 2 ^ 4542 / d) in
    let close = twice_close n d D (omega (arith, m.low)) in
    let range = some_moderate t (2 ^ 2272) n d D (pow_pos 2272) m (near_of_close t (2 ^ 2272) n d close) in
    let next = round_next false t (2 ^ 2272) (pow_pos 2272) range in
    record { sign = next.0; near = next_square _ _ t (2 ^ 2272) n d (pow_pos 2272) next.1 close }

root_near_zero : (n d : ℕ) → n ≡ 0 → IsNearRoot 2 (fin false 0 (pos 0)) n d
root_near_zero n d e = rw e (record { sign = refl; near = record { low = omega arith; high = omega arith } })

root_near_value : (x : Float) → HasSign false x → IsZeroOrModerate 300 (numerator x) (denominator x)
    → IsNearRoot 2 (sqrt binary64 x) (numerator x) (denominator x)
root_near_value x h (inl e) = rw (root_of_zero x h e) (root_near_zero (numerator x) (denominator x) e)
root_near_value x h (inr g) = rw (root_is x h (some (numerator x) (denominator x) g.low (denominator_pos x))) (root_of_fraction (numerator x) (denominator x) (denominator_pos x) g)
  where
    some : (n d : ℕ) → d ≤ n * 2 ^ 300 → 0 < d → 0 < n
    some n d g p = omega arith

-- the float root of a float near a number is near the number's root, with two factors more for the squares
pub near_root : (k : ℕ) (x : Float) (a c : ℕ) → 0 < c → k ≤ 100 → IsZeroOrModerate 200 a c → IsNear k x a c
    → IsNearRoot (k + 2) (sqrt binary64 x) a c
near_root k x a c C h m f =
    root_after k 2 _ _ (sqrt binary64 x) a c (denominator_pos x) f.near (root_near_value x f.sign (moderate_of_near 200 k _ _ a c C h m f.near))

-- The float product of a float near a root and one near a number is near the product. The squares have the factors of
-- the first, twice those of the second, and two more.
pub near_root_product : (k j : ℕ) (x y : Float) (a c b e : ℕ) → 0 < c → 0 < e → k + (j + j) ≤ 100
    → IsZeroOrModerate 200 (a * (b * b)) (c * (e * e))
    → IsNearRoot k x a c → IsNear j y b e → IsNearRoot (k + (j + j) + 2) (mul binary64 x y) (a * (b * b)) (c * (e * e))
near_root_product k j x y a c b e C E h m f g =
    let squares = near_times j j _ _ _ _ b e b e g.near g.near in
    let whole = near_times k (j + j) _ _ _ _ a c (b * b) (e * e) f.near squares in
    let place = mul-pos C (mul-pos E E) in
    let N = numerator x * numerator y in
    let D = denominator x * denominator y in
    let near : IsFractionNear (k + (j + j)) (N * N) (D * D) (a * (b * b)) (c * (e * e)) = rw (mul-mul-mul_comm (numerator x) (numerator y) (numerator x) (numerator y), mul-mul-mul_comm (denominator x) (denominator y) (denominator x) (denominator y)) whole in
    let positive = mul-pos (denominator_pos x) (denominator_pos y) in
    let range = moderate_grows 300 400 (N * N) (D * D) (omega arith) (moderate_of_near 200 (k + (j + j)) (N * N) (D * D) _ _ place h m near) in
    rw (product_is false false x y f.sign g.sign)
    (root_after (k + (j + j)) 2 (N * N) (D * D) _ _ _ (mul-pos positive positive) near (rounded_square N D positive range))
