-- Laws of fractions that are near other fractions.
use Rattle.std.proofs.Common.{◌≡◌, ℕ, zero, suc, refl, ◌+◌, ◌-◌, ◌*◌, ◌^◌, ◌<◌, ◌≤◌, ◌⊎◌, ap, subst, arith}
use Rattle.std.proofs.lemmas.Nat.{mul-le, pow-add, pow_pos, mul-pow}
use Rattle.std.proofs.Math.Nat.{mul-le-mul_right, le_of_mul-le-mul_right, one-le-pow, pow-le-pow_left}
use lib.Ieee.{Float, nan, inf, fin}
use lib.Ieee.Fits.{down_pos}
use Rattle.float_filters.specs.Near.{denominator, IsFractionNear}

-- denominators are positive
pub denominator_pos : (x : Float) → 0 < denominator x
denominator_pos nan = pow_pos 0
denominator_pos (inf s) = pow_pos 0
denominator_pos (fin s m e) = down_pos e

-- if a product with a positive number is 0, the other factor is
pub no_factor : (n m : ℕ) → 0 < m → n * m ≤ 0 → n ≡ 0
no_factor zero m M h = refl
no_factor (suc n) m M h = absurd (omega arith)

-- ---- sizes

-- a / c is between 2^-b and 2^b
pub record IsModerate (b a c : ℕ) : Type 0 where
  pub low : c ≤ a * 2 ^ b
  pub high : a ≤ c * 2 ^ b

-- a / c is 0, or between 2^-b and 2^b
abbrev pub IsZeroOrModerate : ℕ → ℕ → ℕ → Type 0
IsZeroOrModerate b a c = (a ≡ 0) ⊎ IsModerate b a c

-- ---- chains of inequalities between products

chain_low : (a c n d m e p q r t : ℕ) → 0 < d → a * p * d ≤ n * c * q → n * r * e ≤ m * d * t → a * (p * r) * e ≤ m * c * (q * t)
chain_low a c n d m e p q r t D h g =
    let x : a * p * d * (r * e) ≤ n * c * q * (r * e) = mul-le-mul_right (r * e) h in
    let y : n * r * e * (c * q) ≤ m * d * t * (c * q) = mul-le-mul_right (c * q) g in
    let z : a * (p * r) * e * d ≤ m * c * (q * t) * d = omega arith in
    le_of_mul-le-mul_right z D

chain_high : (a c n d m e p q r t : ℕ) → 0 < d → n * c * q ≤ a * p * d → m * d * t ≤ n * r * e → m * c * (q * t) ≤ a * (p * r) * e
chain_high a c n d m e p q r t D h g =
    let x : n * c * q * (r * e) ≤ a * p * d * (r * e) = mul-le-mul_right (r * e) h in
    let y : m * d * t * (c * q) ≤ n * r * e * (c * q) = mul-le-mul_right (c * q) g in
    let z : m * c * (q * t) * d ≤ a * (p * r) * e * d = omega arith in
    le_of_mul-le-mul_right z D

-- a fraction near one that is near a / c is near a / c, with the factors of both
pub near_after : (k j n d m e a c : ℕ) → 0 < d → IsFractionNear k n d a c → IsFractionNear j m e n d → IsFractionNear (k + j) m e a c
near_after k j n d m e a c D h g =
    record {
      low = rw (pow-add (2 ^ 53 - 1) k j, pow-add (2 ^ 53) k j) (chain_low a c n d m e _ _ _ _ D h.low g.low);
      high = rw (pow-add (2 ^ 53) k j, pow-add (2 ^ 53 + 1) k j) (chain_high a c n d m e _ _ _ _ D h.high g.high);
    }

-- ---- more factors

-- powers of a number that is no greater
power_grows : (p q k : ℕ) → p ≤ q → p ^ k ≤ q ^ k
power_grows p q k h = pow-le-pow_left h k

-- a fraction is near itself with any number of factors
pub near_itself : (k n d : ℕ) → IsFractionNear k n d n d
near_itself k n d =
    record {
      low = omega (arith, mul-le-mul_right (n * d) (power_grows (2 ^ 53 - 1) (2 ^ 53) k (omega arith)));
      high = omega (arith, mul-le-mul_right (n * d) (power_grows (2 ^ 53) (2 ^ 53 + 1) k (omega arith)));
    }

-- the number of factors may grow
pub near_grows : (k j n d a c : ℕ) → 0 < d → k ≤ j → IsFractionNear k n d a c → IsFractionNear j n d a c
near_grows k j n d a c D h g =
    let e : k + (j - k) ≡ j = omega arith in
    subst (λ i. IsFractionNear i n d a c) e (near_after k (j - k) n d n d a c D g (near_itself (j - k) n d))

-- the other fraction may be written in another way
pub near_same : (k n d a c b e : ℕ) → 0 < c → a * e ≡ b * c → IsFractionNear k n d a c → IsFractionNear k n d b e
near_same k n d a c b e C h g =
    let p = (2 ^ 53 - 1) ^ k in
    let q = (2 ^ 53) ^ k in
    let s = (2 ^ 53 + 1) ^ k in
    let low : b * p * d * c ≤ n * e * q * c = same_low n d a c b e p q h g.low in
    let high : n * e * q * c ≤ b * s * d * c = same_high n d a c b e s q h g.high in
    record { low = le_of_mul-le-mul_right low C; high = le_of_mul-le-mul_right high C }
  where
    same_low : (n d a c b e p q : ℕ) → a * e ≡ b * c → a * p * d ≤ n * c * q → b * p * d * c ≤ n * e * q * c
    same_low n d a c b e p q h g = omega (arith, ap (λ (x : ℕ). x * (p * d)) h, mul-le-mul_right e g)

    same_high : (n d a c b e s q : ℕ) → a * e ≡ b * c → n * c * q ≤ a * s * d → n * e * q * c ≤ b * s * d * c
    same_high n d a c b e s q h g = omega (arith, ap (λ (x : ℕ). x * (s * d)) h, mul-le-mul_right e g)

-- ---- products, sums and quotients

times_le : (a p d n c q b r e m f t : ℕ) → a * p * d ≤ n * c * q → b * r * e ≤ m * f * t
    → a * b * (p * r) * (d * e) ≤ n * m * (c * f) * (q * t)
times_le a p d n c q b r e m f t h g = omega (arith, mul-le (a * p * d) (b * r * e) (n * c * q) (m * f * t) h g)

times_ge : (a p d n c q b r e m f t : ℕ) → n * c * q ≤ a * p * d → m * f * t ≤ b * r * e
    → n * m * (c * f) * (q * t) ≤ a * b * (p * r) * (d * e)
times_ge a p d n c q b r e m f t h g = omega (arith, mul-le (n * c * q) (m * f * t) (a * p * d) (b * r * e) h g)

-- the product of two fractions near two others is near their product, with the factors of both
pub near_times : (k j n d m e a c b f : ℕ) → IsFractionNear k n d a c → IsFractionNear j m e b f
    → IsFractionNear (k + j) (n * m) (d * e) (a * b) (c * f)
near_times k j n d m e a c b f h g =
    record {
      low = rw (pow-add (2 ^ 53 - 1) k j, pow-add (2 ^ 53) k j) (times_le a _ d n c _ b _ e m f _ h.low g.low);
      high = rw (pow-add (2 ^ 53) k j, pow-add (2 ^ 53 + 1) k j) (times_ge a _ d n c _ b _ e m f _ h.high g.high);
    }

plus_le : (a p d n c q b e m f : ℕ) → a * p * d ≤ n * c * q → b * p * e ≤ m * f * q
    → (a * f + b * c) * p * (d * e) ≤ (n * e + m * d) * (c * f) * q
plus_le a p d n c q b e m f h g = omega (arith, mul-le-mul_right (e * f) h, mul-le-mul_right (d * c) g)

plus_ge : (a p d n c q b e m f : ℕ) → n * c * q ≤ a * p * d → m * f * q ≤ b * p * e
    → (n * e + m * d) * (c * f) * q ≤ (a * f + b * c) * p * (d * e)
plus_ge a p d n c q b e m f h g = omega (arith, mul-le-mul_right (e * f) h, mul-le-mul_right (d * c) g)

-- the sum of two fractions near two others, with the same number of factors, is near their sum
pub near_plus : (k n d m e a c b f : ℕ) → IsFractionNear k n d a c → IsFractionNear k m e b f
    → IsFractionNear k (n * e + m * d) (d * e) (a * f + b * c) (c * f)
near_plus k n d m e a c b f h g =
    record { low = plus_le a _ d n c _ b e m f h.low g.low; high = plus_ge a _ d n c _ b e m f h.high g.high }

-- (1 + 2^-53) (1 - 2^-53)^2 is at most 1, and (1 - 2^-53) (1 + 2^-53)^2 at least
turned : (j : ℕ) → ((2 ^ 53 + 1) ^ j * ((2 ^ 53 - 1) ^ j * (2 ^ 53 - 1) ^ j) ≤ (2 ^ 53) ^ j * ((2 ^ 53) ^ j * (2 ^ 53) ^ j))
    × ((2 ^ 53) ^ j * ((2 ^ 53) ^ j * (2 ^ 53) ^ j) ≤ (2 ^ 53 - 1) ^ j * ((2 ^ 53 + 1) ^ j * (2 ^ 53 + 1) ^ j))
turned j =
    let low : ((2 ^ 53 + 1) * ((2 ^ 53 - 1) * (2 ^ 53 - 1))) ^ j ≤ (2 ^ 53 * (2 ^ 53 * 2 ^ 53)) ^ j = power_grows _ _ j (omega arith) in
    let high : (2 ^ 53 * (2 ^ 53 * 2 ^ 53)) ^ j ≤ ((2 ^ 53 - 1) * ((2 ^ 53 + 1) * (2 ^ 53 + 1))) ^ j = power_grows _ _ j (omega arith) in (
      rw (← mul-pow (2 ^ 53 - 1) (2 ^ 53 - 1) j, ← mul-pow (2 ^ 53) (2 ^ 53) j, ← mul-pow (2 ^ 53 + 1) ((2 ^ 53 - 1) * (2 ^ 53 - 1)) j, ← mul-pow (2 ^ 53) (2 ^ 53 * 2 ^ 53) j) low,
      rw (← mul-pow (2 ^ 53 + 1) (2 ^ 53 + 1) j, ← mul-pow (2 ^ 53) (2 ^ 53) j, ← mul-pow (2 ^ 53 - 1) ((2 ^ 53 + 1) * (2 ^ 53 + 1)) j, ← mul-pow (2 ^ 53) (2 ^ 53 * 2 ^ 53) j) high,
    )

over_low : (a p d n c q b e m f r t s : ℕ) → 0 < t → a * p * d ≤ n * c * q → m * f * t ≤ b * s * e → s * (r * r) ≤ t * (t * t)
    → a * f * (p * (r * r)) * (d * m) ≤ n * e * (c * b) * (q * (t * t))
over_low a p d n c q b e m f r t s T h g u =
    let x : a * p * d * (m * f * t) ≤ n * c * q * (b * s * e) = mul-le (a * p * d) (m * f * t) (n * c * q) (b * s * e) h g in
    let y : a * f * (p * (r * r)) * (d * m) * t ≤ n * c * q * (b * e) * (s * (r * r)) = omega (arith, mul-le-mul_right (r * r) x) in
    let z : n * c * q * (b * e) * (s * (r * r)) ≤ n * c * q * (b * e) * (t * (t * t)) = mul-le (n * c * q * (b * e)) _ (n * c * q * (b * e)) _ (omega arith) u in
    le_of_mul-le-mul_right (omega (arith, y, z)) T

over_high : (a s d n c q b e m f r t p : ℕ) → 0 < t → n * c * q ≤ a * s * d → b * p * e ≤ m * f * t → t * (t * t) ≤ p * (r * r)
    → n * e * (c * b) * (q * (t * t)) ≤ a * f * (s * (r * r)) * (d * m)
over_high a s d n c q b e m f r t p T h g u =
    let x : n * c * q * (b * p * e) ≤ a * s * d * (m * f * t) = mul-le (n * c * q) (b * p * e) (a * s * d) (m * f * t) h g in
    let y : n * c * q * (b * e) * (p * (r * r)) ≤ a * f * (s * (r * r)) * (d * m) * t = omega (arith, mul-le-mul_right (r * r) x) in
    let z : n * c * q * (b * e) * (t * (t * t)) ≤ n * c * q * (b * e) * (p * (r * r)) = mul-le (n * c * q * (b * e)) _ (n * c * q * (b * e)) _ (omega arith) u in
    le_of_mul-le-mul_right (omega (arith, y, z)) T

-- The quotient of two fractions near two others is near their quotient, with the factors of the dividend and twice
-- those of the divisor: 1 / (1 - 2^-53) is more than 1 + 2^-53, but less than its square.
pub near_over : (k j n d m e a c b f : ℕ) → IsFractionNear k n d a c → IsFractionNear j m e b f
    → IsFractionNear (k + (j + j)) (n * e) (d * m) (a * f) (c * b)
near_over k j n d m e a c b f h g =
    let u = turned j in
    let T : 0 < (2 ^ 53) ^ j = one-le-pow j (2 ^ 53) (omega arith) in
    record {
      low = rw (pow-add (2 ^ 53 - 1) k (j + j), pow-add (2 ^ 53) k (j + j), pow-add (2 ^ 53 - 1) j j, pow-add (2 ^ 53) j j) (over_low a _ d n c _ b e m f _ _ _ T h.low g.high u.0);
      high = rw (pow-add (2 ^ 53) k (j + j), pow-add (2 ^ 53 + 1) k (j + j), pow-add (2 ^ 53) j j, pow-add (2 ^ 53 + 1) j j) (over_high a _ d n c _ b e m f _ _ _ T h.high g.low u.1);
    }
