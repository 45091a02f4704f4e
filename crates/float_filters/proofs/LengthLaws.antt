-- Lengths of lines, and distances in other units, as floats.
use Rattle.std.proofs.Common.{◌≡◌, ℕ, zero, suc, ◌*◌, ◌^◌, ◌<◌, ◌≤◌, List, get_or, length, replicate, false, inl, inr, refl, ap, ◌∙◌, subst, arith}
use Rattle.std.proofs.lemmas.Nat.{mul-le}
use Rattle.std.proofs.lemmas.Simd.{get_or-zip2, get_or-replicate}
use Rattle.std.proofs.Math.Nat.{mul-pos}
use Rattle.std.specs.Float.Ieee.{Float, binary64, nan, mul, div, of_bits, sqrt}
use Rattle.std.specs.Simd.Lanes.{zip2}
use Rattle.float_filters.specs.Near.{IsNear, IsNearRoot}
use Rattle.float_filters.proofs.Fractions.{IsZeroOrModerate}
use Rattle.float_filters.proofs.FloatLaws.{near_quotient}
use Rattle.float_filters.proofs.RootLaws.{near_root, near_root_product}
use Rattle.float_filters.proofs.ConversionLaws.{natural_moderate}

-- the float quotient of floats that equal two positive numbers
pub near_number_ratio : (n d : ℕ) (x y : Float) → 0 < n → n ≤ 2 ^ 64 → 0 < d → d ≤ 2 ^ 64 → IsNear 0 x n 1 → IsNear 0 y d 1
    → IsNear 1 (div binary64 x y) n d
near_number_ratio n d x y N n_fits D d_fits f g =
    let a : n * 1 ≡ n = omega arith in
    let b : 1 * d ≡ d = omega arith in
    let range : IsZeroOrModerate 200 (n * 1) (1 * d) = inr (record { low = omega arith; high = omega arith }) in
    subst (λ i. IsNear 1 (div binary64 x y) i d) a (subst (λ j. IsNear 1 (div binary64 x y) (n * 1) j) b (near_quotient 0 0 false false x y n 1 d 1 (omega arith) D (omega arith) range f g))

-- the float root of a float near a number that isn't too great
pub near_number_root : (s : ℕ) (x : Float) → s ≤ 2 ^ 200 → IsNear 5 x s 1 → IsNearRoot 7 (sqrt binary64 x) s 1
near_number_root s x h f = near_root 5 x s 1 (omega arith) (omega arith) (natural_moderate s h) f

-- s times a square over a square isn't too great or too small
scaled_range : (s n d : ℕ) → s ≤ 2 ^ 128 → 0 < n → n ≤ 2 ^ 32 → 0 < d → d ≤ 2 ^ 32 → IsZeroOrModerate 200 (s * (n * n)) (1 * (d * d))
scaled_range zero n d h N n_fits D d_fits = inl (omega arith)
scaled_range (suc s) n d h N n_fits D d_fits =
    inr (record {
      low = omega (arith, mul-le d d (2 ^ 32) (2 ^ 32) d_fits d_fits, mul-le 1 1 (suc s) (n * n) (omega arith) (mul-pos N N));
      high = omega (arith, mul-pos D D, mul-le (suc s) (n * n) (2 ^ 128) (2 ^ 32 * 2 ^ 32) h (mul-le n n (2 ^ 32) (2 ^ 32) n_fits n_fits));
    })

-- the float product of a float near a length and one near a fraction
pub near_scaled_length : (s n d : ℕ) (x y : Float) → s ≤ 2 ^ 112 → 0 < n → n ≤ 2 ^ 32 → 0 < d → d ≤ 2 ^ 32 → IsNearRoot 7 x s 1
    → IsNear 1 y n d
    → IsNearRoot 11 (mul binary64 x y) (s * (n * n)) (d * d)
near_scaled_length s n d x y h N n_fits D d_fits f g =
    let one : 1 * (d * d) ≡ d * d = omega arith in
    subst (λ i. IsNearRoot 11 (mul binary64 x y) (s * (n * n)) i) one (near_root_product 7 1 x y s 1 n d (omega arith) D (omega arith) (scaled_range s n d (omega arith) N n_fits D d_fits) f g)

-- the float root of a float near a limit below 2^128
pub near_limit_root : (s : ℕ) (x : Float) → s < 2 ^ 128 → IsNear 3 x s 1 → IsNearRoot 5 (sqrt binary64 x) s 1
near_limit_root s x h f = near_root 3 x s 1 (omega arith) (omega arith) (natural_moderate s (omega arith)) f

-- the literal 2^-49
small : IsNear 0 (of_bits binary64 4386506037058863104) 1 (2 ^ 49)
unfolding of_bits
small = record { sign = refl; near = record { low = omega arith; high = omega arith } }

-- 2^-49 of the product of a reach and a factor
pub near_small_product : (s n d : ℕ) (x y : Float) → s ≤ 2 ^ 128 → 0 < n → n ≤ 2 ^ 32 → 0 < d → d ≤ 2 ^ 32 → IsNearRoot 5 x s 1
    → IsNear 1 y n d
    → IsNearRoot 11 (mul binary64 (mul binary64 x y) (of_bits binary64 4386506037058863104)) (s * (n * n)) (d * d * 2 ^ 98)
near_small_product s n d x y h N n_fits D d_fits f g =
    let first = near_root_product 5 1 x y s 1 n d (omega arith) D (omega arith) (scaled_range s n d h N n_fits D d_fits) f g in
    let a : s * (n * n) * (1 * 1) ≡ s * (n * n) = omega arith in
    let b : 1 * (d * d) * (2 ^ 49 * 2 ^ 49) ≡ d * d * 2 ^ 98 = omega arith in
    let z = mul binary64 (mul binary64 x y) (of_bits binary64 4386506037058863104) in
    let second = near_root_product 9 0 (mul binary64 x y) _ (s * (n * n)) (1 * (d * d)) 1 (2 ^ 49) (mul-pos {m = 1} (omega arith) (mul-pos D D)) (omega arith) (omega arith) (range s n d (scaled_range s n d h N n_fits D d_fits) (mul-pos D D) (mul-le d d (2 ^ 32) (2 ^ 32) d_fits d_fits)) first small in
    subst (λ i. IsNearRoot 11 z i (d * d * 2 ^ 98)) a (subst (λ j. IsNearRoot 11 z (s * (n * n) * (1 * 1)) j) b second)
  where
    range : (s n d : ℕ) → IsZeroOrModerate 200 (s * (n * n)) (1 * (d * d)) → 0 < d * d → d * d ≤ 2 ^ 32 * 2 ^ 32
        → IsZeroOrModerate 200 (s * (n * n) * (1 * 1)) (1 * (d * d) * (2 ^ 49 * 2 ^ 49))
    range s n d (inl e) p h = inl (omega arith)
    range s n d (inr m) p h = inr (record { low = omega (arith, m.low); high = omega (arith, m.high) })

-- a lane of a product with a splat
pub lane_product : (xs : List Float) (y : Float) (l : ℕ) → length xs ≡ 4 → l < 4
    → get_or (zip2 (mul binary64) xs (replicate 4 y)) l nan ≡ mul binary64 (get_or xs l nan) y
lane_product xs y l e h =
    get_or-zip2 (mul binary64) xs (replicate 4 y) l nan nan nan (omega arith) h ∙ ap (mul binary64 (get_or xs l nan)) (get_or-replicate 4 l y nan h)
