-- Distances decided in floating point.
use Rattle.std.proofs.Common.{◌≡◌, ℕ, zero, suc, ◌*◌, ◌/◌, ◌^◌, ◌<◌, ◌≤◌, ℤ, pos, arith, refl, subst, sym, ap, ◌∙◌}
use Rattle.std.specs.Prelude.{◌≤ℤ◌, ◌<ℤ◌, ◌*ℤ◌, unsigned_abs}
use Rattle.std.specs.Float.Ieee.{Float, binary64, mul, of_int}
use Rattle.std.specs.Int.{int_max}
use Rattle.std.proofs.lemmas.Int.{clamps, ints}
use Rattle.std.proofs.lemmas.Nat.{mul-le}
use Rattle.fixed.specs.Fractions.{bits_of}
use Rattle.fixed.specs.Roots.{root}
use Rattle.fixed.specs.declared.frac.Frac.{Frac}
use Rattle.fixed.specs.declared.frac.Frac.TheVariants.{F24, F32, F40}
use Rattle.float_filters.specs.DistanceFilters.{IsScale, distance_of}
use Rattle.float_filters.specs.Near.{IsNear, IsNearInteger}
use Rattle.float_filters.proofs.ConversionLaws.{exact_integer}
use Rattle.float_filters.proofs.SeparationLaws.{near_length}
use Rattle.ring_box.specs.Acting.{IsReach, Reach, limit_of}
use Rattle.ring_box.specs.Distances.{distance_at, unit_of, widening_of}
use Rattle.ring_box.specs.FloatReaches.{scale_of, taken_at}
use Rattle.ring_box.proofs.DistanceLemmas.{scaled_below, unit_positive}

-- ---- sizes

-- the square of the scale is the widening
pub scale_squared : (f : Frac) → scale_of f * scale_of f ≡ widening_of f
scale_squared F24 = refl
scale_squared F32 = refl
scale_squared F40 = refl

-- the scale and the unit are small positive numbers
pub scale_positive : (f : Frac) → 0 < scale_of f
scale_positive F24 = omega arith
scale_positive F32 = omega arith
scale_positive F40 = omega arith

pub scale_small : (f : Frac) → scale_of f ≤ 2 ^ 32
scale_small F24 = omega arith
scale_small F32 = omega arith
scale_small F40 = omega arith

pub unit_small : (f : Frac) → unit_of f ≤ 2 ^ 32
unit_small F24 = omega arith
unit_small F32 = omega arith
unit_small F40 = omega arith

-- the limit of squares is at most 2^112
pub limit_fits : (f : Frac) (c : ℤ) → pos 0 <ℤ c → c ≤ℤ pos (80 * 2 ^ bits_of f) → limit_of f c ≤ 2 ^ 112
limit_fits F24 c p h =
    let e : 25600000 * unsigned_abs c ≤ 2 ^ 56 = omega (arith, ints) in
    let t = mul-le (25600000 * unsigned_abs c) (25600000 * unsigned_abs c) (2 ^ 56) (2 ^ 56) e e in
    omega (arith, t)
limit_fits F32 c p h =
    let e : 100000 * unsigned_abs c ≤ 2 ^ 56 = omega (arith, ints) in
    let t = mul-le (100000 * unsigned_abs c) (100000 * unsigned_abs c) (2 ^ 56) (2 ^ 56) e e in
    omega (arith, t)
limit_fits F40 c p h =
    let e : 100000 * unsigned_abs c ≤ 2 ^ 63 = omega (arith, ints) in
    let t = mul-le (100000 * unsigned_abs c) (100000 * unsigned_abs c) (2 ^ 63) (2 ^ 63) e e in
    omega (arith, t)

pub reach_fits : (d : Reach) → IsReach d → limit_of d.frac d.cutoff ≤ 2 ^ 112
reach_fits d is = limit_fits d.frac d.cutoff (omega (arith, ints, is.core, is.order)) is.cutoff

-- the limit of squares and the factor of lengths have sizes for which the filter of distances works
pub reach_scale : (d : Reach) → IsReach d → IsScale (limit_of d.frac d.cutoff) (scale_of d.frac) (unit_of d.frac)
reach_scale d is = record {
  small = reach_fits d is;
  dividend = scale_positive d.frac;
  dividend_fits = scale_small d.frac;
  divisor = unit_positive d.frac;
  divisor_fits = unit_small d.frac;
}

-- the float product of an integer and a float that equals a side
pub near_scaled : (n : ℤ) (side l : ℕ) (y : Float) → unsigned_abs n ≤ 2 ^ 31 → l ≡ side → 0 < l → l ≤ 16000000 → IsNear 0 y l 1
    → IsNearInteger 1 (mul binary64 (of_int binary64 n) y) (n *ℤ pos side)
near_scaled n side l y h e some most near =
    subst (λ (s : ℕ). IsNearInteger 1 (mul binary64 (of_int binary64 n) y) (n *ℤ pos s)) e
    (near_length n l (of_int binary64 n) y (omega (arith, h)) some (omega (arith, most)) (exact_integer n (omega (arith, h))) near)

-- ---- one distance

some_square : (s k u n : ℕ) → 0 < u → 0 < n → u * n * (u * n) ≤ s * k → 0 < s
some_square zero k u n p q h = absurd (omega (arith, h, mul-le 1 1 (u * n) (u * n) (mul-le 1 1 u n p q) (mul-le 1 1 u n p q)))
some_square (suc s) k u n p q h = omega arith

core_taken : (n : ℕ) (core : ℤ) → core ≤ℤ pos n → int_max (pos n) core ≡ pos n
core_taken n core h = omega (arith, ints, clamps)

-- the filter's distance is the distance
pub same_distance : (f : Frac) (s : ℕ) → distance_of s (scale_of f) (unit_of f) ≡ distance_at f s
same_distance f s =
    let wide : s * (scale_of f * scale_of f) ≡ widening_of f * s = ap (λ (k : ℕ). s * k) (scale_squared f) ∙ omega arith in
    ap (λ (t : ℕ). root t / unit_of f) wide

-- a distance that is at least the core is the distance at which the force is evaluated
pub distance_taken : (d : Reach) (core s : ℕ) (v : ℤ) → d.core ≤ℤ pos core → core ≤ distance_at d.frac s → v ≡ pos (distance_at d.frac s) → v ≡ taken_at d s
distance_taken d core s v is most e = e ∙ sym (core_taken (distance_at d.frac s) d.core (omega (arith, ints, is, most)))

-- atoms at a distance are at different positions
pub distance_apart : (f : Frac) (core s : ℕ) → 0 < core → core ≤ distance_at f s → 0 < s
distance_apart f core s some most =
    some_square s (widening_of f) (unit_of f) (distance_at f s) (unit_positive f) (omega (arith, some, most)) (omega (arith, scaled_below (widening_of f * s) (unit_of f) (unit_positive f)))
