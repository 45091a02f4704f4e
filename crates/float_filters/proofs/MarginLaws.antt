-- The slack of forces, and distances whose certified floor is sure.
use Rattle.std.proofs.Common.{◌≡◌, ℕ, suc, ◌+◌, ◌-◌, ◌*◌, ◌^◌, ◌<◌, ◌≤◌, T, ℤ, pos, ◌-ℤ◌, false, refl, ap, ◌∙◌, subst, arith, inr, mul-le-mul_right, mul-le-mul, le_of_mul-le-mul_right, lt_of_mul-lt-mul_right, mul-pos, lt_of_not-le, le_of_suc-le-suc}
use lib.Ieee.{Float, binary64, add, le, lt, mul, sub, fits, of_bits}
use lib.Ieee.Fits.{sub-fits}
use Rattle.fixed.specs.Roots.{root}
use Rattle.fixed.proofs.RootLemmas.{below_next, le_of_squares, root_is}
use Rattle.float_filters.specs.Near.{denominator, numerator, IsFractionNear, IsNear, IsNearRoot}
use Rattle.float_filters.specs.Floors.{positive_part, negative_part, IsFinite, half, halved, IsDifference, IsInteger, IsCertified}
use Rattle.float_filters.specs.Forces.{IsSlack}
use Rattle.float_filters.specs.DistanceFloors.{IsFloorOfRoot}
use Rattle.std.proofs.lemmas.Int.{ints}
use Rattle.float_filters.proofs.FloorLaws.{half_is}
use Rattle.float_filters.proofs.Differences.{adds, same_rounded, whole_exact}
use Rattle.float_filters.proofs.Fractions.{denominator_pos, IsModerate, near_itself, near_grows}
use Rattle.float_filters.proofs.FloatLaws.{near_product, near_sum}
use Rattle.float_filters.proofs.DistanceLaws.{floor_decided, margin_of_root}
use Rattle.float_filters.proofs.Comparisons.{le_value}
use Rattle.float_filters.proofs.ErrorLaws.{not_negative, signed_finite}
use Rattle.float_filters.proofs.ForceBounds.{root_high, root_low}
use Rattle.float_filters.proofs.ForceLaws.{bounds_are, small_margin, within}

-- ---- the slack

-- the literals 3/4 and 2^-49
three_quarters : IsNear 0 (of_bits binary64 4604930618986332160) 3 4
unfolding of_bits
three_quarters = record { sign = refl; near = record { low = omega arith; high = omega arith } }

small : IsNear 0 (of_bits binary64 4386506037058863104) 1 (2 ^ 49)
unfolding of_bits
small = record { sign = refl; near = record { low = omega arith; high = omega arith } }

slack_low : (fn fd pn pd sn sd L : ℕ) → 0 < fd → 0 < pd → L * (2 ^ 53 - 5) * fd ≤ fn * 2 ^ 53 → fn * 1 * (2 ^ 53 - 1) * pd ≤ pn * (fd * 2 ^ 49) * 2 ^ 53
    → (3 * pd + pn * 4) * (2 ^ 53 - 1) * sd ≤ sn * (4 * pd) * 2 ^ 53 → (5 * 2 ^ 52 + 63 * L) * sd ≤ 2 ^ 55 * sn
slack_low fn fd pn pd sn sd L FD PD f p s =
    let a = mul-le-mul_right ((2 ^ 53 - 1) * pd) f in
    let b : L * (2 ^ 53 - 5) * (2 ^ 53 - 1) * pd * fd ≤ 2 ^ 155 * pn * fd = omega arith in
    let c : L * (2 ^ 53 - 5) * (2 ^ 53 - 1) * pd ≤ 2 ^ 155 * pn = le_of_mul-le-mul_right b FD in
    let d = mul-le-mul_right (4 * ((2 ^ 53 - 1) * sd)) c in
    let e = mul-le-mul_right (2 ^ 155) s in
    let g : (5 * 2 ^ 52 + 63 * L) * sd * pd ≤ 2 ^ 55 * sn * pd = omega arith in
    le_of_mul-le-mul_right g PD

slack_high : (fn fd pn pd sn sd : ℕ) → 0 < fd → 0 < pd → fn ≤ 2 ^ 66 * fd → pn * (fd * 2 ^ 49) * 2 ^ 53 ≤ fn * 1 * (2 ^ 53 + 1) * pd
    → sn * (4 * pd) * 2 ^ 53 ≤ (3 * pd + pn * 4) * (2 ^ 53 + 1) * sd → sn ≤ 2 ^ 100 * sd
slack_high fn fd pn pd sn sd FD PD f p s =
    let a = mul-le-mul_right ((2 ^ 53 + 1) * pd) f in
    let b : pn * fd ≤ 2 ^ 20 * pd * fd = omega arith in
    let c : pn ≤ 2 ^ 20 * pd = le_of_mul-le-mul_right b FD in
    let d = mul-le-mul_right (4 * ((2 ^ 53 + 1) * sd)) c in
    let g : sn * pd ≤ 2 ^ 100 * sd * pd = omega arith in
    le_of_mul-le-mul_right g PD

reach_high : (fn fd L : ℕ) → L ≤ 2 ^ 64 → fn * 2 ^ 53 ≤ (L + 1) * (2 ^ 53 + 5) * fd → fn ≤ 2 ^ 66 * fd
reach_high fn fd L m h =
    let one : L + 1 ≤ 2 ^ 64 + 1 = omega arith in
    let a = mul-le-mul_right ((2 ^ 53 + 5) * fd) one in
    omega arith

few : (s : ℕ) → s < 2 ^ 128 → root s ≤ 2 ^ 64
few s p = le_of_suc-le-suc (lt_of_not-le (λ (k : suc (2 ^ 64) ≤ root s). let h = mul-le-mul k k in let e = (root_is s).square_le in absurd (omega arith)))

-- 3/4 and 2^-49 of a float near the root of a limit is a slack for each square up to the limit
pub slack_is : (limit s : ℕ) (f : Float) → s ≤ limit → 0 < limit → limit < 2 ^ 128 → IsNearRoot 5 f limit 1 → IsSlack (root s) (add binary64 (of_bits binary64 4604930618986332160) (mul binary64 f (of_bits binary64 4386506037058863104)))
slack_is limit s f le some most near =
    let c = of_bits binary64 4386506037058863104 in
    let p = mul binary64 f c in
    let t = add binary64 (of_bits binary64 4604930618986332160) p in
    let FD = denominator_pos f in
    let wider : IsFractionNear 7 (numerator f * numerator f) (denominator f * denominator f) limit 1 = near_grows 5 7 _ _ limit 1 (mul-pos FD FD) (omega arith) near.near in
    let below = root_low (numerator f) (denominator f) limit (root s) wider (smaller (root s) s limit (root_is s).square_le le) in
    let most' = reach_high (numerator f) (denominator f) (root limit) (few limit most) (root_high (numerator f) (denominator f) limit (root limit) wider (below_next limit)) in
    let low = root_low (numerator f) (denominator f) limit (root limit) wider (root_is limit).square_le in
    let L0 : 0 < root limit = (root_is limit).greatest 1 (omega arith) in
    let product = near_product 0 0 false false f c (numerator f) (denominator f) 1 (2 ^ 49) FD (omega arith) (omega arith) (inr (moderate (numerator f) (denominator f) (root limit) L0 low most'))
    (record { sign = near.sign; near = near_itself 0 (numerator f) (denominator f) }) small in
    let PD = denominator_pos p in
    let sum = near_sum 0 false (of_bits binary64 4604930618986332160) p 3 4 (numerator p) (denominator p) (omega arith) PD (omega arith) (inr (sum_moderate (numerator p) (denominator p) (numerator f) (denominator f) FD most' product.near.high))
    three_quarters (record { sign = product.sign; near = near_itself 0 (numerator p) (denominator p) }) in
    record {
      sign = sum.sign;
      low = slack_low (numerator f) (denominator f) (numerator p) (denominator p) (numerator t) (denominator t) (root s) FD PD below product.near.low sum.near.low;
      high = slack_high (numerator f) (denominator f) (numerator p) (denominator p) (numerator t) (denominator t) FD PD most' product.near.high sum.near.high;
    }
  where
    smaller : (L s limit : ℕ) → L * L ≤ s → s ≤ limit → L * L ≤ limit
    smaller L s limit h g = omega arith

    moderate : (fn fd L : ℕ) → 0 < L → L * (2 ^ 53 - 5) * fd ≤ fn * 2 ^ 53 → fn ≤ 2 ^ 66 * fd → IsModerate 200 (fn * 1) (fd * 2 ^ 49)
    moderate fn fd L p h g =
        let one : 1 * ((2 ^ 53 - 5) * fd) ≤ L * ((2 ^ 53 - 5) * fd) = mul-le-mul_right ((2 ^ 53 - 5) * fd) p in
        record { low = omega arith; high = omega arith }

    sum_moderate : (pn pd fn fd : ℕ) → 0 < fd → fn ≤ 2 ^ 66 * fd → pn * (fd * 2 ^ 49) * 2 ^ 53 ≤ fn * 1 * (2 ^ 53 + 1) * pd → IsModerate 200 (3 * pd + pn * 4) (4 * pd)
    sum_moderate pn pd fn fd FD f p =
        let a = mul-le-mul_right ((2 ^ 53 + 1) * pd) f in
        let b : pn * fd ≤ 2 ^ 20 * pd * fd = omega arith in
        let c : pn ≤ 2 ^ 20 * pd = le_of_mul-le-mul_right b FD in
        record { low = omega arith; high = omega arith }

-- ---- distances

-- a margin of at least 2^-49 of a number leaves 2^-50 of it after the roundings
distance_low : (T n pn pd mn md : ℕ) → T ≡ n + 3 * 2 ^ 51 → 0 < n → 0 < md → mn ≤ md → 15 * (pn * md) ≤ 2 ^ 53 * (mn * pd)
    → 2 ^ 53 * (2 * pd * T * md + 2 * 0 * md + 2 * mn * pd) ≤ 2 ^ 53 * (2 * pd * (3 * 2 ^ 51) * md + 2 * pn * md) + (2 * pn + 2 * 0 + pd) * md + (2 * mn + md) * pd
    → (n * (2 ^ 53 * pd) + 8 * pn ≤ 2 ^ 53 * pn) × (pd ≤ 2 * pn)
distance_low T n pn pd mn md e N MD le m h =
    let t : T * (pd * md) ≡ (n + 3 * 2 ^ 51) * (pd * md) = ap (λ (k : ℕ). k * (pd * md)) e in
    let l : mn * pd ≤ md * pd = mul-le-mul_right pd le in
    let a : (2 ^ 54 * (n * pd) + 28 * pn) * md ≤ (2 ^ 54 * pn + 4 * pd) * md = omega arith in
    let b : 2 ^ 54 * (n * pd) + 28 * pn ≤ 2 ^ 54 * pn + 4 * pd = le_of_mul-le-mul_right a MD in
    let one : 1 * pd ≤ n * pd = mul-le-mul_right pd N in
    let c : pd ≤ 2 * pn = omega arith in
    (omega arith, c)

distance_high : (T n pn pd mn md : ℕ) → T ≡ n + 3 * 2 ^ 51 → 0 < md → mn ≤ md → pd ≤ 2 * pn → 15 * (pn * md) ≤ 2 ^ 53 * (mn * pd)
    → 2 ^ 53 * (2 * pd * (3 * 2 ^ 51) * md + 2 * pn * md + 2 * mn * pd) < 2 ^ 53 * (2 * pd * (T + 1) * md + 2 * 0 * md) + (2 * 0 + 2 * pn + pd) * md + (2 * mn + md) * pd
    → 2 ^ 53 * pn + 8 * pn ≤ (n + 1) * (2 ^ 53 * pd)
distance_high T n pn pd mn md e MD le c m h =
    let t : T * (pd * md) ≡ (n + 3 * 2 ^ 51) * (pd * md) = ap (λ (k : ℕ). k * (pd * md)) e in
    let l : mn * pd ≤ md * pd = mul-le-mul_right pd le in
    let a : (2 ^ 54 * pn + 28 * pn) * md < (2 ^ 54 * ((n + 1) * pd) + 4 * pd) * md = omega arith in
    let b : 2 ^ 54 * pn + 28 * pn < 2 ^ 54 * ((n + 1) * pd) + 4 * pd = lt_of_mul-lt-mul_right md a in
    omega arith

margin_few : (mn md limit c : ℕ) → 0 < c → limit ≤ 2 ^ 300 → mn * mn * (c * 2 ^ 98) * (2 ^ 53) ^ 11 ≤ limit * (2 ^ 53 + 1) ^ 11 * (md * md) → mn ≤ 2 ^ 200 * md
margin_few mn md limit c C l h =
    let one : 1 * (mn * mn) ≤ c * (mn * mn) = mul-le-mul_right (mn * mn) C in
    let a = mul-le-mul_right ((2 ^ 53 + 1) ^ 11 * (md * md)) l in
    le_of_squares mn (2 ^ 200 * md) (omega arith)

-- The float p is near the root of s / u^2, and the margin m near 2^-49 of the root of a limit / u^2. If t is a certified
-- floor of p for this margin, and not 0, then it is the floor of the root.
pub distance_lane : (p m t : Float) (s limit u : ℕ) → T (fits binary64 p) → T (fits binary64 m) → 0 < u → s ≤ limit → limit ≤ 2 ^ 300 → IsNearRoot 11 p s (u * u) → IsNearRoot 11 m limit (u * u * 2 ^ 98)
    → T (lt (halved m) (sub binary64 half m))
    → (IsFinite p → positive_part p ≤ 2 ^ 50 * denominator p → negative_part p ≤ 2 ^ 50 * denominator p → IsCertified p (sub binary64 half m) (halved m) t)
    → IsInteger t (positive_part t) × ((n : ℕ) → 0 < n → positive_part t ≡ n + 3 * 2 ^ 51 → (u * n * (u * n) ≤ s) × (s < u * (n + 1) * (u * (n + 1))))
distance_lane p m t s limit u fp fm U le most near margin order cert =
    let pn = numerator p in
    let pd = denominator p in
    let mn = numerator m in
    let md = denominator m in
    let PD = denominator_pos p in
    let MD = denominator_pos m in
    let UU = mul-pos U U in
    let bounds = bounds_are m fm margin.sign (margin_few mn md limit (u * u) UU most margin.near.high) in
    let half_margin = small_margin m margin.sign (sub-fits binary64 half m) bounds order in
    let wide = fifteen pn pd mn md (margin_of_root p m s limit (u * u) UU le near margin) in
    let small = few_part pn pd mn md MD half_margin wide in
    let q = not_negative p near.sign in
    let sure = cert (signed_finite false p near.sign) (same (positive_part p) pn pd q.0 small) (zero_few (negative_part p) pd q.1) in
    let both = within false p m t near.sign fp bounds small sure in (
      sure.integer,
      λ n N e.
          let l = distance_low (positive_part t) n pn pd mn md e N MD (less mn md half_margin) wide (rw (q.0, q.1) at both.above) in
          let h = distance_high (positive_part t) n pn pd mn md e MD (less mn md half_margin) l.1 wide (rw (q.0, q.1) at both.below) in
          floor_decided p s u n (8 * pn) (2 ^ 53 * pd) U (mul-pos (omega arith) PD) near (lower n pn pd l.0) (upper n pn pd h) (ratio pn pd),
    )
  where
    fifteen : (pn pd mn md : ℕ) → pn * md * 2 ^ 40 ≤ mn * pd * (2 ^ 49 * (2 ^ 40 + 1)) → 15 * (pn * md) ≤ 2 ^ 53 * (mn * pd)
    fifteen pn pd mn md h = omega arith

    few_part : (pn pd mn md : ℕ) → 0 < md → 100 * mn ≤ 51 * md → 15 * (pn * md) ≤ 2 ^ 53 * (mn * pd) → pn ≤ 2 ^ 50 * pd
    few_part pn pd mn md MD h w =
        let a = mul-le-mul_right pd h in
        let b : pn * md ≤ 2 ^ 50 * pd * md = omega arith in
        le_of_mul-le-mul_right b MD

    same : (pp pn pd : ℕ) → pp ≡ pn → pn ≤ 2 ^ 50 * pd → pp ≤ 2 ^ 50 * pd
    same pp pn pd e h = omega arith

    zero_few : (pm pd : ℕ) → pm ≡ 0 → pm ≤ 2 ^ 50 * pd
    zero_few pm pd e = omega arith

    less : (mn md : ℕ) → 100 * mn ≤ 51 * md → mn ≤ md
    less mn md h = omega arith

    lower : (n pn pd : ℕ) → n * (2 ^ 53 * pd) + 8 * pn ≤ 2 ^ 53 * pn → (n * (2 ^ 53 * pd) + 8 * pn) * pd ≤ pn * (2 ^ 53 * pd)
    lower n pn pd h = let a = mul-le-mul_right pd h in omega arith

    upper : (n pn pd : ℕ) → 2 ^ 53 * pn + 8 * pn ≤ (n + 1) * (2 ^ 53 * pd) → pn * (2 ^ 53 * pd) + 8 * pn * pd ≤ (n + 1) * (2 ^ 53 * pd) * pd
    upper n pn pd h = let a = mul-le-mul_right pd h in omega arith

    ratio : (pn pd : ℕ) → pn * (2 ^ 53 * pd) ≤ 2 ^ 50 * (8 * pn * pd)
    ratio pn pd = omega arith

-- ---- the least distance

exact_value : (x : Float) (n : ℕ) → IsNear 0 x n 1 → IsDifference x n 0 1
exact_value x n h =
    let e = not_negative x h.sign in
    let p : positive_part x * 1 ≡ numerator x * 1 = ap (λ (k : ℕ). k * 1) e.0 in
    let a : n * 1 * denominator x ≤ numerator x * 1 * 1 = h.near.low in
    let b : numerator x * 1 * 1 ≤ n * 1 * denominator x = h.near.high in
    record { finite = signed_finite false x h.sign; value = omega (arith, e.1) }

middle_exact : IsDifference (of_bits binary64 4843621399236968448) (3 * 2 ^ 51) 0 1
unfolding of_bits
middle_exact = record { finite = tt; value = refl }

pub raised_exact : (x : Float) (n : ℕ) → n < 2 ^ 51 → IsNear 0 x n 1 → IsDifference (add binary64 x (of_bits binary64 4843621399236968448)) (n + 3 * 2 ^ 51) 0 1
raised_exact x n few h =
    whole_exact _ (n + 3 * 2 ^ 51) 0 (omega arith) (omega arith)
    (same_rounded _ (n * 1 + 3 * 2 ^ 51 * 1) (0 * 1 + 0 * 1) 1 (n + 3 * 2 ^ 51) 0 1 (omega arith) (omega arith) (omega arith)
    (adds x (of_bits binary64 4843621399236968448) n 0 1 (3 * 2 ^ 51) 0 1 (omega arith) (omega arith) (exact_value x n h) middle_exact))

-- an integer that is at least another
pub at_least : (y t : Float) (n : ℕ) → IsDifference y n 0 1 → IsInteger t (positive_part t) → T (le y t) → n ≤ positive_part t
at_least y t n v i l =
    let h = le_value y t v.finite i.finite l in
    let Y = denominator_pos y in
    let a : positive_part y * denominator t ≡ positive_part y * 1 = ap (λ (k : ℕ). positive_part y * k) i.whole in
    let b : negative_part t * denominator y ≡ 0 * denominator y = ap (λ (k : ℕ). k * denominator y) i.from_zero in
    let c : negative_part y * denominator t ≡ negative_part y * 1 = ap (λ (k : ℕ). negative_part y * k) i.whole in
    let w = v.value in
    let g : n * denominator y ≤ positive_part t * denominator y = omega arith in
    le_of_mul-le-mul_right g Y

-- the steps of `root_floors` in one lane
pub root_lane : (p m room least t : Float) (s limit u : ℕ) → room ≡ sub binary64 half m → least ≡ sub binary64 m (of_bits binary64 4602678819172646912) → T (fits binary64 p) → T (fits binary64 m) → 0 < u → s ≤ limit → limit ≤ 2 ^ 300
    → IsNearRoot 11 p s (u * u) → IsNearRoot 11 m limit (u * u * 2 ^ 98) → T (lt least room)
    → (IsFinite p → positive_part p ≤ 2 ^ 50 * denominator p → negative_part p ≤ 2 ^ 50 * denominator p → IsCertified p room least t)
    → IsInteger t (positive_part t) × ((n : ℕ) → 0 < n → positive_part t ≡ n + 3 * 2 ^ 51 → (u * n * (u * n) ≤ s) × (s < u * (n + 1) * (u * (n + 1))))
root_lane p m room least t s limit u er el fp fm U le most near margin order cert =
    let w : least ≡ halved m = el ∙ ap (sub binary64 m) half_is in
    distance_lane p m t s limit u fp fm U le most near margin (subst T (λ i. lt (w i) (er i)) order)
    (subst (λ (z : Float). IsFinite p → positive_part p ≤ 2 ^ 50 * denominator p → negative_part p ≤ 2 ^ 50 * denominator p → IsCertified p (sub binary64 half m) z t) w
    (subst (λ (z : Float). IsFinite p → positive_part p ≤ 2 ^ 50 * denominator p → negative_part p ≤ 2 ^ 50 * denominator p → IsCertified p z least t) er cert))

-- a floor that is at least the core
pub distance_found : (t y : Float) (s u core : ℕ) (v : ℤ) → IsInteger t (positive_part t) × ((n : ℕ) → 0 < n → positive_part t ≡ n + 3 * 2 ^ 51 → (u * n * (u * n) ≤ s) × (s < u * (n + 1) * (u * (n + 1))))
    → 0 < core → IsDifference y (core + 3 * 2 ^ 51) 0 1 → T (le y t) → ((n : ℕ) → IsInteger t n → v ≡ pos n -ℤ pos (3 * 2 ^ 51)) → IsFloorOfRoot core s u v
distance_found t y s u core v d C yv l is =
    let h = at_least y t (core + 3 * 2 ^ 51) yv d.0 l in
    let n = positive_part t - 3 * 2 ^ 51 in
    let e : positive_part t ≡ n + 3 * 2 ^ 51 = omega arith in
    let f = d.1 n (omega arith) e in
    let value : v ≡ pos n = is (positive_part t) d.0 ∙ omega (arith, ints, e) in
    record { distance = (n, value, omega arith, f.0, f.1) }
