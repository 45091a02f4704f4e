-- How far the float c = fl(ratio x), for ratio = fl(g / D) and D = fl(r - 1/2), is from g a / L: naturals only. K is 2^53; G and A
-- are the magnitudes of g and a, L is the integer root of s; r is rn / rd, D is dn / dd, the ratio is qn / qd, x is xn / xd and c is
-- cn / cd.
use Rattle.std.proofs.Common.{◌≡◌, ℕ, suc, ◌+◌, ◌-◌, ◌*◌, ◌^◌, ◌<◌, ◌≤◌, ap, arith, le_trans, mul-le-mul_right, mul-le-mul, le_of_mul-le-mul_right, mul-pos, mul-lt-mul_of_pos_right, lt_of_mul-lt-mul_right, lt_of_not-le, lit≤, le_of_suc-le-suc}
use Rattle.fixed.proofs.RootLemmas.{le_of_squares}
use Rattle.float_filters.specs.Near.{IsFractionNear}

-- the integer root bounds each number whose square is at most s
pub below_root : (A L s : ℕ) → A * A ≤ s → s < (L + 1) * (L + 1) → A ≤ L
below_root A L s h g = le_of_suc-le-suc (lt_of_not-le (λ (k : suc L ≤ A). let m = mul-le-mul k k in absurd (omega arith)))

-- the float r, whose square is within 7 roundings of s, is between L and L + 1 up to 5 parts in 2^53
pub root_high : (rn rd s L : ℕ) → IsFractionNear 7 (rn * rn) (rd * rd) s 1 → s < (L + 1) * (L + 1) → rn * 2 ^ 53 ≤ (L + 1) * (2 ^ 53 + 5) * rd
root_high rn rd s L h g =
    let m = (L + 1) * rd in
    let few : (2 ^ 53 + 1) ^ 7 ≤ (2 ^ 53 + 5) * (2 ^ 53 + 5) * (2 ^ 53) ^ 5 = lit≤ tt in
    let a : rn * rn * 1 * (2 ^ 53) ^ 7 ≤ s * (2 ^ 53 + 1) ^ 7 * (rd * rd) = h.high in
    let b : s * (2 ^ 53 + 1) ^ 7 * (rd * rd) ≤ (L + 1) * (L + 1) * ((2 ^ 53 + 5) * (2 ^ 53 + 5) * (2 ^ 53) ^ 5) * (rd * rd) =
    mul-le-mul_right (rd * rd) (mul-le-mul (le_trans (omega arith) g) few) in
    let c : rn * 2 ^ 53 * (rn * 2 ^ 53) * (2 ^ 53) ^ 5 ≤ (L + 1) * (2 ^ 53 + 5) * rd * ((L + 1) * (2 ^ 53 + 5) * rd) * (2 ^ 53) ^ 5 = omega arith in
    le_of_squares (rn * 2 ^ 53) ((L + 1) * (2 ^ 53 + 5) * rd) (le_of_mul-le-mul_right c (lit≤ tt))

pub root_low : (rn rd s L : ℕ) → IsFractionNear 7 (rn * rn) (rd * rd) s 1 → L * L ≤ s → L * (2 ^ 53 - 5) * rd ≤ rn * 2 ^ 53
root_low rn rd s L h g =
    let few : (2 ^ 53 - 5) * (2 ^ 53 - 5) * (2 ^ 53) ^ 5 ≤ (2 ^ 53 - 1) ^ 7 = lit≤ tt in
    let a : s * (2 ^ 53 - 1) ^ 7 * (rd * rd) ≤ rn * rn * 1 * (2 ^ 53) ^ 7 = h.low in
    let b : L * L * ((2 ^ 53 - 5) * (2 ^ 53 - 5) * (2 ^ 53) ^ 5) * (rd * rd) ≤ s * (2 ^ 53 - 1) ^ 7 * (rd * rd) =
    mul-le-mul_right (rd * rd) (mul-le-mul g few) in
    let c : L * (2 ^ 53 - 5) * rd * (L * (2 ^ 53 - 5) * rd) * (2 ^ 53) ^ 5 ≤ rn * 2 ^ 53 * (rn * 2 ^ 53) * (2 ^ 53) ^ 5 = omega arith in
    le_of_squares (L * (2 ^ 53 - 5) * rd) (rn * 2 ^ 53) (le_of_mul-le-mul_right c (lit≤ tt))

-- g is at most the ratio times L + 1/2 and 9 parts in 2^53
pub slope_high : (rn rd dn dd qn qd G L : ℕ) → 0 < rd → 0 < dd → rd ≤ 2 * rn → rn * 2 ^ 53 ≤ (L + 1) * (2 ^ 53 + 5) * rd
    → dn * (2 * rd) * 2 ^ 53 ≤ (2 * rn - rd) * (2 ^ 53 + 1) * dd → G * dd * (2 ^ 53 - 1) * qd ≤ qn * dn * 2 ^ 53
    → 2 * G * 2 ^ 53 * qd ≤ qn * (2 * L * 2 ^ 53 + 2 ^ 53 + 18 * (L + 1))
slope_high rn rd dn dd qn qd G L RD DD half r d q =
    let w = 2 * rn - rd in
    let we : w + rd ≡ 2 * rn = omega arith in
    let q' : G * dd * (2 ^ 53 - 1) * qd * (2 * rd) ≤ qn * dn * 2 ^ 53 * (2 * rd) = mul-le-mul_right (2 * rd) q in
    let d' : dn * (2 * rd) * 2 ^ 53 * qn ≤ w * (2 ^ 53 + 1) * dd * qn = mul-le-mul_right qn d in
    let a : G * (2 ^ 53 - 1) * qd * (2 * rd) * dd ≤ w * (2 ^ 53 + 1) * qn * dd = omega arith in
    let b : G * (2 ^ 53 - 1) * qd * (2 * rd) ≤ w * (2 ^ 53 + 1) * qn = le_of_mul-le-mul_right a DD in
    let wk : w * qn + rd * qn ≡ 2 * (rn * qn) = omega (arith, ap (λ (k : ℕ). k * qn) we) in
    let rk : rn * 2 ^ 53 * qn ≤ (L + 1) * (2 ^ 53 + 5) * rd * qn = mul-le-mul_right qn r in
    let c : 2 * G * (2 ^ 53 - 1) * 2 ^ 53 * qd * rd ≤ (2 ^ 53 + 1) * (qn * (2 * L * 2 ^ 53 + 2 ^ 53 + 10 * (L + 1))) * rd = omega arith in
    let e : 2 * G * (2 ^ 53 - 1) * 2 ^ 53 * qd ≤ (2 ^ 53 + 1) * (qn * (2 * L * 2 ^ 53 + 2 ^ 53 + 10 * (L + 1))) = le_of_mul-le-mul_right c RD in
    let f : 2 * G * 2 ^ 53 * qd * (2 ^ 53 - 1) ≤ qn * (2 * L * 2 ^ 53 + 2 ^ 53 + 18 * (L + 1)) * (2 ^ 53 - 1) = omega arith in
    le_of_mul-le-mul_right f (lit≤ tt)

-- g is at least the ratio times L - 1/2 and 9 parts in 2^53
pub slope_low : (rn rd dn dd qn qd G L : ℕ) → 0 < rd → 0 < dd → rd ≤ 2 * rn → L * (2 ^ 53 - 5) * rd ≤ rn * 2 ^ 53
    → (2 * rn - rd) * (2 ^ 53 - 1) * dd ≤ dn * (2 * rd) * 2 ^ 53 → qn * dn * 2 ^ 53 ≤ G * dd * (2 ^ 53 + 1) * qd
    → 2 * L * 2 ^ 53 * qn ≤ 2 * G * 2 ^ 53 * qd + qn * (2 ^ 53 + 18 * L)
slope_low rn rd dn dd qn qd G L RD DD half r d q =
    let w = 2 * rn - rd in
    let we : w + rd ≡ 2 * rn = omega arith in
    let q' : qn * dn * 2 ^ 53 * (2 * rd) ≤ G * dd * (2 ^ 53 + 1) * qd * (2 * rd) = mul-le-mul_right (2 * rd) q in
    let d' : w * (2 ^ 53 - 1) * dd * qn ≤ dn * (2 * rd) * 2 ^ 53 * qn = mul-le-mul_right qn d in
    let a : w * (2 ^ 53 - 1) * qn * dd ≤ G * (2 ^ 53 + 1) * qd * (2 * rd) * dd = omega arith in
    let b : w * (2 ^ 53 - 1) * qn ≤ G * (2 ^ 53 + 1) * qd * (2 * rd) = le_of_mul-le-mul_right a DD in
    let wk : w * qn + rd * qn ≡ 2 * (rn * qn) = omega (arith, ap (λ (k : ℕ). k * qn) we) in
    let rk : L * (2 ^ 53 - 5) * rd * qn ≤ rn * 2 ^ 53 * qn = mul-le-mul_right qn r in
    let c : 2 * L * (2 ^ 53 - 5) * (2 ^ 53 - 1) * qn * rd ≤ (2 * G * (2 ^ 53 + 1) * 2 ^ 53 * qd + 2 ^ 53 * (2 ^ 53 - 1) * qn) * rd = omega arith in
    let e : 2 * L * (2 ^ 53 - 5) * (2 ^ 53 - 1) * qn ≤ 2 * G * (2 ^ 53 + 1) * 2 ^ 53 * qd + 2 ^ 53 * (2 ^ 53 - 1) * qn = le_of_mul-le-mul_right c RD in
    let f : 2 * L * 2 ^ 53 * qn * (2 ^ 53 + 1) ≤ (2 * G * 2 ^ 53 * qd + qn * (2 ^ 53 + 18 * L)) * (2 ^ 53 + 1) = omega arith in
    le_of_mul-le-mul_right f (lit≤ tt)

-- c is at least the ratio times a less 2 parts in 2^53, and at most the ratio times a and 3 parts
pub part_low : (qn qd xn xd cn cd A L : ℕ) → 0 < xd → A ≤ L → A * (2 ^ 53 - 1) * xd ≤ xn * 2 ^ 53 → qn * xn * (2 ^ 53 - 1) * cd ≤ cn * (qd * xd) * 2 ^ 53
    → cd * qn * A * 2 ^ 53 ≤ cn * 2 ^ 53 * qd + 2 * L * qn * cd
part_low qn qd xn xd cn cd A L XD le x c =
    let x' : A * (2 ^ 53 - 1) * xd * (qn * cd) ≤ xn * 2 ^ 53 * (qn * cd) = mul-le-mul_right (qn * cd) x in
    let a : qn * A * (2 ^ 53 - 1) * (2 ^ 53 - 1) * cd * xd ≤ cn * qd * 2 ^ 53 * 2 ^ 53 * xd = omega arith in
    let b : qn * A * (2 ^ 53 - 1) * (2 ^ 53 - 1) * cd ≤ cn * qd * 2 ^ 53 * 2 ^ 53 = le_of_mul-le-mul_right a XD in
    let l : A * (qn * cd) ≤ L * (qn * cd) = mul-le-mul_right (qn * cd) le in
    omega arith

pub part_high : (qn qd xn xd cn cd A L : ℕ) → 0 < xd → A ≤ L → xn * 2 ^ 53 ≤ A * (2 ^ 53 + 1) * xd → cn * (qd * xd) * 2 ^ 53 ≤ qn * xn * (2 ^ 53 + 1) * cd
    → cn * 2 ^ 53 * qd ≤ cd * qn * (A * 2 ^ 53 + 3 * L)
part_high qn qd xn xd cn cd A L XD le x c =
    let x' : xn * 2 ^ 53 * (qn * cd) ≤ A * (2 ^ 53 + 1) * xd * (qn * cd) = mul-le-mul_right (qn * cd) x in
    let a : cn * qd * 2 ^ 53 * 2 ^ 53 * xd ≤ qn * A * (2 ^ 53 + 1) * (2 ^ 53 + 1) * cd * xd = omega arith in
    let b : cn * qd * 2 ^ 53 * 2 ^ 53 ≤ qn * A * (2 ^ 53 + 1) * (2 ^ 53 + 1) * cd = le_of_mul-le-mul_right a XD in
    let l : A * (qn * cd) ≤ L * (qn * cd) = mul-le-mul_right (qn * cd) le in
    omega arith

-- g a / L is at most c and the ratio times 1/2 and 11 L + 9 parts in 2^53
pub close_high : (qn qd cn cd G A L : ℕ) → A ≤ L → 2 * G * 2 ^ 53 * qd ≤ qn * (2 * L * 2 ^ 53 + 2 ^ 53 + 18 * (L + 1)) → cd * qn * A * 2 ^ 53 ≤ cn * 2 ^ 53 * qd + 2 * L * qn * cd
    → 2 * 2 ^ 53 * qd * cd * (G * A) ≤ L * (2 * 2 ^ 53 * qd * cn + qn * cd * (2 ^ 53 + 22 * L + 18))
close_high qn qd cn cd G A L le g c =
    let g' = mul-le-mul_right (A * cd) g in
    let c' = mul-le-mul_right (2 * L) c in
    let l : A * (qn * cd) ≤ L * (qn * cd) = mul-le-mul_right (qn * cd) le in
    let k : A * (L * (qn * cd)) ≤ L * (L * (qn * cd)) = mul-le-mul_right (L * (qn * cd)) le in
    omega arith

-- g a / L is at least c less the ratio times 1/2 and 12 L parts in 2^53
pub close_low : (qn qd cn cd G A L : ℕ) → A ≤ L → 2 * L * 2 ^ 53 * qn ≤ 2 * G * 2 ^ 53 * qd + qn * (2 ^ 53 + 18 * L) → cn * 2 ^ 53 * qd ≤ cd * qn * (A * 2 ^ 53 + 3 * L)
    → L * (2 * 2 ^ 53 * qd * cn) ≤ 2 * 2 ^ 53 * qd * cd * (G * A) + L * (qn * cd * (2 ^ 53 + 24 * L))
close_low qn qd cn cd G A L le g c =
    let g' = mul-le-mul_right (A * cd) g in
    let c' = mul-le-mul_right (2 * L) c in
    let l : A * (qn * cd) ≤ L * (qn * cd) = mul-le-mul_right (qn * cd) le in
    let k : A * (L * (qn * cd)) ≤ L * (L * (qn * cd)) = mul-le-mul_right (L * (qn * cd)) le in
    omega arith

-- ---- the margin

-- From the bounds of a certified floor: least is m - 1/2 rounded, for m = mn / md.
pub margin_above : (lp ln ld mn md cp cn cd n m : ℕ) → 0 < ld
    → 2 ^ 53 * (2 * cd * lp + 2 * cd * n * ld + (2 * cn + cd) * ld) ≤ 2 ^ 53 * (2 * cd * m * ld + 2 * cd * ln + 2 * cp * ld) + (2 * cp + 2 * cn + cd) * ld
    → 2 ^ 53 * (mn * 2 * ld + ln * (md * 2)) ≤ 2 ^ 53 * (lp * (md * 2) + md * ld) + (2 * mn + md) * ld
    → 2 ^ 53 * (2 * cd * n * md + 2 * cn * md + 2 * mn * cd) ≤ 2 ^ 53 * (2 * cd * m * md + 2 * cp * md) + (2 * cp + 2 * cn + cd) * md + (2 * mn + md) * cd
margin_above lp ln ld mn md cp cn cd n m LD f e =
    let a = mul-le-mul_right md f in
    let b = mul-le-mul_right cd e in
    let c : 2 ^ 53 * (2 * cd * n * md + 2 * cn * md + 2 * mn * cd) * ld ≤ (2 ^ 53 * (2 * cd * m * md + 2 * cp * md) + (2 * cp + 2 * cn + cd) * md + (2 * mn + md) * cd) * ld = omega arith in
    le_of_mul-le-mul_right c LD

-- room is 1/2 - m, rounded
pub margin_below : (rp rn rd mn md cp cn cd n m : ℕ) → 0 < rd → 0 < cd
    → 2 ^ 53 * (2 * cp * rd + 2 * cd * m * rd + 2 * cd * rn) < 2 ^ 53 * (2 * cd * rp + 2 * cd * n * rd + (2 * cn + cd) * rd) + (2 * cp + 2 * cn + cd) * rd
    → 2 ^ 53 * (rp * (md * 2) + mn * 2 * rd) ≤ 2 ^ 53 * (md * rd + rn * (md * 2)) + (2 * mn + md) * rd → 0 < md
    → 2 ^ 53 * (2 * cd * m * md + 2 * cp * md + 2 * mn * cd) < 2 ^ 53 * (2 * cd * (n + 1) * md + 2 * cn * md) + (2 * cn + 2 * cp + cd) * md + (2 * mn + md) * cd
margin_below rp rn rd mn md cp cn cd n m RD CD f e MD =
    let a = mul-lt-mul_of_pos_right f MD in
    let b = mul-le-mul_right cd e in
    let c : 2 ^ 53 * (2 * cd * m * md + 2 * cp * md + 2 * mn * cd) * rd < (2 ^ 53 * (2 * cd * (n + 1) * md + 2 * cn * md) + (2 * cn + 2 * cp + cd) * md + (2 * mn + md) * cd) * rd = omega arith in
    lt_of_mul-lt-mul_right rd c

-- m is the ratio times a slack of at least 5/8 and 63/4 L parts in 2^53, rounded
pub margin_size : (qn qd sn sd mn md L : ℕ) → 0 < sd → qn * sn * (2 ^ 53 - 1) * md ≤ mn * (qd * sd) * 2 ^ 53 → (5 * 2 ^ 52 + 63 * L) * sd ≤ 2 ^ 55 * sn
    → qn * (2 ^ 53 - 1) * (5 * 2 ^ 52 + 63 * L) * md ≤ 2 ^ 108 * mn * qd
margin_size qn qd sn sd mn md L SD h w =
    let a = mul-le-mul_right (2 ^ 55) h in
    let b = mul-le-mul_right (qn * (2 ^ 53 - 1) * md) w in
    let c : qn * (2 ^ 53 - 1) * (5 * 2 ^ 52 + 63 * L) * md * sd ≤ 2 ^ 108 * mn * qd * sd = omega arith in
    le_of_mul-le-mul_right c SD

-- the ratio times L is at least 1/2, since g isn't 0
pub ratio_some : (qn qd G L : ℕ) → 0 < G → 0 < L → 2 * G * 2 ^ 53 * qd ≤ qn * (2 * L * 2 ^ 53 + 2 ^ 53 + 18 * (L + 1)) → qd ≤ 2 * qn * L
ratio_some qn qd G L G0 L0 h =
    let a : 1 * qd ≤ G * qd = mul-le-mul_right qd G0 in
    let b : 1 * qn ≤ L * qn = mul-le-mul_right qn L0 in
    omega arith

-- The margin covers the bound of the force's error: n, which stands as n - m, plus the ratio times 1/2 and 12 (L + 1) parts in 2^53 is
-- less than c, which stands as cp - cn.
pub wide : (n m cp cn cd mn md qn qd L : ℕ) → 0 < md → 0 < qd → 0 < cd
    → 2 ^ 53 * (2 * cd * n * md + 2 * cn * md + 2 * mn * cd) ≤ 2 ^ 53 * (2 * cd * m * md + 2 * cp * md) + (2 * cp + 2 * cn + cd) * md + (2 * mn + md) * cd
    → qn * (2 ^ 53 - 1) * (5 * 2 ^ 52 + 63 * L) * md ≤ 2 ^ 108 * mn * qd → (cp + cn) * 2 ^ 53 * qd ≤ cd * qn * (L * 2 ^ 53 + 3 * L) → qd ≤ 2 * qn * L
    → 2 ^ 54 * (qd * cd * n) + 2 ^ 54 * (qd * cn) + (2 ^ 53 + 24 * (L + 1)) * (cd * qn) < 2 ^ 54 * (qd * cd * m) + 2 ^ 54 * (qd * cp)
wide n m cp cn cd mn md qn qd L MD QD CD f s c q =
    let P : 0 < qd * cd = mul-pos QD CD in
    let halves : 2 ^ 53 * (cd * n * md) + 2 ^ 53 * (cn * md) + (2 ^ 53 - 1) * (mn * cd) ≤ 2 ^ 53 * (cd * m * md) + 2 ^ 53 * (cp * md) + (cp + cn + cd) * md = omega arith in
    let more = mul-le-mul_right qd halves in
    let size = mul-le-mul_right ((2 ^ 53 - 1) * cd) s in
    let b : (2 ^ 161 * (qd * cd * n) + 2 ^ 161 * (qd * cn) + (2 ^ 53 - 1) * (2 ^ 53 - 1) * (5 * 2 ^ 52 + 63 * L) * (cd * qn)) * md ≤ (2 ^ 161 * (qd * cd * m) + 2 ^ 161 * (qd * cp) + 2 ^ 108 * (qd * (cp + cn + cd))) * md = omega arith in
    let a : 2 ^ 161 * (qd * cd * n) + 2 ^ 161 * (qd * cn) + (2 ^ 53 - 1) * (2 ^ 53 - 1) * (5 * 2 ^ 52 + 63 * L) * (cd * qn) ≤ 2 ^ 161 * (qd * cd * m) + 2 ^ 161 * (qd * cp) + 2 ^ 108 * (qd * (cp + cn + cd)) = le_of_mul-le-mul_right b MD in
    let d = mul-le-mul_right cd q in
    omega arith

-- ---- the floor

-- a number that isn't negative
pub floor_above : (T m C cd qn qd G A L : ℕ) → 0 < cd → 0 < qd → 0 < L
    → 2 ^ 54 * (qd * cd * T) + 2 ^ 54 * (qd * 0) + (2 ^ 53 + 24 * (L + 1)) * (cd * qn) < 2 ^ 54 * (qd * cd * m) + 2 ^ 54 * (qd * C)
    → 2 ^ 54 * (qd * cd * m) + 2 ^ 54 * (qd * C) + (2 ^ 53 + 24 * (L + 1)) * (cd * qn) < 2 ^ 54 * (qd * cd * (T + 1)) + 2 ^ 54 * (qd * 0)
    → 2 * 2 ^ 53 * qd * cd * (G * A) ≤ L * (2 * 2 ^ 53 * qd * C + qn * cd * (2 ^ 53 + 22 * L + 18)) → L * (2 * 2 ^ 53 * qd * C) ≤ 2 * 2 ^ 53 * qd * cd * (G * A) + L * (qn * cd * (2 ^ 53 + 24 * L))
    → (w : ℕ) × (T ≡ w + m) × (w * L ≤ G * A) × (G * A < (w + 1) * L)
floor_above T m C cd qn qd G A L CD QD L0 low high up down =
    let P = mul-pos QD CD in
    let h : m * (qd * cd) < (T + 1) * (qd * cd) = omega arith in
    let k : m < T + 1 = lt_of_mul-lt-mul_right (qd * cd) h in
    let w = T - m in
    let e : T ≡ w + m = omega arith in
    let p : T * (qd * cd) ≡ (w + m) * (qd * cd) = ap (λ (j : ℕ). j * (qd * cd)) e in
    let x : 2 ^ 54 * (qd * cd * w) + (2 ^ 53 + 24 * (L + 1)) * (cd * qn) ≤ 2 ^ 54 * (qd * C) = omega arith in
    let y : 2 ^ 54 * (qd * C) + (2 ^ 53 + 24 * (L + 1)) * (cd * qn) < 2 ^ 54 * (qd * cd * (w + 1)) = omega arith in
    let x' = mul-le-mul_right L x in
    let y' = mul-lt-mul_of_pos_right y L0 in
    let u : w * L * (qd * cd) ≤ G * A * (qd * cd) = omega arith in
    let v : G * A * (qd * cd) < (w + 1) * L * (qd * cd) = omega arith in
    (w, e, le_of_mul-le-mul_right u P, lt_of_mul-lt-mul_right (qd * cd) v)

-- a number that isn't positive
pub floor_below : (T m C cd qn qd G A L : ℕ) → 0 < cd → 0 < qd → 0 < L
    → 2 ^ 54 * (qd * cd * T) + 2 ^ 54 * (qd * C) + (2 ^ 53 + 24 * (L + 1)) * (cd * qn) < 2 ^ 54 * (qd * cd * m) + 2 ^ 54 * (qd * 0)
    → 2 ^ 54 * (qd * cd * m) + 2 ^ 54 * (qd * 0) + (2 ^ 53 + 24 * (L + 1)) * (cd * qn) < 2 ^ 54 * (qd * cd * (T + 1)) + 2 ^ 54 * (qd * C)
    → 2 * 2 ^ 53 * qd * cd * (G * A) ≤ L * (2 * 2 ^ 53 * qd * C + qn * cd * (2 ^ 53 + 22 * L + 18)) → L * (2 * 2 ^ 53 * qd * C) ≤ 2 * 2 ^ 53 * qd * cd * (G * A) + L * (qn * cd * (2 ^ 53 + 24 * L))
    → (w : ℕ) × (m ≡ suc w + T) × (w * L < G * A) × (G * A ≤ suc w * L)
floor_below T m C cd qn qd G A L CD QD L0 low high up down =
    let P = mul-pos QD CD in
    let h : T * (qd * cd) < m * (qd * cd) = omega arith in
    let k : T < m = lt_of_mul-lt-mul_right (qd * cd) h in
    let w = m - suc T in
    let e : m ≡ suc w + T = omega arith in
    let p : m * (qd * cd) ≡ (suc w + T) * (qd * cd) = ap (λ (j : ℕ). j * (qd * cd)) e in
    let x : 2 ^ 54 * (qd * C) + (2 ^ 53 + 24 * (L + 1)) * (cd * qn) ≤ 2 ^ 54 * (qd * cd * suc w) = omega arith in
    let y : 2 ^ 54 * (qd * cd * w) + (2 ^ 53 + 24 * (L + 1)) * (cd * qn) < 2 ^ 54 * (qd * C) = omega arith in
    let x' = mul-le-mul_right L x in
    let y' = mul-lt-mul_of_pos_right y L0 in
    let u : w * L * (qd * cd) < G * A * (qd * cd) = omega arith in
    let v : G * A * (qd * cd) ≤ suc w * L * (qd * cd) = omega arith in
    (w, e, lt_of_mul-lt-mul_right (qd * cd) u, le_of_mul-le-mul_right v P)
