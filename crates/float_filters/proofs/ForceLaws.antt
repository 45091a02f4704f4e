-- A component of a force whose certified floor is sure is the exact component, rounded down.
use Rattle.std.proofs.Common.{◌≡◌, ℕ, zero, suc, ◌+◌, ◌-◌, ◌*◌, ◌^◌, ◌<◌, ◌≤◌, Bool, true, false, cond, T, ℤ, pos, negsuc, ◌-ℤ◌, ◌*ℤ◌, neg_ℤ, refl, sym, ap, ◌∙◌, subst, arith, inl, inr, mul-le-mul_right, mul-le-mul, le_of_mul-le-mul_right, lt_of_mul-lt-mul_right, mul-pos, lt-ltb, le-ltb, true≢false, lt_of_not-le, le_of_lt, le_of_suc-le-suc}
use Rattle.std.proofs.lemmas.Int.{ints}
use lib.Ieee.{Float, nan, inf, fin, binary64, round, neg, lt, le, eq, mul, sub, fits, unlike, up, down}
use lib.Ieee.Fits.{mul-fits, sub-fits}
use Rattle.fixed.specs.Roots.{root}
use Rattle.fixed.proofs.RootLemmas.{below_next, root_is}
use lib.IntN.{pos-*ℤ-pos, pos-*ℤ-negsuc, negsuc-*ℤ-pos, negsuc-*ℤ-negsuc}
use Rattle.fixed.specs.Rounding.{IsFloor}
use Rattle.float_filters.specs.Near.{denominator, numerator, HasSign, IsNearInteger, IsNearSigned, IsNearRoot, IsFractionNear}
use Rattle.float_filters.specs.Floors.{positive_part, negative_part, IsFinite, IsZero, half, minus_half, halved, IsInteger, IsCertified, IsDifference}
use Rattle.float_filters.specs.Forces.{magnitude, ratio_of, margin_of, room_of, least_of, float_component_of, IsSlack, IsLine, IsSize}
use Rattle.float_filters.proofs.Fractions.{no_factor, denominator_pos, IsModerate, IsZeroOrModerate, near_itself}
use Rattle.float_filters.proofs.FloatLaws.{round_near, near_product, near_quotient}
use Rattle.float_filters.proofs.Differences.{IsSigned, IsRounded, subtracts, same_rounded}
use Rattle.float_filters.proofs.Comparisons.{own, less_value}
use Rattle.float_filters.proofs.FloorLaws.{half_exact, half_value, halved_rounded, halved_zero, zero_parts}
use Rattle.float_filters.proofs.ErrorLaws.{not_negative, not_positive, signed_finite, less_finite, at_least_finite, rounding_error, half_apart, above_floor, below_floor}
use Rattle.float_filters.proofs.ForceBounds.{root_high, root_low, below_root, slope_high, slope_low, part_low, part_high, close_high, close_low, margin_above, margin_below, margin_size, ratio_some, wide, floor_above, floor_below}

-- ---- the divisor r - 1/2

length_low : (rn rd L : ℕ) → 0 < L → 0 < rd → L * (2 ^ 53 - 5) * rd ≤ rn * 2 ^ 53 → (rd < 2 * rn) × (rd ≤ 2 * (2 * rn - rd))
length_low rn rd L L0 RD h =
    let one : 1 * ((2 ^ 53 - 5) * rd) ≤ L * ((2 ^ 53 - 5) * rd) = mul-le-mul_right ((2 ^ 53 - 5) * rd) L0 in
    (omega arith, omega arith)

length_high : (rn rd L : ℕ) → L ≤ 2 ^ 56 → rn * 2 ^ 53 ≤ (L + 1) * (2 ^ 53 + 5) * rd → rn ≤ 2 ^ 57 * rd
length_high rn rd L Lm h =
    let one : L + 1 ≤ 2 ^ 56 + 1 = omega arith in
    let top : (L + 1) * ((2 ^ 53 + 5) * rd) ≤ (2 ^ 56 + 1) * ((2 ^ 53 + 5) * rd) = mul-le-mul_right ((2 ^ 53 + 5) * rd) one in
    omega arith

halved_near : (r : Float) → HasSign false r → denominator r < 2 * numerator r → denominator r ≤ 2 * (2 * numerator r - denominator r) → numerator r ≤ 2 ^ 57 * denominator r
    → IsNearSigned 1 false (halved r) (2 * numerator r - denominator r) (2 * denominator r)
halved_near r h some low high = by q.0 q.1 q.2 q.3
  where
    q : IsRounded (halved r) (positive_part r * 2) (negative_part r * 2 + denominator r) (denominator r * 2)
    q = halved_rounded r (signed_finite false r h)

    by : (s : Bool) (n : ℕ) → halved r ≡ round binary64 s n (denominator r * 2) → IsSigned s n (positive_part r * 2) (negative_part r * 2 + denominator r)
        → IsNearSigned 1 false (halved r) (2 * numerator r - denominator r) (2 * denominator r)
    by true n is rel = let e = not_negative r h in absurd (omega (arith, e.0, e.1))
    by false n is rel =
        let e = not_negative r h in
        let m : n ≡ 2 * numerator r - denominator r = omega (arith, e.0, e.1) in
        let d : denominator r * 2 ≡ 2 * denominator r = omega arith in
        let D = denominator_pos r in
        let j : halved r ≡ round binary64 false (2 * numerator r - denominator r) (2 * denominator r) = is ∙ (λ i. round binary64 false (m i) (d i)) in
        subst (λ (y : Float). IsNearSigned 1 false y (2 * numerator r - denominator r) (2 * denominator r)) (sym j)
        (round_near false (2 * numerator r - denominator r) (2 * denominator r) (omega arith) (inr (record { low = omega arith; high = omega arith })))

positive : (dn dd : ℕ) → 0 < dd → dd ≤ 8 * dn → 0 < dn
positive dn dd p h = omega arith

divisor_low : (rn rd dn dd : ℕ) → 0 < rd → rd ≤ 2 * (2 * rn - rd) → (2 * rn - rd) * (2 ^ 53 - 1) * dd ≤ dn * (2 * rd) * 2 ^ 53 → dd ≤ 8 * dn
divisor_low rn rd dn dd RD h d =
    let w = 2 * rn - rd in
    let a : rd * ((2 ^ 53 - 1) * dd) ≤ 2 * w * ((2 ^ 53 - 1) * dd) = mul-le-mul_right ((2 ^ 53 - 1) * dd) h in
    let b : dd * rd ≤ 8 * dn * rd = omega arith in
    le_of_mul-le-mul_right b RD

divisor_high : (rn rd dn dd : ℕ) → 0 < rd → rn ≤ 2 ^ 57 * rd → dn * (2 * rd) * 2 ^ 53 ≤ (2 * rn - rd) * (2 ^ 53 + 1) * dd → dn ≤ 2 ^ 60 * dd
divisor_high rn rd dn dd RD h d =
    let one : 2 * rn - rd ≤ 2 ^ 58 * rd = omega arith in
    let a : (2 * rn - rd) * ((2 ^ 53 + 1) * dd) ≤ 2 ^ 58 * rd * ((2 ^ 53 + 1) * dd) = mul-le-mul_right ((2 ^ 53 + 1) * dd) one in
    let b : dn * rd ≤ 2 ^ 60 * dd * rd = omega arith in
    le_of_mul-le-mul_right b RD

-- ---- the ratio

-- what the other steps need of the ratio of g and a length L
pub record IsRatio (G L : ℕ) (s : Bool) (q : Float) : Type 0 where
  pub sign : HasSign s q
  pub some : denominator q ≤ 2 * numerator q * L
  pub most : numerator q ≤ 2 ^ 56 * denominator q
  pub high : 2 * G * 2 ^ 53 * denominator q ≤ numerator q * (2 * L * 2 ^ 53 + 2 ^ 53 + 18 * (L + 1))
  pub low : 2 * L * 2 ^ 53 * numerator q ≤ 2 * G * 2 ^ 53 * denominator q + numerator q * (2 ^ 53 + 18 * L)

ratio_high : (G dn dd qn qd : ℕ) → 0 < dd → G ≤ 2 ^ 52 → dd ≤ 8 * dn → qn * dn * 2 ^ 53 ≤ G * dd * (2 ^ 53 + 1) * qd → qn ≤ 2 ^ 56 * qd
ratio_high G dn dd qn qd DD g d h =
    let a : G * (dd * ((2 ^ 53 + 1) * qd)) ≤ 2 ^ 52 * (dd * ((2 ^ 53 + 1) * qd)) = mul-le-mul_right (dd * ((2 ^ 53 + 1) * qd)) g in
    let b : dd * (2 ^ 53 * qn) ≤ 8 * dn * (2 ^ 53 * qn) = mul-le-mul_right (2 ^ 53 * qn) d in
    let c : qn * dd ≤ 2 ^ 56 * qd * dd = omega arith in
    le_of_mul-le-mul_right c DD

pub ratio_is : (s L G : ℕ) (sg : Bool) (g r : Float) → 0 < L → L ≤ 2 ^ 56 → L * L ≤ s → s < (L + 1) * (L + 1) → 0 < G → G ≤ 2 ^ 52 → IsNearRoot 7 r s 1 → IsNearSigned 0 sg g G 1
    → IsRatio G L (unlike sg false) (ratio_of g r)
ratio_is s L G sg g r L0 Lm below above G0 Gm length slope =
    let rn = numerator r in
    let rd = denominator r in
    let d = halved r in
    let dn = numerator d in
    let dd = denominator d in
    let RD = denominator_pos r in
    let DD = denominator_pos d in
    let rh = root_high rn rd s L length.near above in
    let rl = root_low rn rd s L length.near below in
    let some = length_low rn rd L L0 RD rl in
    let most = length_high rn rd L Lm rh in
    let near = halved_near r length.sign some.0 some.1 most in
    let dlow : (2 * rn - rd) * (2 ^ 53 - 1) * dd ≤ dn * (2 * rd) * 2 ^ 53 = near.near.low in
    let dhigh : dn * (2 * rd) * 2 ^ 53 ≤ (2 * rn - rd) * (2 ^ 53 + 1) * dd = near.near.high in
    let d8 = divisor_low rn rd dn dd RD some.1 dlow in
    let d60 = divisor_high rn rd dn dd RD most dhigh in
    let D0 : 0 < dn = positive dn dd DD d8 in
    let q = near_quotient 0 0 sg false g d G 1 dn dd (omega arith) D0 (omega arith) (inr (moderate G dn dd G0 Gm d8 d60)) slope (record { sign = near.sign; near = near_itself 0 dn dd }) in
    let qn = numerator (ratio_of g r) in
    let qd = denominator (ratio_of g r) in
    let qlow : G * dd * (2 ^ 53 - 1) * qd ≤ qn * dn * 2 ^ 53 = lowered G dn dd qn qd q.near.low in
    let qhigh : qn * dn * 2 ^ 53 ≤ G * dd * (2 ^ 53 + 1) * qd = raised G dn dd qn qd q.near.high in
    let high = slope_high rn rd dn dd qn qd G L RD DD (half_of rn rd some.0) rh dhigh qlow in
    record {
      sign = q.sign;
      some = ratio_some qn qd G L G0 L0 high;
      most = ratio_high G dn dd qn qd DD Gm d8 qhigh;
      high = high;
      low = slope_low rn rd dn dd qn qd G L RD DD (half_of rn rd some.0) rl dlow qhigh;
    }
  where
    half_of : (rn rd : ℕ) → rd < 2 * rn → rd ≤ 2 * rn
    half_of rn rd h = omega arith

    moderate : (G dn dd : ℕ) → 0 < G → G ≤ 2 ^ 52 → dd ≤ 8 * dn → dn ≤ 2 ^ 60 * dd → IsModerate 200 (G * dd) (1 * dn)
    moderate G dn dd p m h k =
        let a : 1 * dd ≤ G * dd = mul-le-mul_right dd p in
        let b : G * dd ≤ 2 ^ 52 * dd = mul-le-mul_right dd m in
        record { low = omega arith; high = omega arith }

    lowered : (G dn dd qn qd : ℕ) → G * dd * (2 ^ 53 - 1) * qd ≤ qn * (1 * dn) * 2 ^ 53 → G * dd * (2 ^ 53 - 1) * qd ≤ qn * dn * 2 ^ 53
    lowered G dn dd qn qd h = omega arith

    raised : (G dn dd qn qd : ℕ) → qn * (1 * dn) * 2 ^ 53 ≤ G * dd * (2 ^ 53 + 1) * qd → qn * dn * 2 ^ 53 ≤ G * dd * (2 ^ 53 + 1) * qd
    raised G dn dd qn qd h = omega arith

-- ---- the component

-- what the other steps need of the component
pub record IsPart (A L : ℕ) (s : Bool) (q c : Float) : Type 0 where
  pub sign : HasSign s c
  pub low : denominator c * numerator q * A * 2 ^ 53 ≤ numerator c * 2 ^ 53 * denominator q + 2 * L * numerator q * denominator c
  pub high : numerator c * 2 ^ 53 * denominator q ≤ denominator c * numerator q * (A * 2 ^ 53 + 3 * L)

pub part_is : (L A G : ℕ) (s sx : Bool) (q x : Float) → 0 < L → L ≤ 2 ^ 56 → A ≤ L → IsRatio G L s q → IsNearSigned 1 sx x A 1 → IsPart A L (unlike s sx) q (mul binary64 q x)
part_is L A G s sx q x L0 Lm le ratio part =
    let qn = numerator q in
    let qd = denominator q in
    let xn = numerator x in
    let xd = denominator x in
    let XD = denominator_pos x in
    let xlow : A * (2 ^ 53 - 1) * xd ≤ xn * 2 ^ 53 = lowered A xn xd part.near.low in
    let xhigh : xn * 2 ^ 53 ≤ A * (2 ^ 53 + 1) * xd = raised A xn xd part.near.high in
    let c = near_product 0 0 s sx q x qn qd xn xd (denominator_pos q) XD (omega arith) (moderate qn qd xn xd L A XD Lm le ratio.some ratio.most xlow xhigh)
    (record { sign = ratio.sign; near = near_itself 0 qn qd }) (record { sign = part.sign; near = near_itself 0 xn xd }) in
    let cn = numerator (mul binary64 q x) in
    let cd = denominator (mul binary64 q x) in
    record {
      sign = c.sign;
      low = part_low qn qd xn xd cn cd A L XD le xlow c.near.low;
      high = part_high qn qd xn xd cn cd A L XD le xhigh c.near.high;
    }
  where
    lowered : (A xn xd : ℕ) → A * (2 ^ 53 - 1) * xd ≤ xn * 1 * 2 ^ 53 → A * (2 ^ 53 - 1) * xd ≤ xn * 2 ^ 53
    lowered A xn xd h = omega arith

    raised : (A xn xd : ℕ) → xn * 1 * 2 ^ 53 ≤ A * (2 ^ 53 + 1) * xd → xn * 2 ^ 53 ≤ A * (2 ^ 53 + 1) * xd
    raised A xn xd h = omega arith

    some_part : (qn qd xn xd L A : ℕ) → 0 < A → L ≤ 2 ^ 56 → qd ≤ 2 * qn * L → A * (2 ^ 53 - 1) * xd ≤ xn * 2 ^ 53 → qd * xd ≤ qn * xn * 2 ^ 200
    some_part qn qd xn xd L A p m q x =
        let one : 1 * ((2 ^ 53 - 1) * xd) ≤ A * ((2 ^ 53 - 1) * xd) = mul-le-mul_right ((2 ^ 53 - 1) * xd) p in
        let a : xd ≤ 2 * xn = omega arith in
        let b : L * qn ≤ 2 ^ 56 * qn = mul-le-mul_right qn m in
        let c : qd ≤ 2 ^ 57 * qn = omega arith in
        let d : qd * xd ≤ 2 ^ 57 * qn * (2 * xn) = mul-le-mul c a in
        omega arith

    few_part : (qn qd xn xd L A : ℕ) → L ≤ 2 ^ 56 → A ≤ L → qn ≤ 2 ^ 56 * qd → xn * 2 ^ 53 ≤ A * (2 ^ 53 + 1) * xd → qn * xn ≤ qd * xd * 2 ^ 200
    few_part qn qd xn xd L A m le q x =
        let small : A ≤ 2 ^ 56 = omega arith in
        let one : A * ((2 ^ 53 + 1) * xd) ≤ 2 ^ 56 * ((2 ^ 53 + 1) * xd) = mul-le-mul_right ((2 ^ 53 + 1) * xd) small in
        let a : xn ≤ 2 ^ 57 * xd = omega arith in
        let d : qn * xn ≤ 2 ^ 56 * qd * (2 ^ 57 * xd) = mul-le-mul q a in
        omega arith

    moderate : (qn qd xn xd L A : ℕ) → 0 < xd → L ≤ 2 ^ 56 → A ≤ L → qd ≤ 2 * qn * L → qn ≤ 2 ^ 56 * qd → A * (2 ^ 53 - 1) * xd ≤ xn * 2 ^ 53 → xn * 2 ^ 53 ≤ A * (2 ^ 53 + 1) * xd
        → IsZeroOrModerate 200 (qn * xn) (qd * xd)
    moderate qn qd xn xd L zero p m le some most low high = let e : xn ≡ 0 = omega arith in inl (ap (λ (k : ℕ). qn * k) e ∙ omega arith)
    moderate qn qd xn xd L (suc A) p m le some most low high =
        inr (record { low = some_part qn qd xn xd L (suc A) (omega arith) m some low; high = few_part qn qd xn xd L (suc A) m le most high })

-- ---- the margin

magnitude_is : (s : Bool) (q : Float) → HasSign s q → 0 < numerator q → HasSign false (magnitude q) × (numerator (magnitude q) ≡ numerator q) × (denominator (magnitude q) ≡ denominator q)
unfolding lt neg
magnitude_is s nan h p = absurd h
magnitude_is s (inf t) h p = absurd h
magnitude_is s (fin false m e) h p =
    let q = fin false m e in
    let k : lt q (fin false 0 (pos 0)) ≡ false = le-ltb (m * up e * 1) (0 * 1 * down e) (omega arith) in
    subst (λ (b : Bool). HasSign false (cond b (neg q) q) × (numerator (cond b (neg q) q) ≡ numerator q) × (denominator (cond b (neg q) q) ≡ denominator q)) (sym k) (refl, refl, refl)
magnitude_is s (fin true m e) h p =
    let q = fin true m e in
    let k : lt q (fin false 0 (pos 0)) ≡ true = lt-ltb 0 (m * up e * 1 + 0 * 1 * down e) (omega arith) in
    subst (λ (b : Bool). HasSign false (cond b (neg q) q) × (numerator (cond b (neg q) q) ≡ numerator q) × (denominator (cond b (neg q) q) ≡ denominator q)) (sym k) (refl, refl, refl)

-- what the other steps need of the margin
pub record IsMargin (L : ℕ) (q m : Float) : Type 0 where
  pub sign : HasSign false m
  pub size : numerator q * (2 ^ 53 - 1) * (5 * 2 ^ 52 + 63 * L) * denominator m ≤ 2 ^ 108 * numerator m * denominator q
  pub most : numerator m ≤ 2 ^ 200 * denominator m

pub margin_is : (L G : ℕ) (s : Bool) (q slack : Float) → L ≤ 2 ^ 56 → IsRatio G L s q → IsSlack L slack → IsMargin L q (mul binary64 (magnitude q) slack)
margin_is L G s q slack Lm ratio wide =
    let qn = numerator q in
    let qd = denominator q in
    let sn = numerator slack in
    let sd = denominator slack in
    let QD = denominator_pos q in
    let SD = denominator_pos slack in
    let Q0 : 0 < qn = some qn qd L QD ratio.some in
    let y = magnitude_is s q ratio.sign Q0 in
    let near : IsFractionNear 0 (numerator (magnitude q)) (denominator (magnitude q)) qn qd =
    subst (λ (k : ℕ). IsFractionNear 0 (numerator (magnitude q)) (denominator (magnitude q)) k qd) y.1
    (subst (λ (k : ℕ). IsFractionNear 0 (numerator (magnitude q)) (denominator (magnitude q)) (numerator (magnitude q)) k) y.2 (near_itself 0 (numerator (magnitude q)) (denominator (magnitude q)))) in
    let m = near_product 0 0 false false (magnitude q) slack qn qd sn sd QD SD (omega arith) (inr (moderate qn qd sn sd L Lm ratio.some ratio.most wide.low wide.high))
    (record { sign = y.0; near = near }) (record { sign = wide.sign; near = near_itself 0 sn sd }) in
    let mn = numerator (mul binary64 (magnitude q) slack) in
    let md = denominator (mul binary64 (magnitude q) slack) in
    record {
      sign = m.sign;
      size = margin_size qn qd sn sd mn md L SD m.near.low wide.low;
      most = few qn qd sn sd mn md QD SD ratio.most wide.high m.near.high;
    }
  where
    some : (qn qd L : ℕ) → 0 < qd → qd ≤ 2 * qn * L → 0 < qn
    some zero qd L p h = absurd (omega arith)
    some (suc qn) qd L p h = omega arith

    moderate : (qn qd sn sd L : ℕ) → L ≤ 2 ^ 56 → qd ≤ 2 * qn * L → qn ≤ 2 ^ 56 * qd → (5 * 2 ^ 52 + 63 * L) * sd ≤ 2 ^ 55 * sn → sn ≤ 2 ^ 100 * sd
        → IsModerate 200 (qn * sn) (qd * sd)
    moderate qn qd sn sd L m q p w h =
        let b : L * qn ≤ 2 ^ 56 * qn = mul-le-mul_right qn m in
        let c : qd ≤ 2 ^ 57 * qn = omega arith in
        let a : sd ≤ 2 * sn = omega arith in
        let d : qd * sd ≤ 2 ^ 57 * qn * (2 * sn) = mul-le-mul c a in
        let e : qn * sn ≤ 2 ^ 56 * qd * (2 ^ 100 * sd) = mul-le-mul p h in
        record { low = omega arith; high = omega arith }

    few : (qn qd sn sd mn md : ℕ) → 0 < qd → 0 < sd → qn ≤ 2 ^ 56 * qd → sn ≤ 2 ^ 100 * sd → mn * (qd * sd) * 2 ^ 53 ≤ qn * sn * (2 ^ 53 + 1) * md → mn ≤ 2 ^ 200 * md
    few qn qd sn sd mn md QD SD p h m =
        let e : qn * sn ≤ 2 ^ 56 * qd * (2 ^ 100 * sd) = mul-le-mul p h in
        let f : qn * sn * ((2 ^ 53 + 1) * md) ≤ 2 ^ 56 * qd * (2 ^ 100 * sd) * ((2 ^ 53 + 1) * md) = mul-le-mul_right ((2 ^ 53 + 1) * md) e in
        let g : mn * (qd * sd) ≤ 2 ^ 200 * md * (qd * sd) = omega arith in
        le_of_mul-le-mul_right g (mul-pos QD SD)

-- ---- the bounds of the certified floor

pub room_rounded : (y : Float) → IsFinite y → IsRounded (sub binary64 half y) (negative_part y * 2 + denominator y) (positive_part y * 2) (denominator y * 2)
room_rounded y f =
    let d = denominator_pos y in
    same_rounded _ (1 * denominator y + negative_part y * 2) (0 * denominator y + positive_part y * 2) (2 * denominator y) _ _ _ (omega arith) (omega arith) (omega arith)
    (subtracts half y 1 0 2 (positive_part y) (negative_part y) (denominator y) (omega arith) d half_value (own y f))

-- the errors of the bounds, for the margin mn / md
pub record AreBounds (m room least : Float) : Type 0 where
  pub room_finite : IsFinite room
  pub least_finite : IsFinite least
  pub room_high : 2 ^ 53 * (positive_part room * (denominator m * 2) + numerator m * 2 * denominator room) ≤ 2 ^ 53 * (denominator m * denominator room + negative_part room * (denominator m * 2)) + (2 * numerator m + denominator m) * denominator room
  pub least_low : 2 ^ 53 * (numerator m * 2 * denominator least + negative_part least * (denominator m * 2)) ≤ 2 ^ 53 * (positive_part least * (denominator m * 2) + denominator m * denominator least) + (2 * numerator m + denominator m) * denominator least

pub bounds_are : (m : Float) → T (fits binary64 m) → HasSign false m → numerator m ≤ 2 ^ 200 * denominator m → AreBounds m (sub binary64 half m) (halved m)
bounds_are m p sign most =
    let e = not_negative m sign in
    let f = signed_finite false m sign in
    let D = denominator_pos m in
    let apart = half_apart m p (big (positive_part m) (numerator m) (denominator m) e.0 most) (none (negative_part m) (denominator m) e.1) in
    let room = room_rounded m f in
    let least = halved_rounded m f in
    let B = 2 * numerator m + denominator m in
    let over : positive_part m * 2 ≤ negative_part m * 2 + denominator m + B = omega (arith, e.0) in
    let under : negative_part m * 2 + denominator m ≤ positive_part m * 2 + B = omega (arith, e.1) in
    let a = rounding_error (sub binary64 half m) _ _ (denominator m * 2) B (omega arith) room under over (λ n h. apart n (elim h [ inl x ↦ inr x | inr x ↦ inl x ])) in
    let b = rounding_error (halved m) _ _ (denominator m * 2) B (omega arith) least over under apart in
    record {
      room_finite = a.finite;
      least_finite = b.finite;
      room_high = upper (positive_part m) (negative_part m) (numerator m) (denominator m) _ _ _ B e.0 e.1 a.high;
      least_low = lower (positive_part m) (negative_part m) (numerator m) (denominator m) _ _ _ B e.0 e.1 b.low;
    }
  where
    big : (mp mn md : ℕ) → mp ≡ mn → mn ≤ 2 ^ 200 * md → mp ≤ 2 ^ 300 * md
    big mp mn md e h = omega arith

    none : (m md : ℕ) → m ≡ 0 → m ≤ 2 ^ 300 * md
    none m md e = omega arith

    upper : (mp mm mn md rp rn rd B : ℕ) → mp ≡ mn → mm ≡ 0 → 2 ^ 53 * (rp * (md * 2) + mp * 2 * rd) ≤ 2 ^ 53 * ((mm * 2 + md) * rd + rn * (md * 2)) + B * rd
        → 2 ^ 53 * (rp * (md * 2) + mn * 2 * rd) ≤ 2 ^ 53 * (md * rd + rn * (md * 2)) + B * rd
    upper mp mm mn md rp rn rd B e z h =
        let a : mp * rd ≡ mn * rd = ap (λ (k : ℕ). k * rd) e in
        let b : mm * rd ≡ 0 * rd = ap (λ (k : ℕ). k * rd) z in
        omega arith

    lower : (mp mm mn md lp ln ld B : ℕ) → mp ≡ mn → mm ≡ 0 → 2 ^ 53 * (mp * 2 * ld + ln * (md * 2)) ≤ 2 ^ 53 * (lp * (md * 2) + (mm * 2 + md) * ld) + B * ld
        → 2 ^ 53 * (mn * 2 * ld + ln * (md * 2)) ≤ 2 ^ 53 * (lp * (md * 2) + md * ld) + B * ld
    lower mp mm mn md lp ln ld B e z h =
        let a : mp * ld ≡ mn * ld = ap (λ (k : ℕ). k * ld) e in
        let b : mm * ld ≡ 0 * ld = ap (λ (k : ℕ). k * ld) z in
        omega arith

-- if the bounds are in order, the margin is about 1/2 at most
margin_small : (mn md rp rn rd lp ln ld : ℕ) → 0 < rd → 0 < ld → 0 < md
    → mn * 2 * rd + rn * (md * 2) < rp * (md * 2) + md * rd
    → 2 ^ 53 * (rp * (md * 2) + mn * 2 * rd) ≤ 2 ^ 53 * (md * rd + rn * (md * 2)) + (2 * mn + md) * rd → 100 * mn ≤ 51 * md
margin_small mn md rp rn rd lp ln ld RD LD MD x y =
    let a : 100 * mn * rd ≤ 51 * md * rd = omega arith in
    le_of_mul-le-mul_right a RD

pub small_margin : (m : Float) → HasSign false m → T (fits binary64 (sub binary64 half m)) → AreBounds m (sub binary64 half m) (halved m) → T (lt (halved m) (sub binary64 half m)) → 100 * numerator m ≤ 51 * denominator m
small_margin m sign p bounds l =
    let e = not_negative m sign in
    let f = signed_finite false m sign in
    let D = denominator_pos m in
    let room = sub binary64 half m in
    let x = less_finite _ _ _ room bounds.room_finite (less_value _ _ (denominator m * 2) (halved m) room (omega arith) (halved_rounded m f) p l) in
    margin_small (numerator m) (denominator m) (positive_part room) (negative_part room) (denominator room) 0 0 1 (denominator_pos room) (omega arith) D
    (plain (positive_part m) (negative_part m) (numerator m) (denominator m) _ _ _ e.0 e.1 x) bounds.room_high
  where
    plain : (mp mm mn md rp rn rd : ℕ) → mp ≡ mn → mm ≡ 0 → mp * 2 * rd + rn * (md * 2) < rp * (md * 2) + (mm * 2 + md) * rd → mn * 2 * rd + rn * (md * 2) < rp * (md * 2) + md * rd
    plain mp mm mn md rp rn rd e z h =
        let a : mp * rd ≡ mn * rd = ap (λ (k : ℕ). k * rd) e in
        let b : mm * rd ≡ 0 * rd = ap (λ (k : ℕ). k * rd) z in
        omega arith

-- so the component is at most 2^50
small_part : (mn md qn qd cn cd A L : ℕ) → 0 < md → 0 < qd → 100 * mn ≤ 51 * md → qn * (2 ^ 53 - 1) * (5 * 2 ^ 52 + 63 * L) * md ≤ 2 ^ 108 * mn * qd → A ≤ L
    → cn * 2 ^ 53 * qd ≤ cd * qn * (A * 2 ^ 53 + 3 * L) → cn ≤ 2 ^ 50 * cd
small_part mn md qn qd cn cd A L MD QD m s le c =
    let a : mn * (2 ^ 108 * qd) * 100 ≤ md * (2 ^ 108 * qd) * 51 = omega (arith, mul-le-mul_right (2 ^ 108 * qd) m) in
    let b : 100 * (qn * (2 ^ 53 - 1) * (5 * 2 ^ 52 + 63 * L)) * md ≤ 51 * 2 ^ 108 * qd * md = omega arith in
    let d : 100 * (qn * (2 ^ 53 - 1) * (5 * 2 ^ 52 + 63 * L)) ≤ 51 * 2 ^ 108 * qd = le_of_mul-le-mul_right b MD in
    let d' = mul-le-mul_right cd d in
    let l : A * (cd * qn) ≤ L * (cd * qn) = mul-le-mul_right (cd * qn) le in
    let f : cn * qd ≤ 2 ^ 50 * cd * qd = omega arith in
    le_of_mul-le-mul_right f QD

-- ---- the exact component

-- the integer T - 3 * 2^51 is the floor of G A / L, or of -G A / L if s
pub record IsDecidedAbove (T G A L : ℕ) : Type 0 where
  pub floor : (w : ℕ) × (T ≡ w + 3 * 2 ^ 51) × (w * L ≤ G * A) × (G * A < (w + 1) * L)

pub record IsDecidedBelow (T G A L : ℕ) : Type 0 where
  pub floor : (w : ℕ) × (3 * 2 ^ 51 ≡ suc w + T) × (w * L < G * A) × (G * A ≤ suc w * L)

abbrev pub IsDecided : Bool → ℕ → ℕ → ℕ → ℕ → Type 0
IsDecided false T G A L = IsDecidedAbove T G A L
IsDecided true T G A L = IsDecidedBelow T G A L

-- what a certified floor says of c and the margin: n and c, which stand as T - 3 * 2^51 and cp - cm
pub record IsWithin (T cp cm cd mn md : ℕ) : Type 0 where
  pub above : 2 ^ 53 * (2 * cd * T * md + 2 * cm * md + 2 * mn * cd) ≤ 2 ^ 53 * (2 * cd * (3 * 2 ^ 51) * md + 2 * cp * md) + (2 * cp + 2 * cm + cd) * md + (2 * mn + md) * cd
  pub below : 2 ^ 53 * (2 * cd * (3 * 2 ^ 51) * md + 2 * cp * md + 2 * mn * cd) < 2 ^ 53 * (2 * cd * (T + 1) * md + 2 * cm * md) + (2 * cm + 2 * cp + cd) * md + (2 * mn + md) * cd

sides : (s : Bool) (c : Float) → HasSign s c → positive_part c + negative_part c ≡ numerator c
sides false c h = let e = not_negative c h in omega (arith, e.0, e.1)
sides true c h = let e = not_positive c h in omega (arith, e.0, e.1)

pub within : (s : Bool) (c m t : Float) → HasSign s c → T (fits binary64 c) → AreBounds m (sub binary64 half m) (halved m) → numerator c ≤ 2 ^ 50 * denominator c → IsCertified c (sub binary64 half m) (halved m) t
    → IsWithin (positive_part t) (positive_part c) (negative_part c) (denominator c) (numerator m) (denominator m)
within s c m t sign fc bounds small cert =
    let cp = positive_part c in
    let cm = negative_part c in
    let cd = denominator c in
    let f = signed_finite s c sign in
    let B = 2 * cp + 2 * cm + cd in
    let CD = denominator_pos c in
    let MD = denominator_pos m in
    let u = halved c in
    let sums = sides s c sign in
    let eu = rounding_error u (cp * 2) (cm * 2 + cd) (cd * 2) B (omega arith) (halved_rounded c f) (omega arith) (omega arith)
    (half_apart c fc (omega (arith, sums)) (omega (arith, sums))) in
    let least = at_least_finite _ _ _ (halved m) bounds.least_finite cert.at_least in
    let less = less_finite _ _ _ (sub binary64 half m) bounds.room_finite cert.less in
    let above = above_floor (positive_part u) (negative_part u) (denominator u) _ _ _ cp cm cd (positive_part t) (3 * 2 ^ 51) (denominator_pos u) least eu.high in
    let below = below_floor (positive_part u) (negative_part u) (denominator u) _ _ _ cp cm cd (positive_part t) (3 * 2 ^ 51) (denominator_pos u) less eu.low CD (denominator_pos (sub binary64 half m)) in
    record {
      above = margin_above _ _ _ (numerator m) (denominator m) cp cm cd (positive_part t) (3 * 2 ^ 51) (denominator_pos (halved m)) above bounds.least_low;
      below = margin_below _ _ _ (numerator m) (denominator m) cp cm cd (positive_part t) (3 * 2 ^ 51) (denominator_pos (sub binary64 half m)) CD below bounds.room_high MD;
    }

pub decided : (s sr : Bool) (L A G : ℕ) (q c m t : Float) → 0 < L → A ≤ L → IsRatio G L sr q → IsPart A L s q c → IsMargin L q m → T (fits binary64 c)
    → AreBounds m (sub binary64 half m) (halved m) → numerator c ≤ 2 ^ 50 * denominator c → IsCertified c (sub binary64 half m) (halved m) t → IsDecided s (positive_part t) G A L
decided s sr L A G q c m t L0 le ratio part margin fc bounds small cert =
    let cp = positive_part c in
    let cm = negative_part c in
    let cd = denominator c in
    let CD = denominator_pos c in
    let QD = denominator_pos q in
    let MD = denominator_pos m in
    let sums = sides s c part.sign in
    let both = within s c m t part.sign fc bounds small cert in
    let first = total (cp + cm) (numerator c) (denominator q) cd (numerator q) A L sums le part.high in
    let second = total (cm + cp) (numerator c) (denominator q) cd (numerator q) A L (swap cp cm ∙ sums) le part.high in
    let low = wide (positive_part t) (3 * 2 ^ 51) cp cm cd (numerator m) (denominator m) (numerator q) (denominator q) L MD QD CD both.above margin.size first ratio.some in
    let high = wide (3 * 2 ^ 51) (positive_part t + 1) cm cp cd (numerator m) (denominator m) (numerator q) (denominator q) L MD QD CD (le_of_lt both.below) margin.size second ratio.some in
    let near = close_high (numerator q) (denominator q) (numerator c) cd G A L le ratio.high part.low in
    let far = close_low (numerator q) (denominator q) (numerator c) cd G A L le ratio.low part.high in
    finish s (positive_part t) cp cm cd (numerator q) (denominator q) (numerator c) G A L CD QD L0 (signs s c part.sign) low high near far
  where
    swap : (a b : ℕ) → b + a ≡ a + b
    swap a b = omega arith

    signs : (s : Bool) (c : Float) → HasSign s c → (positive_part c ≡ cond s 0 (numerator c)) × (negative_part c ≡ cond s (numerator c) 0)
    signs false c h = not_negative c h
    signs true c h = not_positive c h

    total : (n cn qd cd qn A L : ℕ) → n ≡ cn → A ≤ L → cn * 2 ^ 53 * qd ≤ cd * qn * (A * 2 ^ 53 + 3 * L) → n * 2 ^ 53 * qd ≤ cd * qn * (L * 2 ^ 53 + 3 * L)
    total n cn qd cd qn A L e le h =
        let a : n * qd ≡ cn * qd = ap (λ (k : ℕ). k * qd) e in
        let l : A * (cd * qn) ≤ L * (cd * qn) = mul-le-mul_right (cd * qn) le in
        omega arith

    finish : (s : Bool) (T cp cm cd qn qd C G A L : ℕ) → 0 < cd → 0 < qd → 0 < L → (cp ≡ cond s 0 C) × (cm ≡ cond s C 0)
        → 2 ^ 54 * (qd * cd * T) + 2 ^ 54 * (qd * cm) + (2 ^ 53 + 24 * (L + 1)) * (cd * qn) < 2 ^ 54 * (qd * cd * (3 * 2 ^ 51)) + 2 ^ 54 * (qd * cp)
        → 2 ^ 54 * (qd * cd * (3 * 2 ^ 51)) + 2 ^ 54 * (qd * cp) + (2 ^ 53 + 24 * (L + 1)) * (cd * qn) < 2 ^ 54 * (qd * cd * (T + 1)) + 2 ^ 54 * (qd * cm)
        → 2 * 2 ^ 53 * qd * cd * (G * A) ≤ L * (2 * 2 ^ 53 * qd * C + qn * cd * (2 ^ 53 + 22 * L + 18)) → L * (2 * 2 ^ 53 * qd * C) ≤ 2 * 2 ^ 53 * qd * cd * (G * A) + L * (qn * cd * (2 ^ 53 + 24 * L))
        → IsDecided s T G A L
    finish false T cp cm cd qn qd C G A L CD QD L0 e low high near far =
        record { floor = floor_above T (3 * 2 ^ 51) C cd qn qd G A L CD QD L0 (rw (e.0, e.1) at low) (rw (e.0, e.1) at high) near far }
    finish true T cp cm cd qn qd C G A L CD QD L0 e low high near far =
        record { floor = floor_below T (3 * 2 ^ 51) C cd qn qd G A L CD QD L0 (rw (e.0, e.1) at low) (rw (e.0, e.1) at high) near far }

-- ---- the floor over the integers

pub floor_of_above : (T n A L : ℕ) → IsDecidedAbove T n A L → IsFloor (pos (n * A)) (pos L) (pos T -ℤ pos (3 * 2 ^ 51))
floor_of_above T n A L h =
    let w = h.floor.0 in
    let e : pos T -ℤ pos (3 * 2 ^ 51) ≡ pos w = omega (arith, ints, h.floor.1) in
    rw e (record { at_most = omega (arith, ints, h.floor.2); next_above = omega (arith, ints, h.floor.3) })

pub floor_of_below : (T n A L : ℕ) → IsDecidedBelow T n A L → IsFloor (neg_ℤ (pos (n * A))) (pos L) (pos T -ℤ pos (3 * 2 ^ 51))
floor_of_below T n A L h =
    let w = h.floor.0 in
    let e : pos T -ℤ pos (3 * 2 ^ 51) ≡ negsuc w = omega (arith, ints, h.floor.1) in
    rw e (record { at_most = omega (arith, ints, h.floor.3); next_above = omega (arith, ints, h.floor.2) })

zero_turned : (n : ℕ) → pos (0 * n) ≡ neg_ℤ (pos (0 * n))
zero_turned n = omega (arith, ints)

-- ---- a force that isn't 0

divisor_is : (s L : ℕ) (r : Float) → 0 < L → L ≤ 2 ^ 56 → L * L ≤ s → s < (L + 1) * (L + 1) → IsNearRoot 7 r s 1 → HasSign false (halved r) × (0 < numerator (halved r))
divisor_is s L r L0 Lm below above length =
    let rn = numerator r in
    let rd = denominator r in
    let RD = denominator_pos r in
    let some = length_low rn rd L L0 RD (root_low rn rd s L length.near below) in
    let near = halved_near r length.sign some.0 some.1 (length_high rn rd L Lm (root_high rn rd s L length.near above)) in
    (near.sign, positive _ _ (denominator_pos (halved r)) (divisor_low rn rd _ _ RD some.1 near.near.low))

certify : (s : Bool) (c room least t : Float) → HasSign s c → numerator c ≤ 2 ^ 50 * denominator c
    → (IsFinite c → positive_part c ≤ 2 ^ 50 * denominator c → negative_part c ≤ 2 ^ 50 * denominator c → IsCertified c room least t) → IsCertified c room least t
certify false c room least t h small cert = let e = not_negative c h in cert (signed_finite false c h) (omega (arith, e.0)) (omega (arith, e.1))
certify true c room least t h small cert = let e = not_positive c h in cert (signed_finite true c h) (omega (arith, e.0)) (omega (arith, e.1))

force_some : (s L A G : ℕ) (sg sx : Bool) (size r x slack t : Float) → 0 < L → L ≤ 2 ^ 56 → L * L ≤ s → s < (L + 1) * (L + 1) → A * A ≤ s → 0 < G → G ≤ 2 ^ 52
    → IsNearRoot 7 r s 1 → IsNearSigned 0 sg size G 1 → IsNearSigned 1 sx x A 1 → IsSlack L slack → T (lt (least_of size r slack) (room_of size r slack))
    → (IsFinite (float_component_of size r x) → positive_part (float_component_of size r x) ≤ 2 ^ 50 * denominator (float_component_of size r x) → negative_part (float_component_of size r x) ≤ 2 ^ 50 * denominator (float_component_of size r x)
    → IsCertified (float_component_of size r x) (room_of size r slack) (least_of size r slack) t)
    → IsInteger t (positive_part t) × IsDecided (unlike (unlike sg false) sx) (positive_part t) G A L
force_some s L A G sg sx size r x slack t L0 Lm below above side G0 Gm length slope part slackness order cert =
    let q = ratio_of size r in
    let c = float_component_of size r x in
    let m = margin_of size r slack in
    let le = below_root A L s side above in
    let ratio = ratio_is s L G sg size r L0 Lm below above G0 Gm length slope in
    let piece = part_is L A G (unlike sg false) sx q x L0 Lm le ratio part in
    let margin = margin_is L G (unlike sg false) q slack Lm ratio slackness in
    let fm = mul-fits binary64 (magnitude q) slack in
    let fc = mul-fits binary64 q x in
    let bounds = bounds_are m fm margin.sign margin.most in
    let few = small_margin m margin.sign (sub-fits binary64 half m) bounds order in
    let small = small_part (numerator m) (denominator m) (numerator q) (denominator q) (numerator c) (denominator c) A L (denominator_pos m) (denominator_pos q) few margin.size le piece.high in
    let sure = certify (unlike (unlike sg false) sx) c (room_of size r slack) (least_of size r slack) t piece.sign small cert in
    (sure.integer, decided (unlike (unlike sg false) sx) (unlike sg false) L A G q c m t L0 le ratio piece margin fc bounds small sure)

-- ---- no force

zero_ratio : (g r : Float) → IsNearSigned 0 false g 0 1 → HasSign false (halved r) → 0 < numerator (halved r) → HasSign false (ratio_of g r) × (numerator (ratio_of g r) ≡ 0)
zero_ratio g r slope h p =
    let d = halved r in
    let q = near_quotient 0 0 false false g d 0 1 (numerator d) (denominator d) (omega arith) p (omega arith) (inl (omega arith)) slope (record { sign = h; near = near_itself 0 (numerator d) (denominator d) }) in
    (q.sign, no_factor (numerator (ratio_of g r)) (numerator d) p (low (numerator (ratio_of g r)) (numerator d) (denominator d) (denominator (ratio_of g r)) q.near.high))
  where
    low : (qn dn dd qd : ℕ) → qn * (1 * dn) * 2 ^ 53 ≤ 0 * dd * (2 ^ 53 + 1) * qd → qn * dn ≤ 0
    low qn dn dd qd h = omega arith

zero_product : (s : Bool) (q x : Float) → HasSign false q → numerator q ≡ 0 → HasSign s x → HasSign (unlike false s) (mul binary64 q x) × (numerator (mul binary64 q x) ≡ 0)
zero_product s q x h z g =
    let c = near_product 0 0 false s q x (numerator q) (denominator q) (numerator x) (denominator x) (denominator_pos q) (denominator_pos x) (omega arith) (inl (ap (λ (k : ℕ). k * numerator x) z ∙ omega arith))
    (record { sign = h; near = near_itself 0 (numerator q) (denominator q) }) (record { sign = g; near = near_itself 0 (numerator x) (denominator x) }) in
    (c.sign, no_factor (numerator (mul binary64 q x)) (denominator q * denominator x) (mul-pos (denominator_pos q) (denominator_pos x)) (low (numerator (mul binary64 q x)) (numerator q) (numerator x) (denominator q) (denominator x) (denominator (mul binary64 q x)) z c.near.high))
  where
    low : (cn qn xn qd xd cd : ℕ) → qn ≡ 0 → cn * (qd * xd) * 2 ^ 53 ≤ qn * xn * (2 ^ 53 + 1) * cd → cn * (qd * xd) ≤ 0
    low cn qn xn qd xd cd z h = let a : qn * (xn * ((2 ^ 53 + 1) * cd)) ≡ 0 * (xn * ((2 ^ 53 + 1) * cd)) = ap (λ (k : ℕ). k * (xn * ((2 ^ 53 + 1) * cd))) z in omega arith

magnitude_zero : (q : Float) → HasSign false q → magnitude q ≡ q
unfolding lt
magnitude_zero nan h = absurd h
magnitude_zero (inf s) h = absurd h
magnitude_zero (fin true m e) h = absurd (true≢false h)
magnitude_zero (fin false m e) h =
    let q = fin false m e in
    let k : lt q (fin false 0 (pos 0)) ≡ false = le-ltb (m * up e * 1) (0 * 1 * down e) (omega arith) in
    ap (λ (b : Bool). cond b (neg q) q) k

-- the component and the margin are 0
zero_force : (s L : ℕ) (sx : Bool) (size r x slack : Float) → 0 < L → L ≤ 2 ^ 56 → L * L ≤ s → s < (L + 1) * (L + 1) → IsNearRoot 7 r s 1 → IsNearSigned 0 false size 0 1 → HasSign sx x → HasSign false slack
    → IsZero (float_component_of size r x) × IsZero (margin_of size r slack)
zero_force s L sx size r x slack L0 Lm below above length slope hx hs =
    let q = ratio_of size r in
    let d = divisor_is s L r L0 Lm below above length in
    let ratio = zero_ratio size r slope d.0 d.1 in
    let c = zero_product sx q x ratio.0 ratio.1 hx in
    let e = magnitude_zero q ratio.0 in
    let m = zero_product false (magnitude q) slack (subst (HasSign false) (sym e) ratio.0) (ap numerator e ∙ ratio.1) hs in (
      record { finite = signed_finite _ (float_component_of size r x) c.0; none = c.1 },
      record { finite = signed_finite _ (margin_of size r slack) m.0; none = m.1 },
    )

zero_room : (m : Float) → IsZero m → sub binary64 half m ≡ half
zero_room m z =
    let d = denominator_pos m in
    let e = zero_parts m z in
    half_exact false (sub binary64 half m) _ _ (denominator m * 2) (omega arith) (omega (arith, e.0, e.1)) (room_rounded m z.finite)

minus_half_value : IsDifference minus_half 0 1 2
minus_half_value = record { finite = tt; value = refl }

-- the only integer certified from -1/2 to 1/2, the latter left out, is 0
zero_between : (up un ud lp ln ld rp rn rd n m : ℕ) → 0 < ud → 0 < ld → 0 < rd → up * 2 + 1 * ud ≡ 0 * ud + un * 2 → lp * 2 + 1 * ld ≡ 0 * ld + ln * 2 → rp * 2 + 0 * rd ≡ 1 * rd + rn * 2
    → lp * ud + (un + n * ud) * ld ≤ (up + m * ud) * ld + ln * ud → (up + m * ud) * rd + rn * ud < rp * ud + (un + n * ud) * rd → n ≡ m
zero_between up un ud lp ln ld rp rn rd n m UD LD RD u l r least less =
    let a = ap (λ (k : ℕ). k * ld) u in
    let b = ap (λ (k : ℕ). k * ud) l in
    let c : n * (ud * ld) ≤ m * (ud * ld) = omega arith in
    let below : n ≤ m = le_of_mul-le-mul_right c (mul-pos UD LD) in
    let d = ap (λ (k : ℕ). k * rd) u in
    let e = ap (λ (k : ℕ). k * ud) r in
    let f : m * (ud * rd) < (n + 1) * (ud * rd) = omega arith in
    let above : m < n + 1 = lt_of_mul-lt-mul_right (ud * rd) f in
    omega arith

zero_certified : (c m t : Float) → IsZero c → IsZero m → IsCertified c (sub binary64 half m) (halved m) t → positive_part t ≡ 3 * 2 ^ 51
zero_certified c m t zc zm cert =
    let u = subst (λ (y : Float). IsDifference y 0 1 2) (sym (halved_zero c zc)) minus_half_value in
    let l = subst (λ (y : Float). IsDifference y 0 1 2) (sym (halved_zero m zm)) minus_half_value in
    let r = subst (λ (y : Float). IsDifference y 1 0 2) (sym (zero_room m zm)) half_value in
    zero_between _ _ _ _ _ _ _ _ _ (positive_part t) (3 * 2 ^ 51) (denominator_pos (halved c)) (denominator_pos (halved m)) (denominator_pos (sub binary64 half m)) u.value l.value r.value
    (at_least_finite _ _ _ (halved m) l.finite cert.at_least) (less_finite _ _ _ (sub binary64 half m) r.finite cert.less)

force_none : (s L A : ℕ) (sx : Bool) (size r x slack t : Float) → 0 < L → L ≤ 2 ^ 56 → L * L ≤ s → s < (L + 1) * (L + 1)
    → IsNearRoot 7 r s 1 → IsNearSigned 0 false size 0 1 → HasSign sx x → HasSign false slack
    → (IsFinite (float_component_of size r x) → positive_part (float_component_of size r x) ≤ 2 ^ 50 * denominator (float_component_of size r x) → negative_part (float_component_of size r x) ≤ 2 ^ 50 * denominator (float_component_of size r x)
    → IsCertified (float_component_of size r x) (room_of size r slack) (least_of size r slack) t) → IsInteger t (positive_part t) × IsDecidedAbove (positive_part t) 0 A L
force_none s L A sx size r x slack t L0 Lm below above length slope hx hs cert =
    let z = zero_force s L sx size r x slack L0 Lm below above length slope hx hs in
    let e = zero_parts (float_component_of size r x) z.0 in
    let sure = cert z.0.finite (omega (arith, e.0)) (omega (arith, e.1)) in
    let at_middle = zero_certified (float_component_of size r x) (margin_of size r slack) t z.0 z.1 sure in
    (sure.integer, record { floor = (0, at_middle, omega arith, omega arith) })

-- ---- the root of a line's square

some_root : (s : ℕ) → 0 < s → 0 < root s
some_root s p = let h = (root_is s).greatest 1 (omega arith) in omega arith

few_root : (s : ℕ) → s < 2 ^ 112 → root s ≤ 2 ^ 56
few_root s p = le_of_suc-le-suc (lt_of_not-le (λ (k : suc (2 ^ 56) ≤ root s). let h = mul-le-mul k k in let e = (root_is s).square_le in absurd (omega arith)))

-- ---- a lane without a force is sure

signed_part : (x : Float) (a : ℤ) → IsNearInteger 1 x a → (s : Bool) × HasSign s x
signed_part x (pos n) h = (false, h.sign)
signed_part x (negsuc n) h = (true, h.sign)

half_within : T (lt minus_half half)
unfolding lt
half_within = tt

half_at_most : T (le minus_half minus_half)
unfolding le lt eq
half_at_most = tt

pub zero_sure : (s : ℕ) (a : ℤ) (size r x slack : Float) → IsSize (pos 0) size → IsLine s a r x slack
    → IsZero (float_component_of size r x) × T (lt minus_half (room_of size r slack)) × T (le (least_of size r slack) minus_half)
zero_sure s a size r x slack exact line =
    let part = signed_part x a line.part_near in
    let z = zero_force s (root s) part.0 size r x slack (some_root s line.some) (few_root s line.short) (root_is s).square_le (below_next s) line.length_near exact.exact part.1 line.enough.sign in (
      z.0,
      subst (λ (y : Float). T (lt minus_half y)) (sym (zero_room (margin_of size r slack) z.1)) half_within,
      subst (λ (y : Float). T (le y minus_half)) (sym (halved_zero (margin_of size r slack) z.1)) half_at_most,
    )

-- ---- any force

pub force_lane : (s : ℕ) (g a : ℤ) (size r x slack t : Float) → IsSize g size → IsLine s a r x slack → T (lt (least_of size r slack) (room_of size r slack))
    → (IsFinite (float_component_of size r x) → positive_part (float_component_of size r x) ≤ 2 ^ 50 * denominator (float_component_of size r x) → negative_part (float_component_of size r x) ≤ 2 ^ 50 * denominator (float_component_of size r x)
    → IsCertified (float_component_of size r x) (room_of size r slack) (least_of size r slack) t)
    → IsInteger t (positive_part t) × IsFloor (g *ℤ a) (pos (root s)) (pos (positive_part t) -ℤ pos (3 * 2 ^ 51))
force_lane s g a size r x slack t exact line order cert = by g a exact line
  where
    by : (g a : ℤ) → IsSize g size → IsLine s a r x slack → IsInteger t (positive_part t) × IsFloor (g *ℤ a) (pos (root s)) (pos (positive_part t) -ℤ pos (3 * 2 ^ 51))
    by (pos zero) (pos n) z l =
        let d = force_none s (root s) n false size r x slack t (some_root s l.some) (few_root s l.short) (root_is s).square_le (below_next s) l.length_near z.exact l.part_near.sign l.enough.sign cert in
        (d.0, subst (λ (z : ℤ). IsFloor z (pos (root s)) (pos (positive_part t) -ℤ pos (3 * 2 ^ 51))) (sym (pos-*ℤ-pos zero n)) (floor_of_above (positive_part t) zero n (root s) d.1))
    by (pos zero) (negsuc n) z l =
        let d = force_none s (root s) (suc n) true size r x slack t (some_root s l.some) (few_root s l.short) (root_is s).square_le (below_next s) l.length_near z.exact l.part_near.sign l.enough.sign cert in
        (d.0, subst (λ (z : ℤ). IsFloor z (pos (root s)) (pos (positive_part t) -ℤ pos (3 * 2 ^ 51))) (zero_turned (suc n) ∙ sym (pos-*ℤ-negsuc zero n)) (floor_of_above (positive_part t) zero (suc n) (root s) d.1))
    by (pos (suc m)) (pos n) z l =
        let d = force_some s (root s) n (suc m) false false size r x slack t (some_root s l.some) (few_root s l.short) (root_is s).square_le (below_next s) l.side (omega arith) z.small l.length_near z.exact l.part_near l.enough order cert in
        (d.0, subst (λ (z : ℤ). IsFloor z (pos (root s)) (pos (positive_part t) -ℤ pos (3 * 2 ^ 51))) (sym (pos-*ℤ-pos (suc m) n)) (floor_of_above (positive_part t) (suc m) n (root s) d.1))
    by (pos (suc m)) (negsuc n) z l =
        let d = force_some s (root s) (suc n) (suc m) false true size r x slack t (some_root s l.some) (few_root s l.short) (root_is s).square_le (below_next s) l.side (omega arith) z.small l.length_near z.exact l.part_near l.enough order cert in
        (d.0, subst (λ (z : ℤ). IsFloor z (pos (root s)) (pos (positive_part t) -ℤ pos (3 * 2 ^ 51))) (sym (pos-*ℤ-negsuc (suc m) n)) (floor_of_below (positive_part t) (suc m) (suc n) (root s) d.1))
    by (negsuc m) (pos n) z l =
        let d = force_some s (root s) n (suc m) true false size r x slack t (some_root s l.some) (few_root s l.short) (root_is s).square_le (below_next s) l.side (omega arith) z.small l.length_near z.exact l.part_near l.enough order cert in
        (d.0, subst (λ (z : ℤ). IsFloor z (pos (root s)) (pos (positive_part t) -ℤ pos (3 * 2 ^ 51))) (sym (negsuc-*ℤ-pos m n)) (floor_of_below (positive_part t) (suc m) n (root s) d.1))
    by (negsuc m) (negsuc n) z l =
        let d = force_some s (root s) (suc n) (suc m) true true size r x slack t (some_root s l.some) (few_root s l.short) (root_is s).square_le (below_next s) l.side (omega arith) z.small l.length_near z.exact l.part_near l.enough order cert in
        (d.0, subst (λ (z : ℤ). IsFloor z (pos (root s)) (pos (positive_part t) -ℤ pos (3 * 2 ^ 51))) (sym (negsuc-*ℤ-negsuc m n)) (floor_of_above (positive_part t) (suc m) (suc n) (root s) d.1))
