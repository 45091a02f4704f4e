-- A float that rounds a quotient once, and lies strictly between two neighbouring integers, decides its floor.
use Rattle.std.proofs.Common.{◌≡◌, ℕ, zero, suc, ◌+◌, ◌-◌, ◌*◌, ◌^◌, ◌<◌, ◌≤◌, Bool, true, false, cond, T, List, [], ◌∷◌, ◌%◌, ℤ, pos, negsuc, ◌-ℤ◌, ◌*ℤ◌, neg_ℤ, refl, sym, ap, ◌∙◌, subst, arith, inl, inr, Ok, mul-pos, pow-add, pow_mono, pow_pos, ne_eqb, eqb, eqb→eq, of_z, to_z, w64, SFits, ◌/◌, ◌<ℤ◌, shl_lt, lt_of_lt_of_le, lt_of_mul-lt-mul_right, lt_of_not-le, lt-ltb, mul-le-mul_right}
use Rattle.std.proofs.lemmas.Bool.{cases_lt}
use Rattle.std.proofs.Math.Nat.{div-add-mod'}
use Rattle.std.proofs.lemmas.Int.{ints}
use Rattle.std.proofs.lemmas.Float as order
use Rattle.std.proofs.lemmas.Simd.{get_or-replicate}
use Rattle.std.specs.Float.{NotNan}
use Rattle.std.specs.Prelude.{IsTrue, unsigned_abs}
use lib.Ieee.{Float, nan, inf, fin, binary64, round, lt, le, add, sub, mul, div, fits, unlike, of_bits, is_nan}
use lib.Ieee.Exact.{HasValue, round_exact}
use lib.Ieee.Fits.{add-fits, sub-fits, up_pos}
use lib.Ieee.Scale.{round_same}
use Rattle.fixed.specs.Arithmetic.{floor_over, number_or_overflow, one, quotient_of}
use Rattle.fixed.specs.Rounding.{IsFloor}
use Rattle.fixed.proofs.FloorLemmas.{floor_unique}
use Rattle.float_filters.specs.Near.{denominator, numerator, HasSign, IsNear, IsNearSigned}
use Rattle.float_filters.specs.Floors.{positive_part, negative_part, IsFinite, IsDifference, IsInteger, lane, middle}
use Rattle.float_filters.specs.Forces.{IsSize}
use Rattle.float_filters.specs.Quotients.{IsStrictFloor, IsWhole, scaled_quotient, shift_of, unit}
use Rattle.float_filters.proofs.Fractions.{denominator_pos}
use Rattle.float_filters.proofs.Rounding.{exact_near}
use Rattle.float_filters.proofs.FloatLaws.{product_is, quotient_is}
use Rattle.float_filters.proofs.Differences.{IsRounded, IsSigned, rounded_le, adds, from_value, same_rounded, subtracts, whole_exact}
use Rattle.float_filters.proofs.RestLaws.{short_exact}
use Rattle.float_filters.proofs.Comparisons.{finite_between, itself, large_whole, le_value, less_value}
use Rattle.float_filters.proofs.FloorLaws.{half_is, half_value, lowered_value, middle_is}
use Rattle.float_filters.proofs.ErrorLaws.{less_finite, signed_finite}
use Rattle.float_filters.proofs.ForceLaws.{floor_of_above, floor_of_below}

-- ---- what a strict comparison says of the exact number

-- if a float is less than a rounded number, it is less than the number
greater_value : (a b c : ℕ) (x y : Float) → 0 < c → IsRounded x a b c → T (fits binary64 y) → IsFinite y → T (lt y x) → positive_part y * c + b * denominator y < a * denominator y + negative_part y * c
greater_value a b c x y C r p f l =
    lt_of_not-le (λ (g : a * denominator y + negative_part y * c ≤ positive_part y * c + b * denominator y).
    order.lt_irrefl y (order.lt_of_lt_of_le y x y l (rounded_le x y a b c _ _ (denominator y) C (denominator_pos y) r (itself y p f) g)))

-- the same with the float's value, an integer n - m
above_integer : (a b c p q d n m : ℕ) → 0 < d → p * 1 + m * d ≡ n * d + q * 1 → p * c + b * d < a * d + q * c → n * c + b < a + m * c
above_integer a b c p q d n m D v h =
    let w : (p * 1 + m * d) * c ≡ (n * d + q * 1) * c = ap (λ (k : ℕ). k * c) v in
    let g : (n * c + b) * d < (a + m * c) * d = omega arith in
    lt_of_mul-lt-mul_right d g

below_integer : (a b c p q d n m : ℕ) → 0 < d → p * 1 + m * d ≡ n * d + q * 1 → a * d + q * c < p * c + b * d → a + m * c < n * c + b
below_integer a b c p q d n m D v h =
    let w : (p * 1 + m * d) * c ≡ (n * d + q * 1) * c = ap (λ (k : ℕ). k * c) v in
    let g : (a + m * c) * d < (n * c + b) * d = omega arith in
    lt_of_mul-lt-mul_right d g

unit_value : IsDifference unit 1 0 1
unit_value = record { finite = tt; value = refl }

-- one more than an integer less 3 * 2^51 is exact
next_value : (t : Float) (n : ℕ) → IsInteger t n → IsDifference (add binary64 (sub binary64 t middle) unit) (n + 1) (3 * 2 ^ 51) 1
next_value t n h =
    let l = h.low in
    let g = h.high in
    whole_exact _ (n + 1) (3 * 2 ^ 51) (omega arith) (omega arith)
    (same_rounded _ (n * 1 + 1 * 1) (3 * 2 ^ 51 * 1 + 0 * 1) 1 (n + 1) (3 * 2 ^ 51) 1 (omega arith) (omega arith) (omega arith)
    (adds (sub binary64 t middle) unit n (3 * 2 ^ 51) 1 1 0 1 (omega arith) (omega arith) (lowered_value t n h) unit_value))

-- the number that p rounds is between the integers
pub strict_between : (p t : Float) (a b c : ℕ) → 0 < c → IsRounded p a b c → IsStrictFloor p t
    → (positive_part t * c + b < a + 3 * 2 ^ 51 * c) × (a + 3 * 2 ^ 51 * c < (positive_part t + 1) * c + b)
strict_between p t a b c C r s =
    let n = positive_part t in
    let y = sub binary64 t middle in
    let z = add binary64 y unit in
    let v = lowered_value t n s.integer in
    let w = next_value t n s.integer in (
      above_integer a b c _ _ (denominator y) n (3 * 2 ^ 51) (denominator_pos y) v.value (greater_value a b c p y C r (sub-fits binary64 t middle) v.finite s.above),
      below_integer a b c _ _ (denominator z) (n + 1) (3 * 2 ^ 51) (denominator_pos z) w.value (less_finite a b c z w.finite (less_value a b c p z C r (add-fits binary64 y unit) s.below)),
    )

strict_finite : (p t : Float) → IsStrictFloor p t → IsFinite p
strict_finite p t s =
    finite_between _ p _ (lowered_value t _ s.integer).finite (next_value t _ s.integer).finite (order.le_of_lt _ _ s.above) (order.le_of_lt _ _ s.below)

-- ---- the quotient, rounded once

exactly : (s : Bool) (x : Float) (a c : ℕ) → IsNearSigned 0 s x a c → numerator x * c ≡ a * denominator x
exactly s x a c h = let l = h.near.low in let g = h.near.high in omega arith

-- the float is this number, or its negative
near_value : (s : Bool) (x : Float) (n u v : ℕ) → IsNearSigned 0 s x n 1 → IsSigned s n u v → IsDifference x u v 1
near_value s x n u v h = from_value x s n 1 u v (by x (exactly s x n 1 h) h.sign)
  where
    by : (x : Float) → numerator x * 1 ≡ n * denominator x → HasSign s x → HasValue x s n 1
    by nan e g = absurd g
    by (inf t) e g = absurd g
    by (fin t m d) e g = (g, e)

-- a float that is n / 2, or its negative, for this difference
abbrev IsHalved : Float → ℕ → ℕ → Type 0
IsHalved x a b = (r : Bool) × (n : ℕ) × IsNearSigned 0 r x n 2 × (n < 2 ^ 53) × IsSigned r n a b

-- an integer less 0 or 1/2 is exact
shifted : (x y : Float) (u v s : ℕ) → 2 * u + 2 * v + s < 2 ^ 53 → IsDifference x u v 1 → IsDifference y s 0 2 → IsHalved (sub binary64 x y) (2 * u) (2 * v + s)
shifted x y u v s few f g = by q.0 q.1 q.2 q.3
  where
    q : IsRounded (sub binary64 x y) (2 * u) (2 * v + s) 2
    q = same_rounded _ (u * 2 + 0 * 1) (v * 2 + s * 1) (1 * 2) _ _ _ (omega arith) (omega arith) (omega arith) (subtracts x y u v 1 s 0 2 (omega arith) (omega arith) f g)

    by : (r : Bool) (n : ℕ) → sub binary64 x y ≡ round binary64 r n 2 → IsSigned r n (2 * u) (2 * v + s) → IsHalved (sub binary64 x y) (2 * u) (2 * v + s)
    by false n is rel =
        let small : n < 2 ^ 53 = omega arith in
        (false, n, subst (λ (z : Float). IsNearSigned 0 false z n 2) (sym is) (exact_near _ false n 2 (short_exact false n 1 small (omega arith))), small, rel)
    by true n is rel =
        let small : n < 2 ^ 53 = omega arith in
        (true, n, subst (λ (z : Float). IsNearSigned 0 true z n 2) (sym is) (exact_near _ true n 2 (short_exact true n 1 small (omega arith))), small, rel)

crossed : (n d m e a p : ℕ) → n * 2 ≡ a * d → m * 1 ≡ p * e → n * m * 2 ≡ a * p * (d * e)
crossed n d m e a p f g =
    let x : n * 2 * m ≡ a * d * m = ap (λ (k : ℕ). k * m) f in
    let y : a * d * (m * 1) ≡ a * d * (p * e) = ap (λ (k : ℕ). a * d * k) g in
    omega arith

-- a float of 53 bits times a power of 2 is exact
scaled : (bits n : ℕ) (r : Bool) (x y : Float) → bits ≤ 53 → n < 2 ^ 53 → IsNearSigned 0 r x n 2 → IsNear 0 y (2 ^ bits) 1 → IsNearSigned 0 (unlike r false) (mul binary64 x y) (n * 2 ^ bits) 2
scaled bits n r x y few small f g =
    let q = unlike r false in
    let dx = denominator_pos x in
    let dy = denominator_pos y in
    let same : round binary64 q (numerator x * numerator y) (denominator x * denominator y) ≡ round binary64 q (n * 2 ^ bits) 2 =
    round_same binary64 q _ _ (n * 2 ^ bits) 2 (mul-pos dx dy) (omega arith) (crossed _ _ _ _ n (2 ^ bits) (exactly r x n 2 f) (exactly false y (2 ^ bits) 1 g)) in
    let place : n * 2 ^ bits * 2 ^ 1073 ≡ n * 2 ^ (bits + 1073) = omega (arith, ap (λ (j : ℕ). n * j) (pow-add 2 bits 1073)) in
    let room : n * 2 ^ (bits + 1073) < 2 ^ 2098 = lt_of_lt_of_le (shl_lt 53 (bits + 1073) small) (pow_mono {i = 53 + (bits + 1073)} {j = 2098} (omega arith)) in
    let v : HasValue (round binary64 q (n * 2 ^ bits) 2) q (n * 2 ^ bits) 2 = round_exact binary64 q (n * 2 ^ bits) 2 n (bits + 1073) (omega arith) small room (omega (arith, place)) in
    subst (λ (z : Float). IsNearSigned 0 q z (n * 2 ^ bits) 2) (sym (product_is r false x y f.sign g.sign ∙ same)) (exact_near _ q (n * 2 ^ bits) 2 v)

some_numerator : (t : Bool) (y : Float) (b : ℕ) → IsNearSigned 0 t y (suc b) 1 → 0 < numerator y
some_numerator t y b h = let e = exactly t y (suc b) 1 h in let d = denominator_pos y in omega arith

across : (n d m e a b : ℕ) → n * 2 ≡ a * d → m * 1 ≡ b * e → n * e * (2 * b) ≡ a * (m * d)
across n d m e a b f g =
    let x : n * 2 * (b * e) ≡ a * d * (b * e) = ap (λ (k : ℕ). k * (b * e)) f in
    let y : a * d * (m * 1) ≡ a * d * (b * e) = ap (λ (k : ℕ). a * d * k) g in
    omega arith

-- the quotient of exact floats rounds the quotient
divided : (s t : Bool) (x y : Float) (a b : ℕ) → IsNearSigned 0 s x a 2 → IsNearSigned 0 t y (suc b) 1 → div binary64 x y ≡ round binary64 (unlike s t) a (2 * suc b)
divided s t x y a b f g =
    let some = some_numerator t y b g in
    quotient_is s t x y f.sign g.sign some
    ∙ round_same binary64 (unlike s t) _ _ a (2 * suc b) (mul-pos some (denominator_pos x)) (omega arith) (across _ _ _ _ a (suc b) (exactly s x a 2 f) (exactly t y (suc b) 1 g))

-- by minus a positive divisor, the signs of dividend and quotient differ
divided_opposite : (bits a b c : ℕ) (x y k : Float) → bits ≤ 53 → IsHalved x a b → IsNear 0 k (2 ^ bits) 1 → IsNearSigned 0 true y (suc c) 1 → IsRounded (div binary64 (mul binary64 x k) y) (b * 2 ^ bits) (a * 2 ^ bits) (2 * suc c)
divided_opposite bits a b c x y k few f g h = by f.0 f.1 f.2 f.3 f.4
  where
    by : (r : Bool) (n : ℕ) → IsNearSigned 0 r x n 2 → n < 2 ^ 53 → IsSigned r n a b → IsRounded (div binary64 (mul binary64 x k) y) (b * 2 ^ bits) (a * 2 ^ bits) (2 * suc c)
    by false n v small rel =
        (true, n * 2 ^ bits, divided false true _ y (n * 2 ^ bits) c (scaled bits n false x k few small v g) h, omega (arith, ap (λ (j : ℕ). j * 2 ^ bits) rel))
    by true n v small rel =
        (false, n * 2 ^ bits, divided true true _ y (n * 2 ^ bits) c (scaled bits n true x k few small v g) h, omega (arith, ap (λ (j : ℕ). j * 2 ^ bits) rel))

-- by minus a negative divisor, they are the same
divided_alike : (bits a b c : ℕ) (x y k : Float) → bits ≤ 53 → IsHalved x a b → IsNear 0 k (2 ^ bits) 1 → IsNearSigned 0 false y (suc c) 1 → IsRounded (div binary64 (mul binary64 x k) y) (a * 2 ^ bits) (b * 2 ^ bits) (2 * suc c)
divided_alike bits a b c x y k few f g h = by f.0 f.1 f.2 f.3 f.4
  where
    by : (r : Bool) (n : ℕ) → IsNearSigned 0 r x n 2 → n < 2 ^ 53 → IsSigned r n a b → IsRounded (div binary64 (mul binary64 x k) y) (a * 2 ^ bits) (b * 2 ^ bits) (2 * suc c)
    by false n v small rel =
        (false, n * 2 ^ bits, divided false false _ y (n * 2 ^ bits) c (scaled bits n false x k few small v g) h, omega (arith, ap (λ (j : ℕ). j * 2 ^ bits) rel))
    by true n v small rel =
        (true, n * 2 ^ bits, divided true false _ y (n * 2 ^ bits) c (scaled bits n true x k few small v g) h, omega (arith, ap (λ (j : ℕ). j * 2 ^ bits) rel))

-- ---- the floor

-- T - 3 * 2^51 is the floor of (b - a) / c
pub record IsBetween (T a b c : ℕ) : Type 0 where
  pub low : T * c + a ≤ b + 3 * 2 ^ 51 * c
  pub high : b + 3 * 2 ^ 51 * c < (T + 1) * c + a

-- a dividend that isn't shifted
plain_between : (T u v p c : ℕ) → T * (2 * c) + 2 * u * p < (2 * v + 0) * p + 3 * 2 ^ 51 * (2 * c) → (2 * v + 0) * p + 3 * 2 ^ 51 * (2 * c) < (T + 1) * (2 * c) + 2 * u * p → IsBetween T (u * p) (v * p) c
plain_between T u v p c l h = record { low = omega arith; high = omega arith }

-- a dividend that is shifted by half of the last bit, and a divisor that is a multiple of one
shifted_between : (T u v p c k : ℕ) → 0 < p → c ≡ suc k * p → T * (2 * c) + 2 * u * p < (2 * v + 1) * p + 3 * 2 ^ 51 * (2 * c) → (2 * v + 1) * p + 3 * 2 ^ 51 * (2 * c) < (T + 1) * (2 * c) + 2 * u * p
    → IsBetween T (u * p) (v * p) c
shifted_between T u v p c k P e l h =
    let x : T * c ≡ T * (suc k * p) = ap (λ (j : ℕ). T * j) e in
    let a : (T * (2 * suc k) + 2 * u) * p < (2 * v + 1 + 3 * 2 ^ 51 * (2 * suc k)) * p = omega arith in
    let b : (2 * v + 1 + 3 * 2 ^ 51 * (2 * suc k)) * p < ((T + 1) * (2 * suc k) + 2 * u) * p = omega arith in
    let low : T * (2 * suc k) + 2 * u < 2 * v + 1 + 3 * 2 ^ 51 * (2 * suc k) = lt_of_mul-lt-mul_right p a in
    let high : 2 * v + 1 + 3 * 2 ^ 51 * (2 * suc k) < (T + 1) * (2 * suc k) + 2 * u = lt_of_mul-lt-mul_right p b in
    let y : (T * suc k + u) * p ≤ (v + 3 * 2 ^ 51 * suc k) * p = mul-le-mul_right p (omega arith) in
    let z : (v + 3 * 2 ^ 51 * suc k + 1) * p ≤ ((T + 1) * suc k + u) * p = mul-le-mul_right p (omega arith) in
    record { low = omega arith; high = omega arith }

floor_above : (T z a p c : ℕ) → z ≡ 0 → IsBetween T z (a * p) (suc c) → IsFloor (pos (a * p)) (pos (suc c)) (pos T -ℤ pos (3 * 2 ^ 51))
floor_above T z a p c e h =
    let l = h.low in
    let g = h.high in
    floor_of_above T a p (suc c) (record {
      floor = elim (cases_lt T (3 * 2 ^ 51)) [
        | inl f ↦ let x : suc T * suc c ≤ 3 * 2 ^ 51 * suc c = mul-le-mul_right (suc c) f in absurd (omega arith)
        | inr f ↦
            let w = T - 3 * 2 ^ 51 in
            let is : T ≡ w + 3 * 2 ^ 51 = omega arith in
            let x : T * suc c ≡ (w + 3 * 2 ^ 51) * suc c = ap (λ (j : ℕ). j * suc c) is in
            (w, is, omega arith, omega arith)
      ];
    })

floor_below : (T z a p c : ℕ) → z ≡ 0 → 0 < p → IsBetween T (suc a * p) z (suc c) → IsFloor (neg_ℤ (pos (suc a * p))) (pos (suc c)) (pos T -ℤ pos (3 * 2 ^ 51))
floor_below T z a p c e P h =
    let l = h.low in
    let g = h.high in
    floor_of_below T (suc a) p (suc c) (record {
      floor = elim (cases_lt T (3 * 2 ^ 51)) [
        | inl f ↦
            let w = 3 * 2 ^ 51 - suc T in
            let is : 3 * 2 ^ 51 ≡ suc w + T = omega arith in
            let x : 3 * 2 ^ 51 * suc c ≡ (suc w + T) * suc c = ap (λ (j : ℕ). j * suc c) is in
            (w, is, omega arith, omega arith)
        | inr f ↦ let x : 3 * 2 ^ 51 * suc c ≤ T * suc c = mul-le-mul_right (suc c) f in absurd (omega arith)
      ];
    })

-- ---- division by 0

neither : (b s : Bool) → IsFinite (cond b nan (inf s)) → ⊥
neither true s q = q
neither false s q = q

no_quotient : (x y : Float) → IsFinite y → numerator y ≡ 0 → IsFinite (div binary64 x y) → ⊥
unfolding div
no_quotient nan y f e q = q
no_quotient (inf s) nan f e q = f
no_quotient (inf s) (inf t) f e q = f
no_quotient (inf s) (fin t n d) f e q = q
no_quotient (fin s m k) nan f e q = f
no_quotient (fin s m k) (inf t) f e q = f
no_quotient (fin s m k) (fin t zero d) f e q = neither _ _ q
no_quotient (fin s m k) (fin t (suc n) d) f e q = let u = up_pos d in absurd (omega arith)

-- ---- one lane

-- the integer is in range
narrow : (t : Float) → IsInteger t (positive_part t) → number_or_overflow (pos (positive_part t) -ℤ pos (3 * 2 ^ 51)) ≡ Ok (pos (positive_part t) -ℤ pos (3 * 2 ^ 51))
narrow t h = let l = h.low in let g = h.high in by (positive_part t) l g
  where
    by : (n : ℕ) → 2 ^ 52 ≤ n → n < 2 ^ 53 → number_or_overflow (pos n -ℤ pos (3 * 2 ^ 51)) ≡ Ok (pos n -ℤ pos (3 * 2 ^ 51))
    by n l g = elim (cases_lt n (3 * 2 ^ 51)) [
      | inl f ↦
          let e : pos n -ℤ pos (3 * 2 ^ 51) ≡ negsuc (3 * 2 ^ 51 - suc n) = omega (arith, ints) in
          rw (e, lt-ltb (3 * 2 ^ 51 - suc n) (2 ^ 63) (omega arith)) refl
      | inr f ↦
          let e : pos n -ℤ pos (3 * 2 ^ 51) ≡ pos (n - 3 * 2 ^ 51) = omega (arith, ints) in
          rw (e, lt-ltb (n - 3 * 2 ^ 51) (2 ^ 63) (omega arith)) refl
    ]

-- a positive divisor, and a negative one
over_positive : (bits : ℕ) (a : ℤ) (b : ℕ) (n q : ℤ) → n ≡ a *ℤ one bits → IsFloor n (pos (suc b)) q → number_or_overflow q ≡ Ok q → quotient_of bits a (pos (suc b)) ≡ Ok q
over_positive bits a b n q e h r = rw (ne_eqb (suc b) 0 (λ (z : suc b ≡ 0). omega arith)) (ap number_or_overflow (ap (λ (z : ℤ). floor_over z (suc b)) (sym e) ∙ sym (floor_unique n (suc b) q h)) ∙ r)

over_negative : (bits : ℕ) (a : ℤ) (b : ℕ) (n q : ℤ) → n ≡ neg_ℤ (a *ℤ one bits) → IsFloor n (pos (suc b)) q → number_or_overflow q ≡ Ok q → quotient_of bits a (negsuc b) ≡ Ok q
over_negative bits a b n q e h r = ap number_or_overflow (ap (λ (z : ℤ). floor_over z (suc b)) (sym e) ∙ sym (floor_unique n (suc b) q h)) ∙ r

-- a divisor above 0, and a strict floor of the quotient
positive_between : (bits u v b : ℕ) (whole : Bool) (x y shift k t : Float) → bits ≤ 53 → u + v ≤ 2 ^ 51 → IsDifference x u v 1 → IsDifference shift (shift_of whole) 0 2 → (IsTrue whole → IsWhole bits (pos (suc b)))
    → IsNearSigned 0 true y (suc b) 1 → IsNear 0 k (2 ^ bits) 1 → IsStrictFloor (scaled_quotient x y shift k) t → IsBetween (positive_part t) (u * 2 ^ bits) (v * 2 ^ bits) (suc b)
positive_between bits u v b false x y shift k t few small f g w d scale h =
    let two = strict_between _ t _ _ _ (omega arith) (divided_opposite bits (2 * u) (2 * v + 0) b _ y k few (shifted x shift u v 0 (omega arith) f g) scale d) h in
    plain_between (positive_part t) u v (2 ^ bits) (suc b) two.0 two.1
positive_between bits u v b true x y shift k t few small f g w d scale h =
    let two = strict_between _ t _ _ _ (omega arith) (divided_opposite bits (2 * u) (2 * v + 1) b _ y k few (shifted x shift u v 1 (omega arith) f g) scale d) h in
    let whole = w refl in
    shifted_between (positive_part t) u v (2 ^ bits) (suc b) whole.0 (pow_pos bits) whole.1 two.0 two.1

-- a divisor below 0
negative_between : (bits u v b : ℕ) (whole : Bool) (x y shift k t : Float) → bits ≤ 53 → u + v ≤ 2 ^ 51 → IsDifference x u v 1 → IsDifference shift (shift_of whole) 0 2 → (IsTrue whole → IsWhole bits (negsuc b))
    → IsNearSigned 0 false y (suc b) 1 → IsNear 0 k (2 ^ bits) 1 → IsStrictFloor (scaled_quotient x y shift k) t → IsBetween (positive_part t) (v * 2 ^ bits) (u * 2 ^ bits) (suc b)
negative_between bits u v b false x y shift k t few small f g w d scale h =
    let two = strict_between _ t _ _ _ (omega arith) (divided_alike bits (2 * u) (2 * v + 0) b _ y k few (shifted x shift u v 0 (omega arith) f g) scale d) h in
    record { low = omega (arith, two.0); high = omega (arith, two.1) }
negative_between bits u v b true x y shift k t few small f g w d scale h = absurd (w refl)

-- Floats that are minus a and minus b, and a strict floor of their quotient, decide the quotient of a and b.
pub quotient_lane : (bits : ℕ) (a b : ℤ) (whole : Bool) (x y shift k t : Float) → bits ≤ 53 → unsigned_abs a ≤ 2 ^ 51 → IsSize (neg_ℤ a) x → IsSize (neg_ℤ b) y → IsDifference shift (shift_of whole) 0 2 → (IsTrue whole → IsWhole bits b)
    → IsNear 0 k (2 ^ bits) 1 → IsStrictFloor (scaled_quotient x y shift k) t → quotient_of bits a b ≡ Ok (pos (positive_part t) -ℤ pos (3 * 2 ^ 51))
quotient_lane bits (pos zero) (pos (suc b)) whole x y shift k t few small f g d w scale h =
    over_positive bits (pos 0) b _ _ (omega (arith, ints)) (floor_above _ _ 0 (2 ^ bits) b (omega arith) (positive_between bits 0 0 b whole x y shift k t few (omega (arith, small)) (near_value false x 0 0 0 f.exact (omega arith)) d w g.exact scale h)) (narrow t h.integer)
quotient_lane bits (pos (suc a)) (pos (suc b)) whole x y shift k t few small f g d w scale h =
    over_positive bits (pos (suc a)) b _ _ (omega (arith, ints)) (floor_above _ _ (suc a) (2 ^ bits) b (omega arith) (positive_between bits 0 (suc a) b whole x y shift k t few (omega (arith, small)) (near_value true x (suc a) 0 (suc a) f.exact (omega arith)) d w g.exact scale h)) (narrow t h.integer)
quotient_lane bits (negsuc a) (pos (suc b)) whole x y shift k t few small f g d w scale h =
    over_positive bits (negsuc a) b _ _ (omega (arith, ints)) (floor_below _ _ a (2 ^ bits) b (omega arith) (pow_pos bits) (positive_between bits (suc a) 0 b whole x y shift k t few (omega (arith, small)) (near_value false x (suc a) (suc a) 0 f.exact (omega arith)) d w g.exact scale h)) (narrow t h.integer)
quotient_lane bits (pos zero) (negsuc b) whole x y shift k t few small f g d w scale h =
    over_negative bits (pos 0) b _ _ (omega (arith, ints)) (floor_above _ _ 0 (2 ^ bits) b (omega arith) (negative_between bits 0 0 b whole x y shift k t few (omega (arith, small)) (near_value false x 0 0 0 f.exact (omega arith)) d w g.exact scale h)) (narrow t h.integer)
quotient_lane bits (pos (suc a)) (negsuc b) whole x y shift k t few small f g d w scale h =
    over_negative bits (pos (suc a)) b _ _ (omega (arith, ints)) (floor_below _ _ a (2 ^ bits) b (omega arith) (pow_pos bits) (negative_between bits 0 (suc a) b whole x y shift k t few (omega (arith, small)) (near_value true x (suc a) 0 (suc a) f.exact (omega arith)) d w g.exact scale h)) (narrow t h.integer)
quotient_lane bits (negsuc a) (negsuc b) whole x y shift k t few small f g d w scale h =
    over_negative bits (negsuc a) b _ _ (omega (arith, ints)) (floor_above _ _ (suc a) (2 ^ bits) b (omega arith) (negative_between bits (suc a) 0 b whole x y shift k t few (omega (arith, small)) (near_value false x (suc a) (suc a) 0 f.exact (omega arith)) d w g.exact scale h)) (narrow t h.integer)
quotient_lane bits a (pos zero) whole x y shift k t few small f g d w scale h =
    absurd (no_quotient _ y (signed_finite false y g.exact.sign) (omega (arith, exactly false y 0 1 g.exact)) (strict_finite _ t h))

-- ---- the steps of `quotient_floors` in one lane

low_is : of_bits binary64 4841369599423283200 ≡ fin false 1 (pos 52)
unfolding of_bits
low_is = refl

high_is : of_bits binary64 4845873199050653696 ≡ fin false 1 (pos 53)
unfolding of_bits
high_is = refl

unit_is : of_bits binary64 4607182418800017408 ≡ unit
unfolding of_bits
unit_is = refl

high_fits : T (fits binary64 (fin false 1 (pos 53)))
unfolding fits
high_fits = tt

integer_from : (t : Float) → T (fits binary64 t) → T (le (fin false 1 (pos 52)) t) → T (lt t (fin false 1 (pos 53))) → IsInteger t (positive_part t)
integer_from t p l h =
    let f = finite_between (fin false 1 (pos 52)) t (fin false 1 (pos 53)) tt tt l (order.le_of_lt _ _ h) in
    let low : 2 ^ 52 * denominator t + negative_part t ≤ positive_part t = omega (arith, le_value (fin false 1 (pos 52)) t tt f l) in
    let w = large_whole t p f low in
    let high : positive_part t * 1 + 0 * denominator t < 1 * 2 ^ 53 * denominator t + negative_part t * 1 = less_value _ _ (denominator t) t (fin false 1 (pos 53)) (denominator_pos t) (itself t p f) high_fits h in
    record {
      finite = f;
      size = refl;
      whole = w.0;
      from_zero = w.1;
      low = omega (arith, w.0, w.1);
      high = omega (arith, w.0, w.1);
    }

pub integer_lane : (ts : List Float) (k : ℕ) → k < 4 → T (fits binary64 (lane ts k)) → T (le (of_bits binary64 4841369599423283200) (lane ts k))
    → T (lt (lane ts k) (lane (of_bits binary64 4845873199050653696 ∷ of_bits binary64 4845873199050653696 ∷ of_bits binary64 4845873199050653696 ∷ of_bits binary64 4845873199050653696 ∷ []) k)) → IsInteger (lane ts k) (positive_part (lane ts k))
integer_lane ts k l p low high =
    integer_from (lane ts k) p (subst (λ (y : Float). T (le y (lane ts k))) low_is low)
    (subst (λ (y : Float). T (lt (lane ts k) y)) (get_or-replicate 4 k (of_bits binary64 4845873199050653696) nan l ∙ high_is) high)

pub strict_lane : (t n m p : Float) → n ≡ sub binary64 t (of_bits binary64 4843621399236968448) → m ≡ add binary64 n (of_bits binary64 4607182418800017408) → IsInteger t (positive_part t) → T (lt n p) → T (lt p m) → IsStrictFloor p t
strict_lane t n m p e f h a b =
    let g : n ≡ sub binary64 t middle = e ∙ ap (sub binary64 t) middle_is in
    record {
      integer = h;
      above = subst (λ (y : Float). T (lt y p)) g a;
      below = subst (λ (y : Float). T (lt p y)) (f ∙ (λ i. add binary64 (g i) (unit_is i))) b;
    }

pub integer_number : (t : Float) (n : ℕ) → IsInteger t n → NotNan t
unfolding is_nan
integer_number nan n h = absurd h.finite
integer_number (inf s) n h = absurd h.finite
integer_number (fin s m e) n h = tt

pub power_small : (bits : ℕ) → bits ≤ 53 → 1 * 2 ^ bits % 18446744073709551616 ≡ 2 ^ bits
power_small bits h = omega (arith, pow_mono {i = bits} {j = 53} h)

-- 1/2
pub shift_value : (whole : Bool) → IsTrue whole → IsDifference (of_bits binary64 4602678819172646912) (shift_of whole) 0 2
shift_value whole e = rw (e, half_is) half_value

-- what the remainder of 0 says of a divisor
pub whole_is : (bits : ℕ) (b : ℤ) (n : ℕ) → bits ≤ 53 → pos 0 <ℤ b → SFits w64 b → n ≡ of_z w64 (to_z w64 (of_z w64 b)) → IsTrue (eqb (n % (1 * 2 ^ bits % 18446744073709551616)) 0) → IsWhole bits b
whole_is bits (pos b) n few some f e t = by (b / 2 ^ bits) (div-add-mod' b (2 ^ bits))
  where
    none : b % 2 ^ bits ≡ 0
    none =
        let is : n ≡ b = omega (arith, ints, e, f.sfits) in
        let z : n % (1 * 2 ^ bits % 18446744073709551616) ≡ 0 = eqb→eq _ 0 (subst T (sym t) tt) in
        ap (λ (k : ℕ). k % 2 ^ bits) (sym is) ∙ ap (λ (k : ℕ). n % k) (sym (power_small bits few)) ∙ z

    by : (q : ℕ) → q * 2 ^ bits + b % 2 ^ bits ≡ b → IsWhole bits (pos b)
    by zero g = absurd (omega (arith, ints, none, some))
    by (suc k) g = (k, omega (arith, none))
whole_is bits (negsuc b) n few some f e t = absurd (omega (arith, ints, some))
