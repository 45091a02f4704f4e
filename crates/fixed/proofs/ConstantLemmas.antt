-- Constants: the error of the nearest number is at most half a unit, and a decimal has one constant.
use Rattle.std.proofs.Common.{◌≡◌, ℕ, zero, suc, ◌+◌, ◌*◌, ◌/◌, ◌^◌, ◌<◌, ◌≤◌, min, ℤ, pos, negsuc, neg_ℤ, ◌-ℤ◌, ◌≤ℤ◌, FitsSigned, to_z, of_z, Bool, true, false, ◌&&◌, ◌==◌, if◌then◌else◌, List, length, Result, Ok, Err, IfOk, inl, inr, lit<, arith, refl, sym, ap, ◌∙◌}
use Rattle.std.proofs.lemmas.Bool.{cases_lt}
use Rattle.std.proofs.lemmas.Int.{ints, to_z-of_z}
use Rattle.std.specs.Int.{w16, w128}
use lib.Signed.{mag}
use Rattle.std.proofs.lemmas.Nat.{div_below, mul-le}
use Rattle.std.proofs.Math.Nat.{pow-le-pow_right}
use Rattle.fixed.specs.Arithmetic.{floor_of, floor_over, in_range}
use Rattle.fixed.specs.Constants.{IsConstantOf, IsRead, constant, constant_of, constant_value, error, error_times, with_error}
use Rattle.fixed.specs.NumeralParts.{after_numeral, begins_numeral, constant_reading, numeral_of, reading_of}
use Rattle.fixed.specs.Numerals.{Numeral, mantissa_of, nearest_fixed, power_of_ten, value_of}
use Rattle.fixed.specs.Rounding.{IsFloor, nearest_of}
use Rattle.fixed.specs.declared.constants.Constant.{Constant}
use Rattle.fixed.specs.declared.faults.NumFault.{NumFault}
use Rattle.fixed.specs.declared.faults.NumFault.TheVariants.{BadNumber, NumberRange}
use Rattle.fixed.proofs.FloorLemmas.{floor_of_unique, floor_over_is, floor_unique, nearest_is}
use Rattle.fixed.proofs.TenLemmas.{ten_pos}

-- ---- the error of the nearest integer

-- the error of the nearest integer is at most half a unit
pub half_error : (n b : ℕ) (z : ℤ) → 0 < b → z ≡ nearest_of (pos n) (pos b) → (neg_ℤ (pos (128 * b)) ≤ℤ error n b z) × (error n b z ≤ℤ pos (128 * b))
half_error n b z p e =
    let h = nearest_is (pos n) (pos b) z (omega (arith, ints)) e in
    let l = h.half_below in
    let u = h.half_above in (omega (arith, ints), omega (arith, ints))

-- a floor is within 128 if the dividend is within 128 divisors
pub floor_within : (e : ℤ) (b : ℕ) → 0 < b → neg_ℤ (pos (128 * b)) ≤ℤ e → e ≤ℤ pos (128 * b) → (neg_ℤ (pos 128) ≤ℤ floor_over e b) × (floor_over e b ≤ℤ pos 128)
floor_within e b p least most = at (floor_over e b) (floor_over_is e b p)
  where
    at : (q : ℤ) → IsFloor e (pos b) q → (neg_ℤ (pos 128) ≤ℤ q) × (q ≤ℤ pos 128)
    at (pos q) h = (
      omega (arith, ints),
      elim (cases_lt 128 q) [
        | inl lt ↦ let l = h.at_most in let k = mul-le 129 b q b (omega (arith, lt)) (omega arith) in absurd (omega (arith, ints))
        | inr ge ↦ omega (arith, ints, ge)
      ],
    )
    at (negsuc q) h = (
      elim (cases_lt 127 q) [
        | inl lt ↦ let u = h.next_above in let k = mul-le 128 b q b (omega (arith, lt)) (omega arith) in absurd (omega (arith, ints))
        | inr ge ↦ omega (arith, ints, ge)
      ],
      omega (arith, ints),
    )

small_mag : (q : ℤ) → neg_ℤ (pos 128) ≤ℤ q → q ≤ℤ pos 128 → mag q ≤ 128
small_mag (pos n) l m = omega (arith, ints)
small_mag (negsuc n) l m = omega (arith, ints)

-- a small integer fits 128 bits and 16 bits
module _ (q f : ℤ) (e : q ≡ f) (l : neg_ℤ (pos 128) ≤ℤ f) (m : f ≤ℤ pos 128) where
  same_wide : to_z w128 (of_z w128 q) ≡ f
  same_wide = let k = small_mag f l m in rw e (to_z-of_z w128 f (record { sfits = omega arith }))

  pub small_fits : FitsSigned w16 (to_z w128 (of_z w128 q))
  small_fits = let k = small_mag f l m in rw same_wide (record { sfits = omega arith })

  pub small_same : to_z w16 (of_z w16 (to_z w128 (of_z w128 q))) ≡ f
  small_same = let k = small_mag f l m in rw same_wide (to_z-of_z w16 f (record { sfits = omega arith }))

mag_within : (z : ℤ) (m : ℕ) → neg_ℤ (pos m) ≤ℤ z → z ≤ℤ pos m → mag z ≤ m
mag_within (pos n) m l h = omega (arith, ints, h)
mag_within (negsuc n) m l h = omega (arith, ints, l)

-- the error of the nearest integer for a divisor up to 10^33 fits 128 bits, and so does its negative
module _ (n b : ℕ) (z r : ℤ) (p : 0 < b) (most : b ≤ 10 ^ 33) (near : z ≡ nearest_of (pos n) (pos b)) (is : r ≡ error n b z) where
  bounds : (neg_ℤ (pos (128 * b)) ≤ℤ error n b z) × (error n b z ≤ℤ pos (128 * b))
  bounds = half_error n b z p near

  opposite_bounds : (neg_ℤ (pos (128 * b)) ≤ℤ neg_ℤ (error n b z)) × (neg_ℤ (error n b z) ≤ℤ pos (128 * b))
  opposite_bounds = let h = bounds in (omega (arith, ints, h.1), omega (arith, ints, h.0))

  pub error_wide : to_z w128 (of_z w128 r) ≡ error n b z
  error_wide = let k = mag_within (error n b z) (128 * b) bounds.0 bounds.1 in rw is (to_z-of_z w128 (error n b z) (record { sfits = omega arith }))

  pub error_bounds : (neg_ℤ (pos (128 * b)) ≤ℤ to_z w128 (of_z w128 r)) × (to_z w128 (of_z w128 r) ≤ℤ pos (128 * b))
  error_bounds = rw error_wide bounds

  pub opposite_wide : to_z w128 (of_z w128 (pos 0 -ℤ to_z w128 (of_z w128 r))) ≡ neg_ℤ (error n b z)
  opposite_wide =
      let k = mag_within (neg_ℤ (error n b z)) (128 * b) opposite_bounds.0 opposite_bounds.1 in
      let same : pos 0 -ℤ error n b z ≡ neg_ℤ (error n b z) = omega (arith, ints) in
      rw (error_wide, same) (to_z-of_z w128 (neg_ℤ (error n b z)) (record { sfits = omega arith }))

  pub opposite_error : (neg_ℤ (pos (128 * b)) ≤ℤ to_z w128 (of_z w128 (pos 0 -ℤ to_z w128 (of_z w128 r))))
      × (to_z w128 (of_z w128 (pos 0 -ℤ to_z w128 (of_z w128 r))) ≤ℤ pos (128 * b))
  opposite_error = rw opposite_wide opposite_bounds

-- ---- great powers of ten

-- powers of ten up to 33 fit 128 bits
pub ten_capped : (k : ℕ) → 10 ^ min k 33 ≤ 10 ^ 33
ten_capped k = let m : min k 33 ≤ 33 = omega arith in pow-le-pow_right (lit< tt) m

ten_ge_33 : (k : ℕ) → 33 ≤ k → 10 ^ 33 ≤ 10 ^ k
ten_ge_33 k h = pow-le-pow_right (lit< tt) h

-- a number below 2^100 over a power of ten from 10^33 is nearest to 0
pub tiny_nearest : (n k : ℕ) → n < 2 ^ 100 → 33 ≤ k → nearest_of (pos n) (pos (10 ^ k)) ≡ pos 0
tiny_nearest n k h p =
    let t = ten_ge_33 k p in
    let b : (2 * n + 10 ^ k) / (2 * 10 ^ k) < 1 = div_below (2 * n + 10 ^ k) (2 * 10 ^ k) 1 (omega arith) (omega arith) in
    let z : (2 * n + 10 ^ k) / (2 * 10 ^ k) ≡ 0 = omega arith in
    ap pos z

-- the floor of -256 n / b, for a b above 256 n
abbrev low_of : ℕ → ℤ
low_of zero = pos 0
low_of (suc n) = negsuc 0

tiny_low : (n b : ℕ) → 256 * n < b → floor_of (error n b (pos 0)) (pos b) ≡ low_of n
tiny_low zero b h = sym (floor_unique (error 0 b (pos 0)) b (pos 0) (record { at_most = omega (arith, ints); next_above = omega (arith, ints) }))
tiny_low (suc n) b h = sym (floor_unique (error (suc n) b (pos 0)) b (negsuc 0) (record { at_most = omega (arith, ints); next_above = omega (arith, ints) }))

tiny_high : (n b : ℕ) → 256 * n < b → floor_of (neg_ℤ (error n b (pos 0))) (pos b) ≡ pos 0
tiny_high n b h = sym (floor_unique (neg_ℤ (error n b (pos 0))) b (pos 0) (record { at_most = omega (arith, ints); next_above = omega (arith, ints) }))

tiny_error : (n k : ℕ) → n < 2 ^ 100 → 33 ≤ k → with_error (pos 0) (error n (10 ^ k) (pos 0)) (pos (10 ^ k)) ≡ constant (pos 0) (low_of n) (neg_ℤ (pos 0))
tiny_error n k h p =
    let t = ten_ge_33 k p in
    let small : 256 * n < 10 ^ k = omega arith in
    ap (λ (z : ℤ). constant (pos 0) z (neg_ℤ (floor_of (neg_ℤ (error n (10 ^ k) (pos 0))) (pos (10 ^ k))))) (tiny_low n (10 ^ k) small)
    ∙ ap (λ (z : ℤ). constant (pos 0) (low_of n) (neg_ℤ z)) (tiny_high n (10 ^ k) small)

-- an integer that is nearest for a power of ten is nearest for the power 33, if the power is greater
pub nearest_capped : (n k : ℕ) (z : ℤ) → n < 2 ^ 100 → z ≡ nearest_of (pos n) (pos (10 ^ k)) → z ≡ nearest_of (pos n) (pos (10 ^ min k 33))
nearest_capped n k z h e =
    elim (cases_lt 33 k) [
      | inl lt ↦ let m : min k 33 ≡ 33 = omega (arith, lt) in rw m (e ∙ tiny_nearest n k h (omega (arith, lt)) ∙ sym (tiny_nearest n 33 h (omega arith)))
      | inr ge ↦ let m : min k 33 ≡ k = omega (arith, ge) in rw m e
    ]

-- and has the same bounds of its error
pub error_capped : (n k : ℕ) (z : ℤ) → n < 2 ^ 100 → z ≡ nearest_of (pos n) (pos (10 ^ k))
    → with_error z (error n (10 ^ min k 33) z) (pos (10 ^ min k 33)) ≡ with_error z (error n (10 ^ k) z) (pos (10 ^ k))
error_capped n k z h e =
    elim (cases_lt 33 k) [
      | inl lt ↦
          let m : min k 33 ≡ 33 = omega (arith, lt) in
          let zero_is : z ≡ pos 0 = e ∙ tiny_nearest n k h (omega (arith, lt)) in
          rw (m, zero_is) (tiny_error n 33 h (omega arith) ∙ sym (tiny_error n k h (omega (arith, lt))))
      | inr ge ↦ let m : min k 33 ≡ k = omega (arith, ge) in rw m refl
    ]

-- ---- the function and the relation

-- the constant of a decimal is the decimal as it is read
pub constant_is : (bits m : ℕ) (p : ℤ) → IsConstantOf bits m p (constant_of bits m p)
constant_is bits m (pos p) = refl
constant_is bits m (negsuc p) =
    let e = error_times bits m (suc p) (nearest_fixed bits m (negsuc p)) in
    let b = 10 ^ suc p in
    let high : neg_ℤ (neg_ℤ (floor_over (neg_ℤ e) b)) ≡ floor_over (neg_ℤ e) b = omega (arith, ints) in
    (refl, floor_over_is e b (ten_pos (suc p)), rw high (floor_over_is (neg_ℤ e) b (ten_pos (suc p))))

same_parts : (c : Constant) (z l h : ℤ) → c.value ≡ z → c.low ≡ l → c.high ≡ h → c ≡ constant z l h
same_parts c z l h a b d = rw (sym a, sym b, sym d) refl

-- a decimal that is read as a constant is read as the constant of the decimal
pub constant_unique : (bits m : ℕ) (p : ℤ) (c : Constant) → IsConstantOf bits m p c → c ≡ constant_of bits m p
constant_unique bits m (pos p) c h = h
constant_unique bits m (negsuc p) c (v, l, u) =
    let k = suc p in
    let z = nearest_fixed bits m (negsuc p) in
    let low : c.low ≡ floor_of (error_times bits m k z) (pos (10 ^ k)) = floor_of_unique _ _ _ l ∙ ap (λ (x : ℤ). floor_of (error_times bits m k x) (pos (10 ^ k))) v in
    let below : neg_ℤ c.high ≡ floor_of (neg_ℤ (error_times bits m k z)) (pos (10 ^ k)) = floor_of_unique _ _ _ u ∙ ap (λ (x : ℤ). floor_of (neg_ℤ (error_times bits m k x)) (pos (10 ^ k))) v in
    let twice : c.high ≡ neg_ℤ (neg_ℤ c.high) = omega (arith, ints) in
    same_parts c z _ _ v low (twice ∙ ap neg_ℤ below)

-- ---- readings

-- a constant that is read has the number that is read
module _ (bits : ℕ) (text : List ℕ) where
  abbrev n : Numeral
  n = numeral_of text

  of_range : (c : Constant) (r : Bool) → (if r then Ok (constant_of bits (mantissa_of n) (power_of_ten n)) else Err NumberRange) ≡ Ok c
      → (if r then Ok (nearest_fixed bits (mantissa_of n) (power_of_ten n)) else Err NumberRange) ≡ Ok c.value
  of_range c false e = absurd cc
  of_range c true e =
      let same : constant_of bits (mantissa_of n) (power_of_ten n) ≡ c = cc in
      ap (λ (z : ℤ). Ok z) (sym (value_is (mantissa_of n) (power_of_ten n)) ∙ ap (λ (d : Constant). d.value) same)
    where
      value_is : (m : ℕ) (p : ℤ) → (constant_of bits m p).value ≡ nearest_fixed bits m p
      value_is m (pos p) = refl
      value_is m (negsuc p) = refl

  of_whole : (c : Constant) (w : Bool) → (if w then constant_value bits n else Err BadNumber) ≡ Ok c → (if w then value_of bits n else Err BadNumber) ≡ Ok c.value
  of_whole c false e = absurd cc
  of_whole c true e = of_range c (in_range (nearest_fixed bits (mantissa_of n) (power_of_ten n))) e

  out_of_range : (f : NumFault) (r : Bool) → ◌≡◌ {A = Result Constant NumFault} (if r then Ok (constant_of bits (mantissa_of n) (power_of_ten n)) else Err NumberRange) (Err f)
      → ◌≡◌ {A = Result ℤ NumFault} (if r then Ok (nearest_fixed bits (mantissa_of n) (power_of_ten n)) else Err NumberRange) (Err f)
  out_of_range f true e = absurd cc
  out_of_range f false e = let same : NumberRange ≡ f = cc in ap (λ (x : NumFault). Err x) same

  no_whole : (f : NumFault) (w : Bool) → ◌≡◌ {A = Result Constant NumFault} (if w then constant_value bits n else Err BadNumber) (Err f)
      → ◌≡◌ {A = Result ℤ NumFault} (if w then value_of bits n else Err BadNumber) (Err f)
  no_whole f false e = let same : BadNumber ≡ f = cc in ap (λ (x : NumFault). Err x) same
  no_whole f true e = out_of_range f (in_range (nearest_fixed bits (mantissa_of n) (power_of_ten n))) e

  pub constant_read : (c : Constant) → constant_reading bits text ≡ Ok c → reading_of bits text ≡ Ok c.value
  unfolding constant_reading reading_of
  constant_read c e = of_whole c (begins_numeral text && length (after_numeral text) == 0) e

  -- a text that is no constant is no number, for the same reason
  pub constant_refused : (f : NumFault) → constant_reading bits text ≡ Err f → reading_of bits text ≡ Err f
  unfolding constant_reading reading_of
  constant_refused f e = no_whole f (begins_numeral text && length (after_numeral text) == 0) e

  -- the bounds of its error are at most half a unit
  is_read : (m : ℕ) (p : ℤ) → IsRead (constant_of bits m p)
  is_read m (pos p) = record { least = omega (arith, ints); low = omega (arith, ints); low_most = omega (arith, ints); high = omega (arith, ints); high_most = omega (arith, ints) }
  is_read m (negsuc p) =
      let b = 10 ^ suc p in
      let z = nearest_fixed bits m (negsuc p) in
      let h = half_error (m * 2 ^ bits) b z (ten_pos (suc p)) refl in
      let low = floor_within (error (m * 2 ^ bits) b z) b (ten_pos (suc p)) h.0 h.1 in
      let high = floor_within (neg_ℤ (error (m * 2 ^ bits) b z)) b (ten_pos (suc p)) (omega (arith, ints, h.1)) (omega (arith, ints, h.0)) in
      record { least = omega (arith, ints); low = low.0; low_most = low.1; high = omega (arith, ints, high.1); high_most = omega (arith, ints, high.0) }

  read_range : (r : Bool) → IfOk {E = NumFault} (if r then Ok (constant_of bits (mantissa_of n) (power_of_ten n)) else Err NumberRange) IsRead
  read_range true = is_read (mantissa_of n) (power_of_ten n)
  read_range false = tt

  read_whole : (w : Bool) → IfOk (if w then constant_value bits n else Err BadNumber) IsRead
  read_whole true = read_range (in_range (nearest_fixed bits (mantissa_of n) (power_of_ten n)))
  read_whole false = tt

  pub constant_within : IfOk (constant_reading bits text) IsRead
  unfolding constant_reading
  constant_within = read_whole (begins_numeral text && length (after_numeral text) == 0)
