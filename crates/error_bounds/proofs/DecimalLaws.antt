-- A decimal was read as its constant, and its negative as the negative constant.
use Rattle.std.proofs.Common.{◌≡◌, ℕ, ◌*◌, ◌^◌, ◌<◌, suc, ℤ, pos, negsuc, neg_ℤ, ◌-ℤ◌, ◌*ℤ◌, ◌≤ℤ◌, false, sym, ap, subst, ◌∙◌, arith}
use Rattle.std.proofs.Math.IntN.{*ℤ_comm}
use Rattle.std.proofs.lemmas.Int.{ints}
use Rattle.fixed.specs.Constants.{IsConstantOf, error, negated}
use Rattle.fixed.specs.Rounding.{IsFloor}
use Rattle.fixed.specs.declared.constants.Constant.{Constant}
use Rattle.derivative.specs.Exact.{Numbers, integer, whole}
use Rattle.error_bounds.specs.Approximations.{scale}
use Rattle.error_bounds.specs.Meanings.{IsDecimal, WasRead}
use Rattle.error_bounds.specs.Ordered.{AreOrdered, AtMost, IsBetween}
use Rattle.error_bounds.proofs.Between as between
use Rattle.error_bounds.proofs.IntegerProducts.{negative_times, times_minus, times_multiple, times_times}
use Rattle.error_bounds.proofs.Integers as integers
use Rattle.error_bounds.proofs.JumpLaws as jump

-- ---- integers

-- the scale times m is 256 times the decimal's numerator
scale_is : (p m : ℕ) → pos (256 * p) *ℤ pos m ≡ pos 256 *ℤ pos (m * p)
scale_is p m = times_times (pos 256) (pos p) (pos m) ∙ ap (λ z. pos 256 *ℤ z) (*ℤ_comm (pos p) (pos m))

-- t (256 v - low) is at least 256 n, if low is at most the error of v for n / t
at_least : (v low : ℤ) (t n : ℕ) → pos 0 ≤ℤ (error n t v -ℤ low *ℤ pos t) → (pos 256 *ℤ pos n) ≤ℤ (pos t *ℤ (pos 256 *ℤ v -ℤ low))
at_least v low t n p =
    omega (arith, ints, p, times_minus (pos t) (pos 256 *ℤ v) low, times_multiple (pos 256) (pos t) v, *ℤ_comm (pos t) v, *ℤ_comm (pos t) low)

-- t (256 v - high) is at most 256 n, if high is at least the error of v for n / t
at_most : (v high : ℤ) (t n : ℕ) → pos 0 ≤ℤ (neg_ℤ (error n t v) -ℤ neg_ℤ high *ℤ pos t)
    → (pos t *ℤ (pos 256 *ℤ v -ℤ high)) ≤ℤ (pos 256 *ℤ pos n)
at_most v high t n p =
    omega (
      arith,
      ints,
      p,
      negative_times high (pos t),
      times_minus (pos t) (pos 256 *ℤ v) high,
      times_multiple (pos 256) (pos t) v,
      *ℤ_comm (pos t) v,
      *ℤ_comm (pos t) high,
    )

-- what a floor is taken over is above 0
above_zero : (n q : ℤ) (t : ℕ) → IsFloor n (pos t) q → 0 < t
above_zero n q t f =
    let p = f.at_most in
    let r = f.next_above in
    omega (arith, ints, p, r)

module _ {V : Type 0} (k : Numbers V) (h : AreOrdered k) (bits : ℕ) where
  open k.ring use {times}
  open h.are_exact use {is_ring as laws}

  -- ---- decimals

  -- x <= y, if x and y are equal to numbers of which it holds
  by_equals : (x y u v : V) → x ≡ u → y ≡ v → AtMost k u v → AtMost k x y
  by_equals x y u v e f p = ap (λ s. k.is_at_most s y) e ∙ ap (k.is_at_most u) f ∙ p

  -- if t x = m, then t times x in error units is the scale times m
  in_units : (t m : ℕ) (x : V) → times (whole k.ring t) x ≡ whole k.ring m
      → times (whole k.ring t) (times (whole k.ring (scale bits)) x) ≡ integer k.ring (pos (scale bits) *ℤ pos m)
  in_units t m x e =
      let a : V = whole k.ring t in
      let s : V = whole k.ring (scale bits) in
      sym (laws.times_assoc a s x) ∙ ap (λ z. times z x) (laws.times_comm a s) ∙ laws.times_assoc s a x ∙ ap (times s) e
      ∙ sym (integers.integer_times k h (pos (scale bits)) (pos m))

  -- a number x with t x = m is between the ends that the errors of v for it give
  of_quotient : (t m : ℕ) (v low high : ℤ) (x : V) → times (whole k.ring t) x ≡ whole k.ring m
      → IsFloor (error (m * 2 ^ bits) t v) (pos t) low → IsFloor (neg_ℤ (error (m * 2 ^ bits) t v)) (pos t) (neg_ℤ high)
      → IsBetween k (scale bits) (pos 256 *ℤ v -ℤ high) (pos 256 *ℤ v -ℤ low) x
  of_quotient t m v low high x e f g =
      let a : V = whole k.ring t in
      let u : V = times (whole k.ring (scale bits)) x in
      let l : ℤ = pos 256 *ℤ v -ℤ high in
      let r : ℤ = pos 256 *ℤ v -ℤ low in
      let n : ℤ = pos (scale bits) *ℤ pos m in
      let above : k.is_at_most a k.ring.zero ≡ false = between.unit_above k h t (above_zero _ _ t f) in
      let same : n ≡ pos 256 *ℤ pos (m * 2 ^ bits) = scale_is (2 ^ bits) m in
      let from : (pos t *ℤ l) ≤ℤ n = subst (λ (z : ℤ). (pos t *ℤ l) ≤ℤ z) (sym same) (at_most v high t (m * 2 ^ bits) g.at_most) in
      let to : n ≤ℤ (pos t *ℤ r) = subst (λ (z : ℤ). z ≤ℤ (pos t *ℤ r)) (sym same) (at_least v low t (m * 2 ^ bits) f.at_most) in
      record {
        low = integers.times_cancels k h a (integer k.ring l) u above
            (by_equals (times a (integer k.ring l)) (times a u) (integer k.ring (pos t *ℤ l)) (integer k.ring n)
            (sym (integers.integer_times k h (pos t) l)) (in_units t m x e) (integers.integer_at_most k h (pos t *ℤ l) n from));
        high = integers.times_cancels k h a u (integer k.ring r) above
            (by_equals (times a u) (times a (integer k.ring r)) (integer k.ring n) (integer k.ring (pos t *ℤ r))
            (in_units t m x e) (sym (integers.integer_times k h (pos t) r)) (integers.integer_at_most k h n (pos t *ℤ r) to));
      }

  -- a decimal was read as its constant
  pub decimal_was_read : (m : ℕ) (p : ℤ) (c : Constant) (x : V) → IsConstantOf bits m p c → IsDecimal k m p x → WasRead k bits c x
  decimal_was_read m (pos p) c x is e =
      let same : pos (m * 2 ^ bits * 10 ^ p) ≡ pos (m * 10 ^ p * 2 ^ bits) = ap pos (omega arith) in
      subst (λ (d : Constant). WasRead k bits d x) (sym is)
      (jump.integer_agrees k h bits (m * 10 ^ p) (pos (m * 2 ^ bits * 10 ^ p)) x same (sym e)).near
  decimal_was_read m (negsuc p) c x is e = of_quotient (10 ^ suc p) m c.value c.low c.high x e is.1 is.2

  -- the negative of a number was read as the negative constant
  pub negative_was_read : (c : Constant) (x : V) → WasRead k bits c x → WasRead k bits (negated c) (k.ring.negative x)
  negative_was_read c x w =
      between.wider k h (scale bits) _ _ _ _ (k.ring.negative x) (omega (arith, ints)) (omega (arith, ints))
      (between.of_negative k h (scale bits) (pos 256 *ℤ c.value -ℤ c.high) (pos 256 *ℤ c.value -ℤ c.low) x w)
