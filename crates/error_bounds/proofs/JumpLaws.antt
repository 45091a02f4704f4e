-- Inputs, minima, maxima, absolute values, flat functions and choices: exact results are as near to the computed ones as
-- the rules say.
use Rattle.std.proofs.Common.{◌≡◌, ℕ, ◌*◌, ◌^◌, ℤ, pos, negsuc, neg_ℤ, ◌-ℤ◌, ◌*ℤ◌, ◌≤ℤ◌, ◌<ℤ◌, unsigned_abs, Bool, true, false, Some, Ok, if◌then◌else◌, refl, sym, ap, subst, inl, inr, arith, ◌⊎◌, int_le, ◌&&◌}
use Rattle.std.specs.Int.{int_max, int_min}
use Rattle.std.proofs.lemmas.Bool.{and_parts}
use Rattle.std.proofs.lemmas.Int.{ints, clamps}
use Rattle.std.proofs.lemmas.Option.{same_Some}
use Rattle.fixed.specs.Arithmetic as fixed
use Rattle.fixed.specs.Arithmetic.{is_zero, one}
use Rattle.fixed.specs.declared.constants.Constant.{Constant}
use Rattle.fixed.specs.declared.operations.FlatFunction.{FlatFunction}
use Rattle.fixed.proofs.IntegerLaws.{zero_alone}
use Rattle.interval_domain.specs.Ranges.{IsIn, Range, has_zero, hull, negated, range}
use Rattle.interval_domain.proofs.OutcomeLemmas.{number_is}
use Rattle.interval_domain.proofs.RangeLemmas.{on_one_side}
use Rattle.derivative.specs.Exact as exact
use Rattle.derivative.specs.Exact.{Numbers, integer, whole}
use Rattle.derivative.proofs.RingLaws.{zero_plus}
use Rattle.error_bounds.specs.Approximations.{Agrees, Approximation, exact_range, scale}
use Rattle.error_bounds.specs.Meanings.{WasRead, WasRoundedDown}
use Rattle.error_bounds.specs.Ordered.{AreOrdered, IsBetween}
use Rattle.error_bounds.specs.Rules.{absolute_error, apart, as_read, distances, either, exactly, flats_of, is_below_zero, is_from_zero, is_not_zero, is_only_zero, maximum_error, minimum_error}
use Rattle.error_bounds.proofs.Between as between
use Rattle.error_bounds.proofs.OrderLaws.{maximum_spread, minimum_spread}
use Rattle.error_bounds.proofs.Bounded as agreement
use Rattle.error_bounds.proofs.Bounded.{scale_above_zero, within_limits_of}
use Rattle.error_bounds.proofs.ChoiceLaws.{either_computes}
use Rattle.error_bounds.proofs.Jumps as jumps
use Rattle.error_bounds.proofs.Tests.{no_twice, only_zero_in}

-- ---- absolute values

-- a is the absolute value of z
abbrev IsAbsolute : (z a : ℤ) → Type 0
IsAbsolute z a = ((pos 0 ≤ℤ z) × (a ≡ z)) ⊎ ((z <ℤ pos 0) × (a ≡ neg_ℤ z))

-- the magnitude is the absolute value
magnitude_is : (z : ℤ) → IsAbsolute z (pos (unsigned_abs z))
magnitude_is (pos n) = inl (omega (arith, ints), refl)
magnitude_is (negsuc n) = inr (omega (arith, ints), refl)

-- so is the computed absolute value
absolute_is : (z a : ℤ) → fixed.absolute_of z ≡ Ok a → IsAbsolute z a
absolute_is z a e = subst (IsAbsolute z) (number_is (pos (unsigned_abs z)) a e) (magnitude_is z)

-- the ends of the exact absolute value follow from the ends of the exact value; lo and hi are a less its errors
record AreEnclosing (l1 h1 lo hi : ℤ) : Type 0 where
  low : (lo ≤ℤ l1) ⊎ (lo ≤ℤ neg_ℤ h1)
  high : h1 ≤ℤ hi
  high_negative : neg_ℤ l1 ≤ℤ hi

-- they enclose it if neither value is negative
enclosing_from_zero : (z a el eh cl : ℤ) → IsAbsolute z a → pos 0 ≤ℤ cl → cl ≤ℤ z → pos 0 ≤ℤ (cl *ℤ pos 256 -ℤ eh) → el ≤ℤ eh
    → AreEnclosing (pos 256 *ℤ z -ℤ eh) (pos 256 *ℤ z -ℤ el) (pos 256 *ℤ a -ℤ eh) (pos 256 *ℤ a -ℤ el)
enclosing_from_zero z a el eh cl m p q r s =
    record { low = inl (omega (arith, ints)); high = omega (arith, ints); high_negative = omega (arith, ints) }

-- they enclose it if both values are negative
enclosing_below_zero : (z a el eh ch : ℤ) → IsAbsolute z a → ch ≤ℤ negsuc 0 → z ≤ℤ ch → (ch *ℤ pos 256 -ℤ el) ≤ℤ negsuc 0 → el ≤ℤ eh
    → AreEnclosing (pos 256 *ℤ z -ℤ eh) (pos 256 *ℤ z -ℤ el) (pos 256 *ℤ a -ℤ neg_ℤ el) (pos 256 *ℤ a -ℤ neg_ℤ eh)
enclosing_below_zero z a el eh ch m p q r s =
    record { low = inr (omega (arith, ints)); high = omega (arith, ints); high_negative = omega (arith, ints) }

-- and whatever the signs
enclosing : (z a el eh : ℤ) → IsAbsolute z a
    → AreEnclosing (pos 256 *ℤ z -ℤ eh) (pos 256 *ℤ z -ℤ el) (pos 256 *ℤ a -ℤ int_max eh (neg_ℤ el)) (pos 256 *ℤ a -ℤ int_min el (neg_ℤ eh))
enclosing z a el eh (inl m) =
    let p = m.0 in let e = m.1 in
    record { low = inl (omega (arith, ints, clamps)); high = omega (arith, ints, clamps); high_negative = omega (arith, ints, clamps) }
enclosing z a el eh (inr m) =
    let p = m.0 in let e = m.1 in
    record { low = inr (omega (arith, ints, clamps)); high = omega (arith, ints, clamps); high_negative = omega (arith, ints, clamps) }

module _ {V : Type 0} (k : Numbers V) (h : AreOrdered k) (bits : ℕ) where
  open k.ring use {zero as o, one as i}

  -- ---- near results

  -- the exact value x is as near to the computed value z as such errors say
  abbrev IsNear : Range → ℤ → V → Type 0
  IsNear = agreement.IsNear k h bits

  -- the exact number is in the range, in error units
  abbrev IsWithin : Range → V → Type 0
  IsWithin e x = IsBetween k (scale bits) e.low e.high x

  -- an exact number that agrees is in the exact range
  in_exact : (p : Approximation) (z : ℤ) (x : V) → Agrees k bits p z x → IsWithin (exact_range p) x
  in_exact p z x a =
      let m = a.computed.at_least in let n = a.computed.at_most in
      between.wider k h (scale bits) _ _ _ _ x (omega (arith, ints)) (omega (arith, ints)) a.near

  -- any computed and any exact result are as near as the errors between them
  apart_near : (c e : Range) (z : ℤ) (x : V) → IsIn z c → IsWithin e x → IsNear (apart c e) z x
  apart_near c e z x inside near =
      between.wider k h (scale bits) _ _ _ _ x (omega (arith, ints, inside.at_most)) (omega (arith, ints, inside.at_least)) near

  -- an exact number in units of another size
  in_units : (m s : ℕ) (lo hi lo' hi' : ℤ) (x : V) → m * s ≡ scale bits → lo' ≤ℤ (pos m *ℤ lo) → (pos m *ℤ hi) ≤ℤ hi'
      → IsBetween k s lo hi x → IsBetween k (scale bits) lo' hi' x
  in_units m s lo hi lo' hi' x e p q b =
      let c = subst (λ t. IsBetween k t (pos m *ℤ lo) (pos m *ℤ hi) x) e (between.rescaled k h m s lo hi x b) in
      between.wider k h (scale bits) (pos m *ℤ lo) (pos m *ℤ hi) lo' hi' x p q c

  -- an integer that is computed exactly
  pub integer_agrees : (n : ℕ) (z : ℤ) (x : V) → z ≡ pos (n * 2 ^ bits) → integer k.ring (pos n) ≡ x → Agrees k bits (exactly z) z x
  integer_agrees n z x e f =
      let b = subst (λ t. IsBetween k (scale bits) (pos (scale bits) *ℤ pos n) (pos (scale bits) *ℤ pos n) t) f
      (between.of_integer k h (scale bits) (pos n)) in
      record {
        computed = record { at_least = omega (arith, ints); at_most = omega (arith, ints) };
        near = between.wider k h (scale bits) _ _ _ _ x (omega (arith, ints)) (omega (arith, ints)) b;
      }

  -- ---- inputs and constants

  -- the bounds of the error are in order if a number was read as the constant
  in_order : (c : Constant) (x : V) (test : Bool) → test ≡ int_le c.low c.high → WasRead k bits c x
      → IsBetween k (scale bits) (pos 256 *ℤ c.value -ℤ (if test then range c.low c.high else range c.high c.low).high)
      (pos 256 *ℤ c.value -ℤ (if test then range c.low c.high else range c.high c.low).low) x
  in_order c x true e r = r
  in_order c x false e r =
      let o = between.ordered k h (scale bits) (pos 256 *ℤ c.value -ℤ c.high) (pos 256 *ℤ c.value -ℤ c.low) x r in
      let f : int_le c.low c.high ≡ false = sym e in
      absurd (omega (arith, ints, o, f))

  -- a number and the constant as which it was read agree with the approximation of the constant
  pub read_agrees : (c : Constant) (x : V) → WasRead k bits c x → Agrees k bits (as_read c) c.value x
  read_agrees c x r = record {
    computed = record { at_least = omega (arith, ints); at_most = omega (arith, ints) };
    near = in_order c x (int_le c.low c.high) refl r;
  }

  -- a distance that was rounded down and the exact one agree with the approximation of distances
  pub distance_agrees : (r : Range) (z : ℤ) (x : V) → IsIn z r → WasRoundedDown k bits z x → Agrees k bits (distances r) z x
  distance_agrees r z x m d =
      record { computed = m; near = in_units 256 (2 ^ bits) _ _ _ _ x refl (omega (arith, ints)) (omega (arith, ints)) d }

  -- a natural number agrees with itself
  pub whole_agrees : (n : ℕ) → Agrees k bits (exactly (pos (n * 2 ^ bits))) (pos (n * 2 ^ bits)) (whole k.ring n)
  whole_agrees n = integer_agrees n (pos (n * 2 ^ bits)) (whole k.ring n) refl refl

  -- 0 agrees with itself
  pub zero_agrees : Agrees k bits (exactly (pos 0)) (pos 0) o
  zero_agrees = integer_agrees 0 (pos 0) o (ap pos (omega arith)) refl

  -- 1 agrees with itself
  pub one_agrees : Agrees k bits (exactly (one bits)) (one bits) i
  one_agrees = integer_agrees 1 (one bits) i (ap pos (omega arith)) (zero_plus k.ring h.are_exact.is_ring i)

  -- ---- order

  -- the exact minimum is as near to the computed one as the rule says
  pub minimum_near : (p q : Approximation) (z w : ℤ) (x y : V) → Agrees k bits p z x → Agrees k bits q w y
      → IsNear (minimum_error p q) (int_min z w) (if k.is_at_most x y then x else y)
  minimum_near p q z w x y a b =
      let spread = minimum_spread p q z w a.computed b.computed (agreement.errors_in_order k h bits p z x a) (agreement.errors_in_order k h bits q w y b) in
      between.wider k h (scale bits) _ _ _ _ _ spread.0 spread.1 (jumps.of_minimum k h (scale bits) _ _ _ _ x y a.near b.near)

  -- and so is the exact maximum
  pub maximum_near : (p q : Approximation) (z w : ℤ) (x y : V) → Agrees k bits p z x → Agrees k bits q w y
      → IsNear (maximum_error p q) (int_max z w) (if k.is_at_most y x then x else y)
  maximum_near p q z w x y a b =
      let spread = maximum_spread p q z w a.computed b.computed (agreement.errors_in_order k h bits p z x a) (agreement.errors_in_order k h bits q w y b) in
      between.wider k h (scale bits) _ _ _ _ _ spread.0 spread.1 (jumps.of_maximum k h (scale bits) _ _ _ _ x y a.near b.near)

  -- the ends of the exact absolute value, by the signs of the operand
  absolute_ends : (p : Approximation) (z a : ℤ) (x : V) (s t : Bool) → is_from_zero p ≡ s → is_below_zero p ≡ t → IsAbsolute z a
      → Agrees k bits p z x
      → AreEnclosing (pos 256 *ℤ z -ℤ p.error.high) (pos 256 *ℤ z -ℤ p.error.low)
      (pos 256 *ℤ a -ℤ (if s then p.error else if t then negated p.error else hull p.error (negated p.error)).high)
      (pos 256 *ℤ a -ℤ (if s then p.error else if t then negated p.error else hull p.error (negated p.error)).low)
  absolute_ends p z a x true t e f m g =
      let u = and_parts (int_le (pos 0) p.computed.low) (int_le (pos 0) (exact_range p).low) e in
      enclosing_from_zero z a p.error.low p.error.high p.computed.low m (omega (arith, ints, u.0)) g.computed.at_least
      (omega (arith, ints, u.1)) (agreement.errors_in_order k h bits p z x g)
  absolute_ends p z a x false true e f m g =
      let u = and_parts (int_le p.computed.high (negsuc 0)) (int_le (exact_range p).high (negsuc 0)) f in
      enclosing_below_zero z a p.error.low p.error.high p.computed.high m (omega (arith, ints, u.0)) g.computed.at_most
      (omega (arith, ints, u.1)) (agreement.errors_in_order k h bits p z x g)
  absolute_ends p z a x false false e f m g = enclosing z a p.error.low p.error.high m

  -- the exact absolute value is as near to the computed one as the rule says
  pub absolute_near : (p : Approximation) (z c : ℤ) (x : V) → Agrees k bits p z x → fixed.absolute_of z ≡ Ok c
      → IsNear (absolute_error p) c (exact.absolute_of k x)
  absolute_near p z c x a e =
      let s = absolute_ends p z c x (is_from_zero p) (is_below_zero p) refl refl (absolute_is z c e) a in
      jumps.of_absolute k h (scale bits) _ _ _ _ x (scale_above_zero bits) a.near s.low s.high s.high_negative

  -- ---- flat functions

  -- the exact value of a flat function is as near to the computed one as the rule says
  pub flat_near : (g : FlatFunction) (p : Approximation) (s : Range) (z c : ℤ) (x : V) → Agrees k bits p z x → IsIn c s
      → IsNear (apart s (flats_of (scale bits) g (exact_range p))) c (exact.flat_value k g x)
  flat_near g p s z c x a inside =
      apart_near s (flats_of (scale bits) g (exact_range p)) c (exact.flat_value k g x) inside
      (jumps.of_flat k h g (scale bits) (exact_range p) x (scale_above_zero bits) (in_exact p z x a))

  -- ---- choices

  -- if the rule finds that an operand isn't 0, its exact value isn't 0
  pub not_zero_agrees : (p : Approximation) (z : ℤ) (x : V) → Agrees k bits p z x → is_not_zero p ≡ true
      → k.is_zero x ≡ false
  not_zero_agrees p z x a e =
      let t = no_twice (has_zero p.computed) (has_zero (exact_range p)) e in
      jumps.not_zero k h (scale bits) _ _ x (scale_above_zero bits) (in_exact p z x a) (on_one_side (exact_range p) t.1)

  -- if the rule finds that an operand is 0, its exact value is 0
  pub only_zero_agrees : (p : Approximation) (z : ℤ) (x : V) → Agrees k bits p z x → is_only_zero p ≡ true
      → k.is_zero x ≡ true
  only_zero_agrees p z x a e =
      let t = and_parts (is_zero p.computed.low && is_zero p.computed.high) (is_zero p.error.low && is_zero p.error.high) e in
      let u = and_parts (is_zero p.error.low) (is_zero p.error.high) t.1 in
      let low = zero_alone p.error.low u.0 in
      let high = zero_alone p.error.high u.1 in
      let zero_z = only_zero_in p.computed z a.computed t.0 in
      jumps.only_zero k h (scale bits) x (scale_above_zero bits)
      (between.wider k h (scale bits) _ _ _ _ x (omega (arith, ints)) (omega (arith, ints)) a.near)

  -- an exact number of one range is in the hull of both
  exact_hull : (y z : Range) (v : V) → (IsWithin y v) ⊎ (IsWithin z v) → IsWithin (hull y z) v
  exact_hull y z v (inl b) = between.wider k h (scale bits) y.low y.high _ _ v (omega (arith, ints, clamps)) (omega (arith, ints, clamps)) b
  exact_hull y z v (inr b) = between.wider k h (scale bits) z.low z.high _ _ v (omega (arith, ints, clamps)) (omega (arith, ints, clamps)) b

  -- an exact number of either approximation is in one of their exact ranges
  either_exact : (p q : Approximation) (z : ℤ) (v : V) → (Agrees k bits p z v) ⊎ (Agrees k bits q z v)
      → (IsWithin (exact_range p) v) ⊎ (IsWithin (exact_range q) v)
  either_exact p q z v (inl a) = inl (in_exact p z v a)
  either_exact p q z v (inr a) = inr (in_exact q z v a)

  -- the computed value is in either range, and the exact value agrees with either approximation
  pub either_agrees : (p q r : Approximation) (c z : ℤ) (v : V) → either p q ≡ Some r → (IsIn c p.computed) ⊎ (IsIn c q.computed)
      → (Agrees k bits p z v) ⊎ (Agrees k bits q z v) → Agrees k bits r c v
  either_agrees p q r c z v rule computed exact =
      let all = hull p.computed q.computed in
      let values = hull (exact_range p) (exact_range q) in
      let w = within_limits_of all (Some (apart all values)) r rule in
      let inside = either_computes p q r c rule computed in
      let found : IsIn c all = subst (IsIn c) (sym w.0) inside in
      record {
        computed = inside;
        near = subst (λ (e : Range). IsNear e c v) (same_Some (apart all values) r.error w.1)
            (apart_near all values c v found (exact_hull (exact_range p) (exact_range q) v (either_exact p q z v exact)));
      }
