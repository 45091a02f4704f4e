-- Exact numbers: numbers other than 0, cancellation, and choices by a step.
use Rattle.std.proofs.Common.{◌≡◌, ◌≢◌, ℕ, zero, suc, Bool, true, false, if◌then◌else◌, Option, Some, None, refl, sym, ap, ◌∙◌}
use Rattle.derivative.specs.Slope.{unless_constant}
use Rattle.derivative.specs.Exact.{Numbers, AreExact, minus, whole, power, on_one, on_two, step_of, selected}
use Rattle.derivative.proofs.RingLaws as ring

-- If an operation on one optional operand has a value, the operand has a value, and the operation has this value
-- at the operand's value.
pub of_one : {V : Type 0} (f : V → Option V) (x : Option V) (z : V) → on_one f x ≡ Some z → (a : V) × (x ≡ Some a) × (f a ≡ Some z)
of_one f None z e = absurd (cc)
of_one f (Some a) z e = (a, refl, e)

-- an operation on two that has a value has both parts, and one for them
pub of_two : {V : Type 0} (f : V → V → Option V) (x y : Option V) (z : V) → on_two f x y ≡ Some z → (a : V) × (b : V) × (x ≡ Some a) × (y ≡ Some b) × (f a b ≡ Some z)
of_two f None y z e = absurd (cc)
of_two f (Some a) None z e = absurd (cc)
of_two f (Some a) (Some b) z e = (a, b, refl, refl, e)

-- a constant's slope is zero
pub unless : {V : Type 0} (o : V) (b : Bool) (s : V) → (b ≡ true → s ≡ o) → unless_constant o b (Some s) ≡ Some s
unless o true s e = ap Some (sym (e refl))
unless o false s e = refl

-- a tree that is no constant has its row's slope
pub varying : {V : Type 0} (o : V) (b : Bool) (x : Option V) (s : V) → b ≡ false → unless_constant o b x ≡ Some s → x ≡ Some s
varying o true x s h e = absurd (cc)
varying o false x s h e = e

module _ {V : Type 0} (k : Numbers V) (h : AreExact k) where
  open k.ring use {zero as o, one as i, plus, times, negative as neg}

  -- 1 is not 0
  pub one_not_zero : i ≢ o
  one_not_zero e = h.two (ap (λ s. plus s i) e ∙ ap (plus o) e ∙ h.is_ring.plus_zero o)

  -- 2 is not 0
  pub two_not_zero : whole k.ring 2 ≢ o
  two_not_zero e = h.two (ap (λ s. plus s i) (sym (ring.zero_plus k.ring h.is_ring i)) ∙ e)

  -- numbers that are equal times z, which is not 0, are equal
  pub cancel_times : (x y z : V) → z ≢ o → times x z ≡ times y z → x ≡ y
  cancel_times x y z some e =
      let nothing : times (minus k.ring x y) z ≡ o =
      ring.minus_times k.ring h.is_ring x y z ∙ ap (λ s. minus k.ring s (times y z)) e ∙ h.is_ring.plus_negative (times y z) in
      let same : minus k.ring x y ≡ o = h.no_zero_divisors (minus k.ring x y) z nothing some in
      ring.cancel k.ring h.is_ring x y (neg y) (same ∙ sym (h.is_ring.plus_negative y))

  -- no product of numbers that are not 0 is 0
  pub product_not_zero : (x y : V) → x ≢ o → y ≢ o → times x y ≢ o
  product_not_zero x y hx hy e = hx (h.no_zero_divisors x y e hy)

  -- no power of a number that is not 0 is 0
  pub power_not_zero : (n : ℕ) (x : V) → x ≢ o → power k.ring x n ≢ o
  power_not_zero zero x hx = one_not_zero
  power_not_zero (suc n) x hx = product_not_zero (power k.ring x n) x (power_not_zero n x hx) hx

  -- a number that is not 0 isn't taken for 0
  pub not_found : (x : V) → x ≢ o → k.is_zero x ≡ false
  not_found x hx = by_test (k.is_zero x) refl
    where
      by_test : (b : Bool) → k.is_zero x ≡ b → b ≡ false
      by_test true e = absurd (hx (h.zero_alone x e))
      by_test false e = refl

  -- 0 is at most y - x exactly if x is at most y.
  pub order_by_difference : (x y : V) → k.is_at_most o (minus k.ring y x) ≡ k.is_at_most x y
  order_by_difference x y =
      sym (h.order_kept o (minus k.ring y x) x)
      ∙ ap (λ s. k.is_at_most s (plus (minus k.ring y x) x)) (ring.zero_plus k.ring h.is_ring x)
      ∙ ap (k.is_at_most x) (ring.minus_plus k.ring h.is_ring y x)

  -- a choice by the step of w
  pub chosen : (b : Bool) (w : V) (du dv : Option V) → k.is_at_most o w ≡ b → selected k (Some (step_of k w)) du dv ≡ (if b then du else dv)
  chosen true w du dv e = rw (e, not_found i one_not_zero) refl
  chosen false w du dv e = rw (e, h.zero_found) refl
