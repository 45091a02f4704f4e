-- Each row of the table, over dual numbers.
use Rattle.std.proofs.Common.{◌≡◌, ◌≢◌, ℕ, zero, suc, ◌+◌, ◌-◌, ◌==◌, pos, negsuc, Bool, true, false, Some, refl, sym, ap, ◌∙◌, arith, ne_eqb}
use Rattle.fixed.specs.declared.operations.Function.TheVariants as f
use Rattle.derivative.specs.Slope.{product_row, quotient_row, applied_row, power_row}
use Rattle.derivative.specs.Exact.{Numbers, AreExact, minus, whole, power, exact}
use Rattle.derivative.specs.DualNumbers.{dual}
use Rattle.derivative.proofs.RingLaws as ring
use Rattle.derivative.proofs.ExactLaws.{cancel_times, one_not_zero, power_not_zero, product_not_zero, two_not_zero}

module _ {V : Type 0} (k : Numbers V) (h : AreExact k) where
  open k.ring use {zero as o, one as i, plus, times, negative as neg}

  -- ---- constant parts

  -- x' is 0: x' y + x y' = x y'
  pub left_constant : (x0 x1 y0 y1 : V) → x1 ≡ o → plus (times x1 y0) (times x0 y1) ≡ times x0 y1
  left_constant x0 x1 y0 y1 e =
      ap (λ s. plus (times s y0) (times x0 y1)) e ∙ ap (λ s. plus s (times x0 y1)) (ring.zero_times k.ring h.is_ring y0)
      ∙ ring.zero_plus k.ring h.is_ring (times x0 y1)

  -- y' is 0: x' y + x y' = x' y
  pub right_constant : (x0 x1 y0 y1 : V) → y1 ≡ o → plus (times x1 y0) (times x0 y1) ≡ times x1 y0
  right_constant x0 x1 y0 y1 e =
      ap (λ s. plus (times x1 y0) (times x0 s)) e ∙ ap (plus (times x1 y0)) (ring.times_zero k.ring h.is_ring x0) ∙ h.is_ring.plus_zero (times x1 y0)

  -- both are 0
  pub both_constant : (x0 x1 y0 y1 : V) → x1 ≡ o → y1 ≡ o → plus (times x1 y0) (times x0 y1) ≡ o
  both_constant x0 x1 y0 y1 ex ey = left_constant x0 x1 y0 y1 ex ∙ ap (times x0) ey ∙ ring.times_zero k.ring h.is_ring x0

  -- ---- products

  -- the row of a product is the slope of the dual one
  pub product_is : (p q : Bool) (x0 x1 y0 y1 : V) → (p ≡ true → x1 ≡ o) → (q ≡ true → y1 ≡ o)
      → product_row (exact k) p q (Some x0) (Some y0) (Some x1) (Some y1) ≡ Some (plus (times x1 y0) (times x0 y1))
  product_is true q x0 x1 y0 y1 hx hy = ap Some (sym (left_constant x0 x1 y0 y1 (hx refl)))
  product_is false true x0 x1 y0 y1 hx hy = ap Some (sym (right_constant x0 x1 y0 y1 (hy refl)))
  product_is false false x0 x1 y0 y1 hx hy = refl

  -- ---- quotients: q d = n, and q' d + q d' = n'

  -- the row of a quotient gives q'
  pub quotient_is : (p q : Bool) (n0 n1 d0 d1 q0 q1 : V) → (p ≡ true → n1 ≡ o) → (q ≡ true → d1 ≡ o) → d0 ≢ o
      → times q0 d0 ≡ n0 → plus (times q1 d0) (times q0 d1) ≡ n1
      → quotient_row (exact k) p q (Some n0) (Some d0) (Some n1) (Some d1) ≡ Some q1
  quotient_is p true n0 n1 d0 d1 q0 q1 hn hd some e0 e1 = h.quotient_there n1 d0 q1 some (sym (right_constant q0 q1 d0 d1 (hd refl)) ∙ e1)
  quotient_is true false n0 n1 d0 d1 q0 q1 hn hd some e0 e1 =
      let nothing : times n1 d0 ≡ o = ap (λ s. times s d0) (hn refl) ∙ ring.zero_times k.ring h.is_ring d0 in
      h.quotient_there (neg (times n0 d1)) (times d0 d0) q1 (product_not_zero k h d0 d0 some some)
      (ring.quotient_slope k.ring h.is_ring q0 q1 d0 d1 n0 n1 e0 e1 ∙ ap (λ s. minus k.ring s (times n0 d1)) nothing
      ∙ ring.zero_plus k.ring h.is_ring (neg (times n0 d1)))
  quotient_is false false n0 n1 d0 d1 q0 q1 hn hd some e0 e1 =
      h.quotient_there (minus k.ring (times n1 d0) (times n0 d1)) (times d0 d0) q1 (product_not_zero k h d0 d0 some some)
      (ring.quotient_slope k.ring h.is_ring q0 q1 d0 d1 n0 n1 e0 e1)

  -- the quotient of constants
  pub constant_quotient : (n1 d0 d1 q0 q1 : V) → d0 ≢ o → plus (times q1 d0) (times q0 d1) ≡ n1 → n1 ≡ o → d1 ≡ o → q1 ≡ o
  constant_quotient n1 d0 d1 q0 q1 some e1 en ed = h.no_zero_divisors q1 d0 (sym (right_constant q0 q1 d0 d1 ed) ∙ e1 ∙ en) some

  -- Conversely, if the row gives q', then q' d + q d' = n'.
  pub quotient_back : (n0 n1 d0 d1 q0 q1 : V) → times q0 d0 ≡ n0 → d0 ≢ o → times q1 (times d0 d0) ≡ minus k.ring (times n1 d0) (times n0 d1)
      → plus (times q1 d0) (times q0 d1) ≡ n1
  quotient_back n0 n1 d0 d1 q0 q1 e0 some e1 =
      cancel_times k h (plus (times q1 d0) (times q0 d1)) n1 d0 some (ring.slope_quotient k.ring h.is_ring q0 q1 d0 d1 n0 n1 e0 e1)

  -- ---- roots: y y = x, and y' y + y y' = x'

  -- If y isn't 0, then 2 y isn't 0.
  pub twice_not_zero : (y : V) → y ≢ o → times (whole k.ring 2) y ≢ o
  twice_not_zero y some = product_not_zero k h (whole k.ring 2) y (two_not_zero k h) some

  -- the row of a root gives y'
  pub root_is : (x0 x1 y0 y1 : V) → k.root x0 ≡ Some y0 → y0 ≢ o → plus (times y1 y0) (times y0 y1) ≡ x1
      → applied_row (exact k) f.SquareRoot (Some x0) (Some x1) ≡ Some y1
  root_is x0 x1 y0 y1 e some e1 =
      rw e (h.quotient_there x1 (times (whole k.ring 2) y0) y1 (twice_not_zero y0 some) (ring.root_slope k.ring h.is_ring y0 y1 ∙ e1))

  -- the root of a constant
  pub constant_root : (x1 y0 y1 : V) → y0 ≢ o → plus (times y1 y0) (times y0 y1) ≡ x1 → x1 ≡ o → y1 ≡ o
  constant_root x1 y0 y1 some e1 ex =
      h.no_zero_divisors y1 (times (whole k.ring 2) y0) (ring.root_slope k.ring h.is_ring y0 y1 ∙ e1 ∙ ex) (twice_not_zero y0 some)

  -- ---- powers

  -- the value of a power of a dual number
  pub power_value : (n : ℕ) (x : V × V) → (power (dual k.ring) x n).0 ≡ power k.ring x.0 n
  power_value zero x = refl
  power_value (suc n) x = ap (λ s. times s x.0) (power_value n x)

  -- the slope of the power 1
  pub power_one : (x : V × V) → (power (dual k.ring) x 1).1 ≡ x.1
  power_one x = left_constant i o x.0 x.1 refl ∙ ring.one_times k.ring h.is_ring x.1

  -- the slope of the power n + 1
  pub power_is : (n : ℕ) (x : V × V) → (power (dual k.ring) x (suc n)).1 ≡ times (times (whole k.ring (suc n)) (power k.ring x.0 n)) x.1
  power_is zero x =
      let one : times (whole k.ring 1) i ≡ i = h.is_ring.times_one (plus o i) ∙ ring.zero_plus k.ring h.is_ring i in
      left_constant i o x.0 x.1 refl ∙ ap (λ s. times s x.1) (sym one)
  power_is (suc n) x =
      ap (λ s. plus (times s x.0) (times (power (dual k.ring) x (suc n)).0 x.1)) (power_is n x)
      ∙ ap (λ s. plus (times (times (times (whole k.ring (suc n)) (power k.ring x.0 n)) x.1) x.0) (times s x.1)) (power_value (suc n) x)
      ∙ ring.next_power k.ring h.is_ring n x.0 x.1

  -- the row of a power is the slope of the dual one
  pub power_row_is : (n : ℕ) (x : V × V) → power_row (exact k) (Some x.0) (pos n) (Some x.1) ≡ Some (power (dual k.ring) x n).1
  power_row_is zero x = ap Some (ap (λ s. times s x.1) (ring.zero_times k.ring h.is_ring i) ∙ ring.zero_times k.ring h.is_ring x.1)
  power_row_is (suc zero) x = ap Some (sym (power_one x))
  power_row_is (suc (suc n)) x =
      let test : (suc (suc n) == 1) ≡ false = ne_eqb (suc (suc n)) 1 (λ e. omega arith) in
      let lower : suc (suc n) - 1 ≡ suc n = omega arith in
      rw (test, lower) (ap Some (sym (power_is (suc n) x)))

  -- the power of a constant
  pub constant_power : (n : ℕ) (x : V × V) → x.1 ≡ o → (power (dual k.ring) x n).1 ≡ o
  constant_power zero x e = refl
  constant_power (suc n) x e =
      power_is n x ∙ ap (times (times (whole k.ring (suc n)) (power k.ring x.0 n))) e ∙ ring.times_zero k.ring h.is_ring (times (whole k.ring (suc n)) (power k.ring x.0 n))

  -- ---- reciprocals of powers: y x^n = 1, with n = m + 1

  -- a number that has a power other than 0 is not 0
  pub base_not_zero : (m : ℕ) (x : V) → power k.ring x (suc m) ≢ o → x ≢ o
  base_not_zero m x some e = some (ap (times (power k.ring x m)) e ∙ ring.times_zero k.ring h.is_ring (power k.ring x m))

  -- a number with a reciprocal is not 0
  pub divisor_not_zero : (y p : V) → times y p ≡ i → p ≢ o
  divisor_not_zero y p e ep = one_not_zero k h (sym e ∙ ap (times y) ep ∙ ring.times_zero k.ring h.is_ring y)

  -- n x^(n - 1) x', with n = m + 1
  abbrev power_slope_of : ℕ → V → V → V
  power_slope_of m x0 x1 = times (times (whole k.ring (suc m)) (power k.ring x0 m)) x1

  reciprocal_quotient : (m : ℕ) (x0 x1 y0 y1 : V) → times y0 (power k.ring x0 (suc m)) ≡ i
      → plus (times y1 (power k.ring x0 (suc m))) (times y0 (power_slope_of m x0 x1)) ≡ o
      → times (neg y1) (power k.ring x0 (suc (suc m))) ≡ times (whole k.ring (suc m)) x1
  reciprocal_quotient m x0 x1 y0 y1 e0 e1 =
      let p : V = power k.ring x0 (suc m) in
      let rest : V = times y0 (power_slope_of m x0 x1) in
      let moved : times (neg y1) p ≡ rest =
      ring.negative_times k.ring h.is_ring y1 p ∙ ap neg (ring.negative_unique k.ring h.is_ring (times y1 p) rest e1) ∙ ring.negative_twice k.ring h.is_ring rest in
      sym (h.is_ring.times_assoc (neg y1) p x0) ∙ ap (λ s. times s x0) moved ∙ ring.reciprocal_slope k.ring h.is_ring m x0 x1 y0 e0

  -- the row of a power below 0 gives y'
  pub reciprocal_row_is : (m : ℕ) (x0 x1 y0 y1 : V) → times y0 (power k.ring x0 (suc m)) ≡ i
      → plus (times y1 (power k.ring x0 (suc m))) (times y0 (power_slope_of m x0 x1)) ≡ o
      → power_row (exact k) (Some x0) (negsuc m) (Some x1) ≡ Some y1
  reciprocal_row_is m x0 x1 y0 y1 e0 e1 =
      let some : x0 ≢ o = base_not_zero m x0 (divisor_not_zero y0 (power k.ring x0 (suc m)) e0) in
      let next : m + 1 ≡ suc m = omega arith in
      let after : m + 2 ≡ suc (suc m) = omega arith in
      let there : k.quotient (times (whole k.ring (suc m)) x1) (power k.ring x0 (suc (suc m))) ≡ Some (neg y1) =
      h.quotient_there (times (whole k.ring (suc m)) x1) (power k.ring x0 (suc (suc m))) (neg y1) (power_not_zero k h (suc (suc m)) x0 some)
      (reciprocal_quotient m x0 x1 y0 y1 e0 e1) in
      rw (next, after, there) (ap Some (ring.negative_twice k.ring h.is_ring y1))

  -- the reciprocal of a constant's power
  pub constant_reciprocal : (m : ℕ) (x0 x1 y0 y1 : V) → times y0 (power k.ring x0 (suc m)) ≡ i
      → plus (times y1 (power k.ring x0 (suc m))) (times y0 (power_slope_of m x0 x1)) ≡ o → x1 ≡ o → y1 ≡ o
  constant_reciprocal m x0 x1 y0 y1 e0 e1 ex =
      let flat : power_slope_of m x0 x1 ≡ o = ap (times (times (whole k.ring (suc m)) (power k.ring x0 m))) ex ∙ ring.times_zero k.ring h.is_ring (times (whole k.ring (suc m)) (power k.ring x0 m)) in
      h.no_zero_divisors y1 (power k.ring x0 (suc m)) (sym (right_constant y0 y1 (power k.ring x0 (suc m)) (power_slope_of m x0 x1) flat) ∙ e1)
      (divisor_not_zero y0 (power k.ring x0 (suc m)) e0)

  -- Conversely, if t x^(n + 1) = n x', then -t is the derivative of y.
  pub reciprocal_back : (m : ℕ) (x0 x1 y0 t : V) → times y0 (power k.ring x0 (suc m)) ≡ i
      → times t (power k.ring x0 (suc (suc m))) ≡ times (whole k.ring (suc m)) x1
      → plus (times (neg t) (power k.ring x0 (suc m))) (times y0 (power_slope_of m x0 x1)) ≡ o
  reciprocal_back m x0 x1 y0 t e0 e1 =
      let p : V = power k.ring x0 (suc m) in
      let rest : V = times y0 (power_slope_of m x0 x1) in
      let some : x0 ≢ o = base_not_zero m x0 (divisor_not_zero y0 p e0) in
      let same : times t p ≡ rest =
      cancel_times k h (times t p) rest x0 some
      (h.is_ring.times_assoc t p x0 ∙ e1 ∙ sym (ring.reciprocal_slope k.ring h.is_ring m x0 x1 y0 e0)) in
      ap (λ s. plus s rest) (ring.negative_times k.ring h.is_ring t p ∙ ap neg same) ∙ ring.negative_plus k.ring h.is_ring rest
