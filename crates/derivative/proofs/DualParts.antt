-- The rows of the table, read back: the values of the parts, if the whole has a value and a derivative.
use Rattle.std.proofs.Common.{◌≡◌, ◌≢◌, ℕ, suc, ◌+◌, negsuc, Bool, true, false, Option, Some, None, refl, sym, ap, ◌∙◌, arith}
use Rattle.std.proofs.lemmas.Option.{same_Some}
use Rattle.fixed.specs.declared.operations.Function.TheVariants as f
use Rattle.derivative.specs.Slope.{product_row, quotient_row, applied_row, power_row}
use Rattle.derivative.specs.Exact.{Numbers, AreExact, minus, whole, power, exact}
use Rattle.derivative.proofs.RingLaws as ring
use Rattle.derivative.proofs.DualRows.{left_constant, quotient_back, reciprocal_back, right_constant}

module _ {V : Type 0} (k : Numbers V) (h : AreExact k) where
  open k.ring use {zero as o, one as i, plus, times, negative as neg}

  -- of a product z with the slope s
  pub product_parts : (p q : Bool) (u v du dv : Option V) (z s : V) → (p ≡ true → du ≡ Some o) → (q ≡ true → dv ≡ Some o)
      → (exact k).product u v ≡ Some z → product_row (exact k) p q u v du dv ≡ Some s
      → (x0 : V) × (x1 : V) × (y0 : V) × (y1 : V) × (u ≡ Some x0) × (du ≡ Some x1) × (v ≡ Some y0) × (dv ≡ Some y1)
      × (times x0 y0 ≡ z) × (plus (times x1 y0) (times x0 y1) ≡ s)
  product_parts p q None v du dv z s hp hq ez es = absurd (cc)
  product_parts p q (Some x) None du dv z s hp hq ez es = absurd (cc)
  product_parts true q (Some x) (Some y) du None z s hp hq ez es = absurd (cc)
  product_parts true q (Some x) (Some y) du (Some dy) z s hp hq ez es =
      (x, o, y, dy, refl, hp refl, refl, refl, same_Some (times x y) z ez, left_constant k h x o y dy refl ∙ same_Some (times x dy) s es)
  product_parts false true (Some x) (Some y) None dv z s hp hq ez es = absurd (cc)
  product_parts false true (Some x) (Some y) (Some dx) dv z s hp hq ez es =
      (x, dx, y, o, refl, refl, refl, hq refl, same_Some (times x y) z ez, right_constant k h x dx y o refl ∙ same_Some (times dx y) s es)
  product_parts false false (Some x) (Some y) None dv z s hp hq ez es = absurd (cc)
  product_parts false false (Some x) (Some y) (Some dx) None z s hp hq ez es = absurd (cc)
  product_parts false false (Some x) (Some y) (Some dx) (Some dy) z s hp hq ez es =
      (x, dx, y, dy, refl, refl, refl, refl, same_Some (times x y) z ez, same_Some (plus (times dx y) (times x dy)) s es)

  -- of a quotient z with the slope s
  pub quotient_parts : (p q : Bool) (u v du dv : Option V) (z s : V) → (p ≡ true → du ≡ Some o) → (q ≡ true → dv ≡ Some o)
      → (exact k).quotient u v ≡ Some z → quotient_row (exact k) p q u v du dv ≡ Some s
      → (n0 : V) × (n1 : V) × (d0 : V) × (d1 : V) × (u ≡ Some n0) × (du ≡ Some n1) × (v ≡ Some d0) × (dv ≡ Some d1)
      × (d0 ≢ o) × (times z d0 ≡ n0) × (plus (times s d0) (times z d1) ≡ n1)
  quotient_parts p q None v du dv z s hp hq ez es = absurd (cc)
  quotient_parts p q (Some n) None du dv z s hp hq ez es = absurd (cc)
  quotient_parts p true (Some n) (Some d) None dv z s hp hq ez es = absurd (cc)
  quotient_parts p true (Some n) (Some d) (Some dn) dv z s hp hq ez es =
      let some = h.divisor n d z ez in
      let value = h.quotient_times n d z ez in
      (n, dn, d, o, refl, refl, refl, hq refl, some, value, right_constant k h z s d o refl ∙ h.quotient_times dn d s es)
  quotient_parts true false (Some n) (Some d) du None z s hp hq ez es = absurd (cc)
  quotient_parts true false (Some n) (Some d) du (Some dd) z s hp hq ez es =
      let some = h.divisor n d z ez in
      let value = h.quotient_times n d z ez in
      let slope =
      quotient_back k h n o d dd z s value some
      (h.quotient_times (neg (times n dd)) (times d d) s es ∙ sym (ring.zero_plus k.ring h.is_ring (neg (times n dd)))
      ∙ ap (λ x. minus k.ring x (times n dd)) (sym (ring.zero_times k.ring h.is_ring d))) in
      (n, o, d, dd, refl, hp refl, refl, refl, some, value, slope)
  quotient_parts false false (Some n) (Some d) None dv z s hp hq ez es = absurd (cc)
  quotient_parts false false (Some n) (Some d) (Some dn) None z s hp hq ez es = absurd (cc)
  quotient_parts false false (Some n) (Some d) (Some dn) (Some dd) z s hp hq ez es =
      let some = h.divisor n d z ez in
      let value = h.quotient_times n d z ez in
      let row = h.quotient_times (minus k.ring (times dn d) (times n dd)) (times d d) s es in
      (n, dn, d, dd, refl, refl, refl, refl, some, value, quotient_back k h n dn d dd z s value some row)

  -- of a root z with the slope s
  pub root_parts : (u du : Option V) (z s : V) → (exact k).square_root u ≡ Some z → applied_row (exact k) f.SquareRoot u du ≡ Some s
      → (x0 : V) × (x1 : V) × (u ≡ Some x0) × (du ≡ Some x1) × (k.root x0 ≡ Some z) × (z ≢ o) × (plus (times s z) (times z s) ≡ x1)
  root_parts None du z s ez es = absurd (cc)
  root_parts (Some x) None z s ez es = absurd (cc)
  root_parts (Some x) (Some dx) z s ez es =
      let there : k.quotient dx (times (whole k.ring 2) z) ≡ Some s = rw ez at es in
      let some : z ≢ o =
      λ e. h.divisor dx (times (whole k.ring 2) z) s there (ap (times (whole k.ring 2)) e ∙ ring.times_zero k.ring h.is_ring (whole k.ring 2)) in
      let slope = sym (ring.root_slope k.ring h.is_ring z s) ∙ h.quotient_times dx (times (whole k.ring 2) z) s there in
      (x, dx, refl, refl, ez, some, slope)

  negative_of : (w : Option V) (s : V) → (exact k).negative w ≡ Some s → (t : V) × (w ≡ Some t) × (neg t ≡ s)
  negative_of None s e = absurd (cc)
  negative_of (Some t) s e = (t, refl, same_Some (neg t) s e)

  reciprocal_slope : (m : ℕ) (x dx z s t : V) → times z (power k.ring x (suc m)) ≡ i
      → k.quotient (times (whole k.ring (m + 1)) dx) (power k.ring x (m + 2)) ≡ Some t → neg t ≡ s
      → plus (times s (power k.ring x (suc m))) (times z (times (times (whole k.ring (suc m)) (power k.ring x m)) dx)) ≡ o
  reciprocal_slope m x dx z s t ez et es =
      let next : m + 1 ≡ suc m = omega arith in
      let after : m + 2 ≡ suc (suc m) = omega arith in
      let there : k.quotient (times (whole k.ring (suc m)) dx) (power k.ring x (suc (suc m))) ≡ Some t = rw (next, after) at et in
      ap (λ y. plus (times y (power k.ring x (suc m))) (times z (times (times (whole k.ring (suc m)) (power k.ring x m)) dx))) (sym es)
      ∙ reciprocal_back k h m x dx z t ez (h.quotient_times (times (whole k.ring (suc m)) dx) (power k.ring x (suc (suc m))) t there)

  -- of one over a power, z with the slope s
  pub reciprocal_parts : (m : ℕ) (u du : Option V) (z s : V) → (exact k).power u (negsuc m) ≡ Some z → power_row (exact k) u (negsuc m) du ≡ Some s
      → (x0 : V) × (x1 : V) × (u ≡ Some x0) × (du ≡ Some x1) × (times z (power k.ring x0 (suc m)) ≡ i)
      × (plus (times s (power k.ring x0 (suc m))) (times z (times (times (whole k.ring (suc m)) (power k.ring x0 m)) x1)) ≡ o)
  reciprocal_parts m None du z s ez es = absurd (cc)
  reciprocal_parts m (Some x) None z s ez es = absurd (cc)
  reciprocal_parts m (Some x) (Some dx) z s ez es =
      let value : times z (power k.ring x (suc m)) ≡ i = h.quotient_times i (power k.ring x (suc m)) z ez in
      let t = negative_of (k.quotient (times (whole k.ring (m + 1)) dx) (power k.ring x (m + 2))) s es in
      (x, dx, refl, refl, value, reciprocal_slope m x dx z s t.0 value t.1 t.2)
