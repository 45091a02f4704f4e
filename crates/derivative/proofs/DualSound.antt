-- Soundness of dual numbers: a tree's value near a distance has its value and its slope.
use Rattle.std.proofs.Common.{◌≡◌, ◌≢◌, ℕ, suc, ℤ, pos, negsuc, true, false, List, Option, Some, refl, sym, ap, ◌∙◌}
use Rattle.std.proofs.lemmas.Option.{same_Some}
use Rattle.fixed.specs.declared.operations.Operator.{Operator}
use Rattle.fixed.specs.declared.operations.Operator.TheVariants as op
use Rattle.fixed.specs.declared.operations.Function.{Function}
use Rattle.fixed.specs.declared.operations.Function.TheVariants as f
use Rattle.energy_program.specs.Tree.{Tree, Negated, Binary, Applied, Power, Select, is_free_of_distance}
use Rattle.derivative.specs.Slope.{applied_row, operation_row, power_row, unless_constant}
use Rattle.derivative.specs.Exact.{Numbers, AreExact, applied, minus, operation, selected, whole, power, exact, exact_slope, exact_value}
use Rattle.derivative.specs.DualNumbers.{IsNear, dual}
use Rattle.derivative.specs.DualNumbers as near
use Rattle.derivative.proofs.RingLaws as ring
use Rattle.derivative.proofs.ExactLaws.{chosen, order_by_difference, unless}
use Rattle.derivative.proofs.Bool.{left_of, right_of}
use Rattle.derivative.proofs.Readings.{free_slope}
use Rattle.derivative.proofs.DualRows.{both_constant, constant_power, constant_quotient, constant_reciprocal, constant_root, divisor_not_zero, power_is, power_row_is, power_value, product_is, quotient_is, reciprocal_row_is, root_is}

module _ {V : Type 0} (k : Numbers V) (inputs : List V) where
  open k.ring use {zero as o}

  -- a constant's slope is 0
  pub constant_slope : (t : Tree) (s : V) → exact_slope k inputs t ≡ Some s → is_free_of_distance t ≡ true → s ≡ o
  constant_slope t s e free = same_Some s o (sym e ∙ free_slope (exact k) (exact_value k inputs) t free)

  -- the claim on a tree: a dual number that it is near has its value and its slope
  pub record Sound (t : Tree) (x : V × V) : Type 0 where
    pub value : exact_value k inputs t ≡ Some x.0
    pub slope : exact_slope k inputs t ≡ Some x.1

  -- ---- one operation more

  -- a tree is sound if its value is this one, and its derivative is its row unless the tree is constant
  by_row : (t : Tree) (row : Option V) (x : V × V) → exact_slope k inputs t ≡ unless_constant o (is_free_of_distance t) row
      → exact_value k inputs t ≡ Some x.0 → row ≡ Some x.1 → (is_free_of_distance t ≡ true → x.1 ≡ o) → Sound t x
  by_row t row x slope value is flat =
      record { value = value; slope = slope ∙ ap (unless_constant o (is_free_of_distance t)) is ∙ unless o (is_free_of_distance t) x.1 flat }

  binary_sound : (g : Operator) (a b : Tree) (u v du dv : Option V) (x : V × V) → exact_value k inputs a ≡ u → exact_value k inputs b ≡ v
      → exact_slope k inputs a ≡ du → exact_slope k inputs b ≡ dv → operation k g u v ≡ Some x.0
      → operation_row (exact k) g (is_free_of_distance a) (is_free_of_distance b) u v du dv ≡ Some x.1
      → (is_free_of_distance a ≡ true → is_free_of_distance b ≡ true → x.1 ≡ o) → Sound (Binary g a b) x
  binary_sound g a b u v du dv x eu ev edu edv value row flat =
      by_row (Binary g a b) _ x refl (rw (eu, ev) value) (rw (eu, ev, edu, edv) row) (λ e. flat (left_of _ _ e) (right_of _ _ e))

  applied_sound : (g : Function) (a : Tree) (u du : Option V) (x : V × V) → exact_value k inputs a ≡ u → exact_slope k inputs a ≡ du
      → applied k g u ≡ Some x.0 → applied_row (exact k) g u du ≡ Some x.1 → (is_free_of_distance a ≡ true → x.1 ≡ o)
      → Sound (Applied g a) x
  applied_sound g a u du x eu edu value row flat = by_row (Applied g a) _ x refl (rw eu value) (rw (eu, edu) row) flat

  power_sound : (n : ℤ) (a : Tree) (u du : Option V) (x : V × V) → exact_value k inputs a ≡ u → exact_slope k inputs a ≡ du
      → (exact k).power u n ≡ Some x.0 → power_row (exact k) u n du ≡ Some x.1 → (is_free_of_distance a ≡ true → x.1 ≡ o)
      → Sound (Power a n) x
  power_sound n a u du x eu edu value row flat = by_row (Power a n) _ x refl (rw eu value) (rw (eu, edu) row) flat

  -- a choice of a part that is sound, by a condition c
  choice_sound : (c a b t : Tree) (y : V × V) → exact_value k inputs (Select c a b) ≡ exact_value k inputs t
      → selected k (exact_value k inputs c) (exact_slope k inputs a) (exact_slope k inputs b) ≡ exact_slope k inputs t
      → (is_free_of_distance (Select c a b) ≡ true → is_free_of_distance t ≡ true) → Sound t y → Sound (Select c a b) y
  choice_sound c a b t y value slope flat s =
      by_row (Select c a b) _ y refl (value ∙ s.value) (slope ∙ s.slope) (λ e. constant_slope t y.1 s.slope (flat e))

module _ {V : Type 0} (k : Numbers V) (h : AreExact k) (inputs : List V) where
  open k.ring use {zero as o, one as i, plus, times, negative as neg}

  quotient_sound : (a b : Tree) (n d q : V × V) → Sound k inputs a n → Sound k inputs b d → d.0 ≢ o → (dual k.ring).times q d ≡ n
      → Sound k inputs (Binary op.Divide a b) q
  quotient_sound a b n d q s t some e =
      let flat_n : is_free_of_distance a ≡ true → n.1 ≡ o = constant_slope k inputs a n.1 s.slope in
      let flat_d : is_free_of_distance b ≡ true → d.1 ≡ o = constant_slope k inputs b d.1 t.slope in
      let e0 : times q.0 d.0 ≡ n.0 = ap (λ z. z.0) e in
      let e1 : plus (times q.1 d.0) (times q.0 d.1) ≡ n.1 = ap (λ z. z.1) e in
      binary_sound k inputs op.Divide a b (Some n.0) (Some d.0) (Some n.1) (Some d.1) q s.value t.value s.slope t.slope
      (h.quotient_there n.0 d.0 q.0 some e0)
      (quotient_is k h (is_free_of_distance a) (is_free_of_distance b) n.0 n.1 d.0 d.1 q.0 q.1 flat_n flat_d some e0 e1)
      (λ p r. constant_quotient k h n.1 d.0 d.1 q.0 q.1 some e1 (flat_n p) (flat_d r))

  reciprocal_sound : (a : Tree) (m : ℕ) (x y : V × V) → Sound k inputs a x → (dual k.ring).times y (power (dual k.ring) x (suc m)) ≡ (dual k.ring).one
      → Sound k inputs (Power a (negsuc m)) y
  reciprocal_sound a m x y s e =
      let slope_of : V → V = λ p. plus (times y.1 p) (times y.0 (times (times (whole k.ring (suc m)) (power k.ring x.0 m)) x.1)) in
      let e0 : times y.0 (power k.ring x.0 (suc m)) ≡ i = ap (times y.0) (sym (power_value k h (suc m) x)) ∙ ap (λ z. z.0) e in
      let e1 : slope_of (power k.ring x.0 (suc m)) ≡ o =
      ap slope_of (sym (power_value k h (suc m) x))
      ∙ ap (λ z. plus (times y.1 (power (dual k.ring) x (suc m)).0) (times y.0 z)) (sym (power_is k h m x))
      ∙ ap (λ z. z.1) e in
      power_sound k inputs (negsuc m) a (Some x.0) (Some x.1) y s.value s.slope
      (h.quotient_there i (power k.ring x.0 (suc m)) y.0 (divisor_not_zero k h y.0 (power k.ring x.0 (suc m)) e0) e0)
      (reciprocal_row_is k h m x.0 x.1 y.0 y.1 e0 e1)
      (λ p. constant_reciprocal k h m x.0 x.1 y.0 y.1 e0 e1 (constant_slope k inputs a x.1 s.slope p))

  -- If a tree is a dual number near the distance, the tree has the number's value and derivative.
  pub sound : {t : Tree} {x : V × V} → IsNear k inputs t x → Sound k inputs t x
  sound (near.constant {t = t} free e) = record { value = e; slope = free_slope (exact k) (exact_value k inputs) t free }
  sound (near.distance e) = record { value = e; slope = refl }
  sound (near.negative {a = a} {x = x} p) =
      let s = sound p in
      by_row k inputs (Negated a) _ (neg x.0, neg x.1) refl (rw s.value refl) (rw s.slope refl)
      (λ e. ap neg (constant_slope k inputs a x.1 s.slope e) ∙ ring.negative_zero k.ring h.is_ring)
  sound (near.sum {a = a} {b = b} {x = x} {y = y} p q) =
      let s = sound p in let t = sound q in
      binary_sound k inputs op.Add a b (Some x.0) (Some y.0) (Some x.1) (Some y.1) (plus x.0 y.0, plus x.1 y.1) s.value t.value s.slope t.slope refl refl
      (λ e f. ap (λ z. plus z y.1) (constant_slope k inputs a x.1 s.slope e) ∙ ap (plus o) (constant_slope k inputs b y.1 t.slope f) ∙ h.is_ring.plus_zero o)
  sound (near.difference {a = a} {b = b} {x = x} {y = y} p q) =
      let s = sound p in let t = sound q in
      binary_sound k inputs op.Subtract a b (Some x.0) (Some y.0) (Some x.1) (Some y.1) (minus k.ring x.0 y.0, minus k.ring x.1 y.1)
      s.value t.value s.slope t.slope refl refl
      (λ e f. ap (λ z. minus k.ring z y.1) (constant_slope k inputs a x.1 s.slope e) ∙ ap (minus k.ring o) (constant_slope k inputs b y.1 t.slope f)
      ∙ h.is_ring.plus_negative o)
  sound (near.product {a = a} {b = b} {x = x} {y = y} p q) =
      let s = sound p in let t = sound q in
      let flat_x : is_free_of_distance a ≡ true → x.1 ≡ o = constant_slope k inputs a x.1 s.slope in
      let flat_y : is_free_of_distance b ≡ true → y.1 ≡ o = constant_slope k inputs b y.1 t.slope in
      binary_sound k inputs op.Multiply a b (Some x.0) (Some y.0) (Some x.1) (Some y.1) ((dual k.ring).times x y) s.value t.value s.slope t.slope refl
      (product_is k h (is_free_of_distance a) (is_free_of_distance b) x.0 x.1 y.0 y.1 flat_x flat_y)
      (λ e f. both_constant k h x.0 x.1 y.0 y.1 (flat_x e) (flat_y f))
  sound (near.quotient {a = a} {b = b} {n = n} {d = d} {q = z} p q some e) = quotient_sound a b n d z (sound p) (sound q) some e
  sound (near.minimum_first {a = a} {b = b} {x = x} {y = y} p v e) =
      let s = sound p in
      binary_sound k inputs op.Minimum a b (Some x.0) (Some y) (Some x.1) (exact_slope k inputs b) x s.value v s.slope refl (rw e refl)
      (chosen k h true (minus k.ring y x.0) (Some x.1) (exact_slope k inputs b) (order_by_difference k h x.0 y ∙ e))
      (λ f g. constant_slope k inputs a x.1 s.slope f)
  sound (near.minimum_second {a = a} {b = b} {x = x} {y = y} v p e) =
      let s = sound p in
      binary_sound k inputs op.Minimum a b (Some x) (Some y.0) (exact_slope k inputs a) (Some y.1) y v s.value refl s.slope (rw e refl)
      (chosen k h false (minus k.ring y.0 x) (exact_slope k inputs a) (Some y.1) (order_by_difference k h x y.0 ∙ e))
      (λ f g. constant_slope k inputs b y.1 s.slope g)
  sound (near.maximum_first {a = a} {b = b} {x = x} {y = y} p v e) =
      let s = sound p in
      binary_sound k inputs op.Maximum a b (Some x.0) (Some y) (Some x.1) (exact_slope k inputs b) x s.value v s.slope refl (rw e refl)
      (chosen k h true (minus k.ring x.0 y) (Some x.1) (exact_slope k inputs b) (order_by_difference k h y x.0 ∙ e))
      (λ f g. constant_slope k inputs a x.1 s.slope f)
  sound (near.maximum_second {a = a} {b = b} {x = x} {y = y} v p e) =
      let s = sound p in
      binary_sound k inputs op.Maximum a b (Some x) (Some y.0) (exact_slope k inputs a) (Some y.1) y v s.value refl s.slope (rw e refl)
      (chosen k h false (minus k.ring x y.0) (exact_slope k inputs a) (Some y.1) (order_by_difference k h y.0 x ∙ e))
      (λ f g. constant_slope k inputs b y.1 s.slope g)
  sound (near.root {a = a} {x = x} {y = y} p r some e) =
      let s = sound p in
      let e1 : plus (times y.1 y.0) (times y.0 y.1) ≡ x.1 = ap (λ z. z.1) e in
      applied_sound k inputs f.SquareRoot a (Some x.0) (Some x.1) y s.value s.slope r (root_is k h x.0 x.1 y.0 y.1 r some e1)
      (λ p. constant_root k h x.1 y.0 y.1 some e1 (constant_slope k inputs a x.1 s.slope p))
  sound (near.absolute_same {a = a} {x = x} p e) =
      let s = sound p in
      applied_sound k inputs f.Absolute a (Some x.0) (Some x.1) x s.value s.slope (rw e refl)
      (chosen k h true x.0 (Some x.1) (Some (neg x.1)) e) (constant_slope k inputs a x.1 s.slope)
  sound (near.absolute_opposite {a = a} {x = x} p e) =
      let s = sound p in
      applied_sound k inputs f.Absolute a (Some x.0) (Some x.1) (neg x.0, neg x.1) s.value s.slope (rw e refl)
      (chosen k h false x.0 (Some x.1) (Some (neg x.1)) e)
      (λ p. ap neg (constant_slope k inputs a x.1 s.slope p) ∙ ring.negative_zero k.ring h.is_ring)
  sound (near.flat {g = g} {a = a} {v = v} e) = by_row k inputs (Applied (f.Flat g) a) (Some o) (v, o) refl e refl (λ p. refl)
  sound (near.whole_power {a = a} {n = n} {x = x} p) =
      let s = sound p in
      power_sound k inputs (pos n) a (Some x.0) (Some x.1) (power (dual k.ring) x n) s.value s.slope (ap Some (sym (power_value k h n x)))
      (power_row_is k h n x) (λ p. constant_power k h n x (constant_slope k inputs a x.1 s.slope p))
  sound (near.reciprocal_power {a = a} {m = m} {x = x} {y = y} p e) = reciprocal_sound a m x y (sound p) e
  sound (near.select_first {c = c} {a = a} {b = b} {x = x} {y = y} v e p) =
      choice_sound k inputs c a b a y (rw (v, e) refl) (rw (v, e) refl)
      (λ f. left_of (is_free_of_distance a) (is_free_of_distance b) (right_of (is_free_of_distance c) _ f)) (sound p)
  sound (near.select_second {c = c} {a = a} {b = b} {x = x} {y = y} v e p) =
      choice_sound k inputs c a b b y (rw (v, e) refl) (rw (v, e) refl)
      (λ f. right_of (is_free_of_distance a) (is_free_of_distance b) (right_of (is_free_of_distance c) _ f)) (sound p)
