-- A tree that has a value and a slope is these near the distance.
use Rattle.std.proofs.Common.{◌≡◌, ℕ, zero, suc, ◌-◌, ◌==◌, ℤ, pos, negsuc, Bool, true, false, if◌then◌else◌, List, Option, Some, None, refl, sym, ap, ◌∙◌, subst, arith, ne_eqb}
use Rattle.std.proofs.lemmas.Option.{same_Some}
use Rattle.fixed.specs.declared.operations.Operator.{Operator}
use Rattle.fixed.specs.declared.operations.Operator.TheVariants as op
use Rattle.fixed.specs.declared.operations.FlatFunction.{FlatFunction}
use Rattle.fixed.specs.declared.operations.Function.{Function}
use Rattle.fixed.specs.declared.operations.Function.TheVariants as f
use Rattle.energy_program.specs.Tree.{Tree, Number, Input, Definition, Negated, Binary, Applied, Power, Select, is_free_of_distance}
use Rattle.derivative.specs.Slope.{applied_row, operation_row, power_row, unless_constant}
use Rattle.derivative.specs.Exact.{Numbers, AreExact, minus, whole, power, power_of, step_of, absolute_of, operation, applied, selected, exact, exact_slope, exact_value}
use Rattle.derivative.specs.DualNumbers.{IsDerivative, IsNear, dual}
use Rattle.derivative.specs.DualNumbers as near
use Rattle.derivative.proofs.RingLaws.{pair}
use Rattle.derivative.proofs.ExactLaws.{chosen, of_one, of_two, order_by_difference, varying}
use Rattle.derivative.proofs.DualRows.{power_is, power_row_is, power_value}
use Rattle.derivative.proofs.DualParts.{product_parts, quotient_parts, reciprocal_parts, root_parts}
use Rattle.derivative.proofs.Readings.{free_slope}
use Rattle.derivative.proofs.DualSound.{constant_slope, sound}

module _ {V : Type 0} (k : Numbers V) (h : AreExact k) (inputs : List V) where
  open k.ring use {zero as o, one as i, plus, times, negative as neg}

  -- the claim on a tree: the dual number of its value and its slope is near it
  abbrev IsComplete : Tree → Type 0
  IsComplete t = (v s : V) → exact_value k inputs t ≡ Some v → exact_slope k inputs t ≡ Some s → IsNear k inputs t (v, s)

  at : (t : Tree) (v s w z : V) → v ≡ w → s ≡ z → IsNear k inputs t (v, s) → IsNear k inputs t (w, z)
  at t v s w z ev es p = subst (λ x. IsNear k inputs t (w, x)) es (subst (λ x. IsNear k inputs t (x, s)) ev p)

  constant : (t : Tree) → is_free_of_distance t ≡ true → IsComplete t
  constant t free v s ev es =
      at t v o v s refl (sym (constant_slope k inputs t s es free)) (near.constant free ev)

  -- If a tree's derivative is its row unless the tree is constant, and its row is complete, the tree is complete.
  by_row : (t : Tree) (row : Option V) → exact_slope k inputs t ≡ unless_constant o (is_free_of_distance t) row
      → ((v s : V) → exact_value k inputs t ≡ Some v → row ≡ Some s → IsNear k inputs t (v, s)) → IsComplete t
  by_row t row is near_by_row v s ev es = by_test (is_free_of_distance t) refl
    where
      by_test : (b : Bool) → is_free_of_distance t ≡ b → IsNear k inputs t (v, s)
      by_test true free = constant t free v s ev es
      by_test false free = near_by_row v s ev (varying o (is_free_of_distance t) row s free (sym is ∙ es))

  input_complete : (n : ℕ) → IsComplete (Input n)
  input_complete zero v s ev es = at (Input 0) v i v s refl (same_Some i s es) (near.distance ev)
  input_complete (suc n) v s ev es = constant (Input (suc n)) (rw (ne_eqb (suc n) 0 (λ e. omega arith)) refl) v s ev es

  negative_complete : (a : Tree) → IsComplete a → IsComplete (Negated a)
  negative_complete a ia = by_row (Negated a) ((exact k).negative (exact_slope k inputs a)) refl by_parts
    where
      by_parts : (v s : V) → (exact k).negative (exact_value k inputs a) ≡ Some v → (exact k).negative (exact_slope k inputs a) ≡ Some s
          → IsNear k inputs (Negated a) (v, s)
      by_parts v s ev es =
          let u = of_one (λ x. Some (neg x)) (exact_value k inputs a) v ev in
          let du = of_one (λ x. Some (neg x)) (exact_slope k inputs a) s es in
          at (Negated a) (neg u.0) (neg du.0) v s (same_Some (neg u.0) v u.2) (same_Some (neg du.0) s du.2) (near.negative (ia u.0 du.0 u.1 du.1))

  -- ---- operations on two

  module _ (a b : Tree) (ia : IsComplete a) (ib : IsComplete b) where
    -- an operation's value and row give its value in dual numbers
    abbrev IsRow : Operator → Type 0
    IsRow g = (v s : V) → operation k g (exact_value k inputs a) (exact_value k inputs b) ≡ Some v
        → operation_row (exact k) g (is_free_of_distance a) (is_free_of_distance b) (exact_value k inputs a) (exact_value k inputs b) (exact_slope k inputs a) (exact_slope k inputs b) ≡ Some s
        → IsNear k inputs (Binary g a b) (v, s)

    sum_complete : IsRow op.Add
    sum_complete v s ev es =
        let u = of_two (λ x y. Some (plus x y)) (exact_value k inputs a) (exact_value k inputs b) v ev in
        let du = of_two (λ x y. Some (plus x y)) (exact_slope k inputs a) (exact_slope k inputs b) s es in
        at (Binary op.Add a b) (plus u.0 u.1) (plus du.0 du.1) v s (same_Some (plus u.0 u.1) v u.4) (same_Some (plus du.0 du.1) s du.4)
        (near.sum (ia u.0 du.0 u.2 du.2) (ib u.1 du.1 u.3 du.3))

    difference_complete : IsRow op.Subtract
    difference_complete v s ev es =
        let u = of_two (λ x y. Some (minus k.ring x y)) (exact_value k inputs a) (exact_value k inputs b) v ev in
        let du = of_two (λ x y. Some (minus k.ring x y)) (exact_slope k inputs a) (exact_slope k inputs b) s es in
        at (Binary op.Subtract a b) (minus k.ring u.0 u.1) (minus k.ring du.0 du.1) v s
        (same_Some (minus k.ring u.0 u.1) v u.4) (same_Some (minus k.ring du.0 du.1) s du.4)
        (near.difference (ia u.0 du.0 u.2 du.2) (ib u.1 du.1 u.3 du.3))

    free_a : is_free_of_distance a ≡ true → exact_slope k inputs a ≡ Some o
    free_a = free_slope (exact k) (exact_value k inputs) a

    free_b : is_free_of_distance b ≡ true → exact_slope k inputs b ≡ Some o
    free_b = free_slope (exact k) (exact_value k inputs) b

    product_complete : IsRow op.Multiply
    product_complete v s ev es =
        let w = product_parts k h (is_free_of_distance a) (is_free_of_distance b) (exact_value k inputs a) (exact_value k inputs b) (exact_slope k inputs a) (exact_slope k inputs b)
        v s free_a free_b ev es in
        at (Binary op.Multiply a b) (times w.0 w.2) (plus (times w.1 w.2) (times w.0 w.3)) v s w.8 w.9 (near.product (ia w.0 w.1 w.4 w.5) (ib w.2 w.3 w.6 w.7))

    quotient_complete : IsRow op.Divide
    quotient_complete v s ev es =
        let w = quotient_parts k h (is_free_of_distance a) (is_free_of_distance b) (exact_value k inputs a) (exact_value k inputs b) (exact_slope k inputs a) (exact_slope k inputs b)
        v s free_a free_b ev es in
        near.quotient (ia w.0 w.1 w.4 w.5) (ib w.2 w.3 w.6 w.7) w.8 (pair _ _ _ _ w.9 w.10)

    minimum_complete : IsRow op.Minimum
    minimum_complete v s ev es =
        let u = of_two (λ x y. Some (if k.is_at_most x y then x else y)) (exact_value k inputs a) (exact_value k inputs b) v ev in
        by_order u.0 u.1 u.2 u.3 (k.is_at_most u.0 u.1) refl u.4 es
      where
        by_order : (x y : V) → exact_value k inputs a ≡ Some x → exact_value k inputs b ≡ Some y → (c : Bool) → k.is_at_most x y ≡ c
            → Some (if k.is_at_most x y then x else y) ≡ Some v
            → operation_row (exact k) op.Minimum (is_free_of_distance a) (is_free_of_distance b) (exact_value k inputs a) (exact_value k inputs b) (exact_slope k inputs a) (exact_slope k inputs b) ≡ Some s
            → IsNear k inputs (Binary op.Minimum a b) (v, s)
        by_order x y ea eb true e ev es =
            let is : x ≡ v = same_Some x v (rw e at ev) in
            let slope : exact_slope k inputs a ≡ Some s = sym (chosen k h true (minus k.ring y x) (exact_slope k inputs a) (exact_slope k inputs b) (order_by_difference k h x y ∙ e)) ∙ (rw (ea, eb) at es) in
            at (Binary op.Minimum a b) x s v s is refl (near.minimum_first (ia x s ea slope) eb e)
        by_order x y ea eb false e ev es =
            let is : y ≡ v = same_Some y v (rw e at ev) in
            let slope : exact_slope k inputs b ≡ Some s = sym (chosen k h false (minus k.ring y x) (exact_slope k inputs a) (exact_slope k inputs b) (order_by_difference k h x y ∙ e)) ∙ (rw (ea, eb) at es) in
            at (Binary op.Minimum a b) y s v s is refl (near.minimum_second ea (ib y s eb slope) e)

    maximum_complete : IsRow op.Maximum
    maximum_complete v s ev es =
        let u = of_two (λ x y. Some (if k.is_at_most y x then x else y)) (exact_value k inputs a) (exact_value k inputs b) v ev in
        by_order u.0 u.1 u.2 u.3 (k.is_at_most u.1 u.0) refl u.4 es
      where
        by_order : (x y : V) → exact_value k inputs a ≡ Some x → exact_value k inputs b ≡ Some y → (c : Bool) → k.is_at_most y x ≡ c
            → Some (if k.is_at_most y x then x else y) ≡ Some v
            → operation_row (exact k) op.Maximum (is_free_of_distance a) (is_free_of_distance b) (exact_value k inputs a) (exact_value k inputs b) (exact_slope k inputs a) (exact_slope k inputs b) ≡ Some s
            → IsNear k inputs (Binary op.Maximum a b) (v, s)
        by_order x y ea eb true e ev es =
            let is : x ≡ v = same_Some x v (rw e at ev) in
            let slope : exact_slope k inputs a ≡ Some s = sym (chosen k h true (minus k.ring x y) (exact_slope k inputs a) (exact_slope k inputs b) (order_by_difference k h y x ∙ e)) ∙ (rw (ea, eb) at es) in
            at (Binary op.Maximum a b) x s v s is refl (near.maximum_first (ia x s ea slope) eb e)
        by_order x y ea eb false e ev es =
            let is : y ≡ v = same_Some y v (rw e at ev) in
            let slope : exact_slope k inputs b ≡ Some s = sym (chosen k h false (minus k.ring x y) (exact_slope k inputs a) (exact_slope k inputs b) (order_by_difference k h y x ∙ e)) ∙ (rw (ea, eb) at es) in
            at (Binary op.Maximum a b) y s v s is refl (near.maximum_second ea (ib y s eb slope) e)

    operation_complete : (g : Operator) → IsRow g
    operation_complete op.Add v s ev es = sum_complete v s ev es
    operation_complete op.Subtract v s ev es = difference_complete v s ev es
    operation_complete op.Multiply v s ev es = product_complete v s ev es
    operation_complete op.Divide v s ev es = quotient_complete v s ev es
    operation_complete op.Minimum v s ev es = minimum_complete v s ev es
    operation_complete op.Maximum v s ev es = maximum_complete v s ev es

  -- ---- functions and powers

  module _ (a : Tree) (ia : IsComplete a) where
    -- a function's value and row give its value in dual numbers
    abbrev IsFunctionRow : Function → Type 0
    IsFunctionRow g = (v s : V) → applied k g (exact_value k inputs a) ≡ Some v
        → applied_row (exact k) g (exact_value k inputs a) (exact_slope k inputs a) ≡ Some s → IsNear k inputs (Applied g a) (v, s)

    root_complete : IsFunctionRow f.SquareRoot
    root_complete v s ev es =
        let w = root_parts k h (exact_value k inputs a) (exact_slope k inputs a) v s ev es in
        near.root (ia w.0 w.1 w.2 w.3) w.4 w.5 (pair _ _ _ _ (h.root_square w.0 v w.4) w.6)

    absolute_complete : IsFunctionRow f.Absolute
    absolute_complete v s ev es =
        let u = of_one (λ x. Some (absolute_of k x)) (exact_value k inputs a) v ev in
        let es2 : selected k (Some (step_of k u.0)) (exact_slope k inputs a) ((exact k).negative (exact_slope k inputs a)) ≡ Some s = rw u.1 at es in
        by_sign u.0 u.1 (k.is_at_most o u.0) refl u.2 es2
      where
        by_sign : (x : V) → exact_value k inputs a ≡ Some x → (c : Bool) → k.is_at_most o x ≡ c → Some (absolute_of k x) ≡ Some v
            → selected k (Some (step_of k x)) (exact_slope k inputs a) ((exact k).negative (exact_slope k inputs a)) ≡ Some s
            → IsNear k inputs (Applied f.Absolute a) (v, s)
        by_sign x ea true e ev es =
            let is : x ≡ v = same_Some x v (rw e at ev) in
            let slope : exact_slope k inputs a ≡ Some s = sym (chosen k h true x (exact_slope k inputs a) ((exact k).negative (exact_slope k inputs a)) e) ∙ es in
            at (Applied f.Absolute a) x s v s is refl (near.absolute_same (ia x s ea slope) e)
        by_sign x ea false e ev es =
            let is : neg x ≡ v = same_Some (neg x) v (rw e at ev) in
            let slope : (exact k).negative (exact_slope k inputs a) ≡ Some s = sym (chosen k h false x (exact_slope k inputs a) ((exact k).negative (exact_slope k inputs a)) e) ∙ es in
            let d = of_one (λ y. Some (neg y)) (exact_slope k inputs a) s slope in
            at (Applied f.Absolute a) (neg x) (neg d.0) v s is (same_Some (neg d.0) s d.2) (near.absolute_opposite (ia x d.0 ea d.1) e)

    flat_complete : (g : FlatFunction) → IsFunctionRow (f.Flat g)
    flat_complete g v s ev es = at (Applied (f.Flat g) a) v o v s refl (same_Some o s es) (near.flat ev)

    applied_complete : (g : Function) → IsFunctionRow g
    applied_complete f.SquareRoot v s ev es = root_complete v s ev es
    applied_complete f.Absolute v s ev es = absolute_complete v s ev es
    applied_complete (f.Flat g) v s ev es = flat_complete g v s ev es

    -- If the row of a power from 0 on has a value, the base has a derivative.
    power_part : (n : ℕ) (x s : V) → exact_value k inputs a ≡ Some x
        → power_row (exact k) (exact_value k inputs a) (pos n) (exact_slope k inputs a) ≡ Some s → (d : V) × (exact_slope k inputs a ≡ Some d)
    power_part n x s ea es = by_test (n == 1) es
      where
        by_test : (b : Bool)
            → (if b then exact_slope k inputs a else (exact k).product ((exact k).product ((exact k).whole n) ((exact k).power (exact_value k inputs a) (pos (n - 1)))) (exact_slope k inputs a)) ≡ Some s
            → (d : V) × (exact_slope k inputs a ≡ Some d)
        by_test true e = (s, e)
        by_test false e =
            let d = of_two (λ y z. Some (times y z)) ((exact k).product ((exact k).whole n) ((exact k).power (exact_value k inputs a) (pos (n - 1)))) (exact_slope k inputs a) s e in
            (d.1, d.3)

    power_complete : (n : ℕ) (v s : V) → (exact k).power (exact_value k inputs a) (pos n) ≡ Some v
        → power_row (exact k) (exact_value k inputs a) (pos n) (exact_slope k inputs a) ≡ Some s → IsNear k inputs (Power a (pos n)) (v, s)
    power_complete n v s ev es =
        let u = of_one (power_of k (pos n)) (exact_value k inputs a) v ev in
        let d = power_part n u.0 s u.1 es in
        let row : power_row (exact k) (Some u.0) (pos n) (Some d.0) ≡ Some s = rw (u.1, d.1) at es in
        let is : (power (dual k.ring) (u.0, d.0) n).0 ≡ v = power_value k h n (u.0, d.0) ∙ same_Some (power k.ring u.0 n) v u.2 in
        let slope : (power (dual k.ring) (u.0, d.0) n).1 ≡ s = same_Some (power (dual k.ring) (u.0, d.0) n).1 s (sym (power_row_is k h n (u.0, d.0)) ∙ row) in
        at (Power a (pos n)) (power (dual k.ring) (u.0, d.0) n).0 (power (dual k.ring) (u.0, d.0) n).1 v s is slope (near.whole_power (ia u.0 d.0 u.1 d.1))

    reciprocal_near : (m : ℕ) (x0 x1 v s : V) → IsNear k inputs a (x0, x1) → times v (power k.ring x0 (suc m)) ≡ i
        → plus (times s (power k.ring x0 (suc m))) (times v (times (times (whole k.ring (suc m)) (power k.ring x0 m)) x1)) ≡ o
        → IsNear k inputs (Power a (negsuc m)) (v, s)
    reciprocal_near m x0 x1 v s na e0 e1 =
        let p0 : (power (dual k.ring) (x0, x1) (suc m)).0 ≡ power k.ring x0 (suc m) = power_value k h (suc m) (x0, x1) in
        let p1 : (power (dual k.ring) (x0, x1) (suc m)).1 ≡ times (times (whole k.ring (suc m)) (power k.ring x0 m)) x1 = power_is k h m (x0, x1) in
        near.reciprocal_power na (pair _ _ _ _ (ap (times v) p0 ∙ e0) (ap (λ x. plus (times s x) (times v (power (dual k.ring) (x0, x1) (suc m)).1)) p0
        ∙ ap (λ x. plus (times s (power k.ring x0 (suc m))) (times v x)) p1 ∙ e1))

    reciprocal_complete : (m : ℕ) (v s : V) → (exact k).power (exact_value k inputs a) (negsuc m) ≡ Some v
        → power_row (exact k) (exact_value k inputs a) (negsuc m) (exact_slope k inputs a) ≡ Some s → IsNear k inputs (Power a (negsuc m)) (v, s)
    reciprocal_complete m v s ev es =
        let w = reciprocal_parts k h m (exact_value k inputs a) (exact_slope k inputs a) v s ev es in
        reciprocal_near m w.0 w.1 v s (ia w.0 w.1 w.2 w.3) w.4 w.5

    signed_complete : (n : ℤ) (v s : V) → (exact k).power (exact_value k inputs a) n ≡ Some v
        → power_row (exact k) (exact_value k inputs a) n (exact_slope k inputs a) ≡ Some s → IsNear k inputs (Power a n) (v, s)
    signed_complete (pos n) v s ev es = power_complete n v s ev es
    signed_complete (negsuc m) v s ev es = reciprocal_complete m v s ev es

  -- ---- choices

  select_near : (c a b : Tree) → IsComplete a → IsComplete b → (x v s : V) → exact_value k inputs c ≡ Some x → (q : Bool) → k.is_zero x ≡ q
      → (if q then exact_value k inputs b else exact_value k inputs a) ≡ Some v → (if q then exact_slope k inputs b else exact_slope k inputs a) ≡ Some s
      → IsNear k inputs (Select c a b) (v, s)
  select_near c a b ia ib x v s ec true e ev es = near.select_second ec e (ib v s ev es)
  select_near c a b ia ib x v s ec false e ev es = near.select_first ec e (ia v s ev es)

  select_complete : (c a b : Tree) → IsComplete a → IsComplete b → (w : Option V) → exact_value k inputs c ≡ w
      → (v s : V) → selected k w (exact_value k inputs a) (exact_value k inputs b) ≡ Some v → selected k w (exact_slope k inputs a) (exact_slope k inputs b) ≡ Some s
      → IsNear k inputs (Select c a b) (v, s)
  select_complete c a b ia ib None ec v s ev es = absurd (cc)
  select_complete c a b ia ib (Some x) ec v s ev es = select_near c a b ia ib x v s ec (k.is_zero x) refl ev es

  -- If a tree has a value and a derivative, the two are its dual number near the distance.
  complete : (t : Tree) → IsComplete t
  complete (Number c) = constant (Number c) refl
  complete (Input n) = input_complete n
  complete (Definition j) = constant (Definition j) refl
  complete (Negated a) = negative_complete a (complete a)
  complete (Binary g a b) =
      by_row (Binary g a b)
      (operation_row (exact k) g (is_free_of_distance a) (is_free_of_distance b) (exact_value k inputs a) (exact_value k inputs b) (exact_slope k inputs a) (exact_slope k inputs b))
      refl (operation_complete a b (complete a) (complete b) g)
  complete (Applied g a) =
      by_row (Applied g a) (applied_row (exact k) g (exact_value k inputs a) (exact_slope k inputs a)) refl (applied_complete a (complete a) g)
  complete (Power a n) =
      by_row (Power a n) (power_row (exact k) (exact_value k inputs a) n (exact_slope k inputs a)) refl (signed_complete a (complete a) n)
  complete (Select c a b) =
      by_row (Select c a b) (selected k (exact_value k inputs c) (exact_slope k inputs a) (exact_slope k inputs b)) refl
      (select_complete c a b (complete a) (complete b) (exact_value k inputs c) refl)

  -- The slope of the table is the derivative.
  pub derivative : (t : Tree) → IsDerivative k inputs t
  derivative t v s = (λ p. ((sound k h inputs p).value, (sound k h inputs p).slope), λ e. complete t v s e.0 e.1)
