-- The trace of the pressure tensor, and its symmetry.
use Rattle.std.proofs.Common.{◌≡◌, ℕ, ◌*◌, ℤ, pos, ◌+ℤ◌, ◌*ℤ◌, refl, sym, ap, ◌∙◌, arith}
use Rattle.std.proofs.lemmas.Int.{ints}
use Rattle.fixed.proofs.IntegerLaws.{sum_times, times_times}
use Rattle.observables.specs.Ratios.{AreEqual, plus, ratio, times}
use Rattle.ring_box.specs.declared.vectors.Axis.{Axis}
use Rattle.ring_box.specs.declared.vectors.Axis.TheVariants.{X, Y, Z}
use Rattle.observables.specs.Observables.{products_of}
use Rattle.observables.specs.declared.observations.Observation.{Observation}

-- ---- the trace

-- the numerator of a pressure, from the numerators k of a kinetic energy and v of a virial, with the denominators u and w
abbrev pub numerator_of : (u w c : ℕ) (k v : ℤ) → ℤ
numerator_of u w c k v = (k *ℤ pos 2 *ℤ pos w +ℤ v *ℤ pos u) *ℤ pos c

regroup : (a b d e : ℤ) → a +ℤ b +ℤ (d +ℤ e) ≡ a +ℤ d +ℤ (b +ℤ e)
regroup a b d e = omega (arith, ints)

-- of a sum it is the sum
of_sum : (u w c : ℕ) (k l v t : ℤ) → numerator_of u w c (k +ℤ l) (v +ℤ t) ≡ numerator_of u w c k v +ℤ numerator_of u w c l t
of_sum u w c k l v t =
    ap (λ z. (z *ℤ pos w +ℤ (v +ℤ t) *ℤ pos u) *ℤ pos c) (sum_times k l 2)
    ∙ ap (λ z. (z +ℤ (v +ℤ t) *ℤ pos u) *ℤ pos c) (sum_times (k *ℤ pos 2) (l *ℤ pos 2) w)
    ∙ ap (λ z. (k *ℤ pos 2 *ℤ pos w +ℤ l *ℤ pos 2 *ℤ pos w +ℤ z) *ℤ pos c) (sum_times v t u)
    ∙ ap (λ z. z *ℤ pos c) (regroup (k *ℤ pos 2 *ℤ pos w) (l *ℤ pos 2 *ℤ pos w) (v *ℤ pos u) (t *ℤ pos u))
    ∙ sum_times (k *ℤ pos 2 *ℤ pos w +ℤ v *ℤ pos u) (l *ℤ pos 2 *ℤ pos w +ℤ t *ℤ pos u) c

twice : (a b : ℤ) → a *ℤ pos 2 +ℤ (b +ℤ b) ≡ (a +ℤ b) *ℤ pos 2
twice a b = omega (arith, ints)

swapped : (x : ℤ) (m n : ℕ) → x *ℤ pos m *ℤ pos n ≡ x *ℤ pos n *ℤ pos m
swapped x m n = times_times x m n ∙ ap (λ k. x *ℤ pos k) (omega arith) ∙ sym (times_times x n m)

-- with a virial in both orders, over twice the denominator, it is twice as great
in_both_orders : (u w c : ℕ) (k v : ℤ) → numerator_of u (w * 2) c k (v +ℤ v) ≡ numerator_of u w c k v *ℤ pos 2
in_both_orders u w c k v =
    ap (λ z. (z +ℤ (v +ℤ v) *ℤ pos u) *ℤ pos c) (sym (times_times (k *ℤ pos 2) w 2))
    ∙ ap (λ z. (k *ℤ pos 2 *ℤ pos w *ℤ pos 2 +ℤ z) *ℤ pos c) (sum_times v v u)
    ∙ ap (λ z. z *ℤ pos c) (twice (k *ℤ pos 2 *ℤ pos w) (v *ℤ pos u))
    ∙ swapped (k *ℤ pos 2 *ℤ pos w +ℤ v *ℤ pos u) 2 c

-- the sum of three fractions with one denominator
three : (x y z : ℤ) (d : ℕ) → (x *ℤ pos d +ℤ y *ℤ pos d) *ℤ pos d +ℤ z *ℤ pos (d * d) ≡ (x +ℤ y +ℤ z) *ℤ pos (d * d)
three x y z d =
    ap (λ t. t *ℤ pos d +ℤ z *ℤ pos (d * d)) (sym (sum_times x y d))
    ∙ ap (λ t. t +ℤ z *ℤ pos (d * d)) (times_times (x +ℤ y) d d)
    ∙ sym (sum_times (x +ℤ y) z (d * d))

cubes : (d e : ℕ) → 3 * d ≡ 2 * e → 3 * (d * d * d) ≡ 2 * (d * d) * e
cubes d e h = omega (arith, ap (λ k. d * d * k) h)

-- Three times n / e is the sum of x / d, y / d and z / d, if x + y + z is twice n, and 3 / e is 2 / d.
pub trace_of : (n x y z : ℤ) (d e : ℕ) → x +ℤ y +ℤ z ≡ n *ℤ pos 2 → 3 * d ≡ 2 * e
    → AreEqual (times (ratio n e) 3) (plus (plus (ratio x d) (ratio y d)) (ratio z d))
trace_of n x y z d e s h =
    times_times n 3 (d * d * d)
    ∙ ap (λ k. n *ℤ pos k) (cubes d e h)
    ∙ sym (times_times n (2 * (d * d)) e)
    ∙ ap (λ t. t *ℤ pos e) (sym (times_times n 2 (d * d)) ∙ ap (λ t. t *ℤ pos (d * d)) (sym s) ∙ sym (three x y z d))

doubled : (a b d : ℤ) → a *ℤ pos 2 +ℤ b *ℤ pos 2 +ℤ d *ℤ pos 2 ≡ (a +ℤ b +ℤ d) *ℤ pos 2
doubled a b d = omega (arith, ints)

-- the numerators on the diagonal add up to twice the pressure's
pub diagonal_sum : (u w c : ℕ) (k kx ky kz v vx vy vz : ℤ) → k ≡ kx +ℤ ky +ℤ kz → v ≡ vx +ℤ vy +ℤ vz
    → numerator_of u (w * 2) c kx (vx +ℤ vx) +ℤ numerator_of u (w * 2) c ky (vy +ℤ vy) +ℤ numerator_of u (w * 2) c kz (vz +ℤ vz)
    ≡ numerator_of u w c k v *ℤ pos 2
diagonal_sum u w c k kx ky kz v vx vy vz ek ev =
    let first = of_sum u w c (kx +ℤ ky) kz (vx +ℤ vy) vz ∙ ap (λ t. t +ℤ numerator_of u w c kz vz) (of_sum u w c kx ky vx vy) in
    ap (λ t. t +ℤ numerator_of u (w * 2) c ky (vy +ℤ vy) +ℤ numerator_of u (w * 2) c kz (vz +ℤ vz)) (in_both_orders u w c kx vx)
    ∙ ap (λ t. numerator_of u w c kx vx *ℤ pos 2 +ℤ t +ℤ numerator_of u (w * 2) c kz (vz +ℤ vz)) (in_both_orders u w c ky vy)
    ∙ ap (λ t. numerator_of u w c kx vx *ℤ pos 2 +ℤ numerator_of u w c ky vy *ℤ pos 2 +ℤ t) (in_both_orders u w c kz vz)
    ∙ doubled (numerator_of u w c kx vx) (numerator_of u w c ky vy) (numerator_of u w c kz vz)
    ∙ ap (λ t. t *ℤ pos 2) (sym (ap (λ t. numerator_of u w c t v) ek ∙ ap (λ t. numerator_of u w c (kx +ℤ ky +ℤ kz) t) ev ∙ first))

pub denominators : (u w v n : ℕ) → 3 * (u * (w * 2) * (v * n)) ≡ 2 * (u * w * (3 * v * n))
denominators u w v n = omega arith

-- ---- the symmetry

pub products_swapped : (a b : Axis) (o : Observation) → products_of a b o ≡ products_of b a o
products_swapped X X o = refl
products_swapped X Y o = refl
products_swapped X Z o = refl
products_swapped Y X o = refl
products_swapped Y Y o = refl
products_swapped Y Z o = refl
products_swapped Z X o = refl
products_swapped Z Y o = refl
products_swapped Z Z o = refl

pub sides_swapped : (p q : ℤ) (m n : ℕ) → p ≡ q → p *ℤ pos m *ℤ pos n ≡ q *ℤ pos n *ℤ pos m
sides_swapped p q m n e = ap (λ t. t *ℤ pos m *ℤ pos n) e ∙ swapped q m n

pub plus_swapped : (x y : ℤ) → x +ℤ y ≡ y +ℤ x
plus_swapped x y = omega (arith, ints)
