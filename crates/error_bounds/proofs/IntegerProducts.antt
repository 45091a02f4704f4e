-- Products of integers.
use Rattle.std.proofs.Common.{◌≡◌, zero, suc, ℤ, pos, negsuc, neg_ℤ, ◌+ℤ◌, ◌-ℤ◌, ◌*ℤ◌, ◌≤ℤ◌, ◌<ℤ◌, ap, sym, ◌∙◌, arith}
use Rattle.std.proofs.Math.IntN.{*ℤ_comm}
use Rattle.std.proofs.lemmas.Int.{ints, by_lt_z}
use Rattle.interval_domain.proofs.FloorLemmas.{scale_down, scale_up}
use Rattle.derivative.specs.Exact.{IsRing, whole_numbers}
use Rattle.derivative.proofs.WholeNumbers.{are_exact}
use Rattle.derivative.proofs.RingLaws as ring

-- ---- sums and products

-- the integers are a ring
integers : IsRing whole_numbers.ring
integers = are_exact.is_ring

-- x (y + z) = x y + x z
pub times_plus : (x y z : ℤ) → x *ℤ (y +ℤ z) ≡ x *ℤ y +ℤ x *ℤ z
times_plus x y z = integers.times_plus x y z

-- (x + y) z = x z + y z
pub plus_times : (x y z : ℤ) → (x +ℤ y) *ℤ z ≡ x *ℤ z +ℤ y *ℤ z
plus_times x y z = ring.plus_times whole_numbers.ring integers x y z

-- (-x) y = -(x y)
pub negative_times : (x y : ℤ) → neg_ℤ x *ℤ y ≡ neg_ℤ (x *ℤ y)
negative_times x y = ring.negative_times whole_numbers.ring integers x y

-- x (-y) = -(x y)
pub times_negative : (x y : ℤ) → x *ℤ neg_ℤ y ≡ neg_ℤ (x *ℤ y)
times_negative x y = *ℤ_comm x (neg_ℤ y) ∙ negative_times y x ∙ ap neg_ℤ (*ℤ_comm y x)

-- (x y) z = x (y z)
pub times_times : (x y z : ℤ) → (x *ℤ y) *ℤ z ≡ x *ℤ (y *ℤ z)
times_times x y z = integers.times_assoc x y z

-- (x - y) z = x z - y z
pub minus_times : (x y z : ℤ) → (x -ℤ y) *ℤ z ≡ x *ℤ z -ℤ y *ℤ z
minus_times x y z = ring.minus_times whole_numbers.ring integers x y z

-- x (y - z) = x y - x z
pub times_minus : (x y z : ℤ) → x *ℤ (y -ℤ z) ≡ x *ℤ y -ℤ x *ℤ z
times_minus x y z = times_plus x y (neg_ℤ z) ∙ ap (λ s. x *ℤ y +ℤ s) (times_negative x z)

-- x (m y) = m (x y)
pub times_multiple : (m x y : ℤ) → x *ℤ (m *ℤ y) ≡ m *ℤ (x *ℤ y)
times_multiple m x y = sym (times_times x m y) ∙ ap (λ s. s *ℤ y) (*ℤ_comm x m) ∙ times_times m x y

-- (m x) (n y) = (n m) (x y)
pub exchange : (m x n y : ℤ) → (m *ℤ x) *ℤ (n *ℤ y) ≡ (n *ℤ m) *ℤ (x *ℤ y)
exchange m x n y =
    sym (times_times (m *ℤ x) n y) ∙ ap (λ s. s *ℤ y) (*ℤ_comm (m *ℤ x) n ∙ sym (times_times n m x)) ∙ times_times (n *ℤ m) x y

-- (a - e) (b - f) = a b - (a f + (b - f) e)
pub product_apart : (a b e f : ℤ) → (a -ℤ e) *ℤ (b -ℤ f) ≡ a *ℤ b -ℤ (a *ℤ f +ℤ (b -ℤ f) *ℤ e)
product_apart a b e f =
    let d : ℤ = b -ℤ f in
    let first : (a -ℤ e) *ℤ d ≡ a *ℤ d +ℤ neg_ℤ (d *ℤ e) =
    plus_times a (neg_ℤ e) d ∙ ap (λ s. a *ℤ d +ℤ s) (negative_times e d ∙ ap neg_ℤ (*ℤ_comm e d)) in
    let second : a *ℤ d ≡ a *ℤ b +ℤ neg_ℤ (a *ℤ f) = times_plus a b (neg_ℤ f) ∙ ap (λ s. a *ℤ b +ℤ s) (times_negative a f) in
    first ∙ ap (λ s. s +ℤ neg_ℤ (d *ℤ e)) second ∙ regrouped (a *ℤ b) (a *ℤ f) (d *ℤ e)
  where
    regrouped : (x y z : ℤ) → x +ℤ neg_ℤ y +ℤ neg_ℤ z ≡ x -ℤ (y +ℤ z)
    regrouped x y z = omega (arith, ints)

-- ---- products and order

-- a factor that isn't negative keeps the order
pub times_keeps : (a x y : ℤ) → pos 0 ≤ℤ a → x ≤ℤ y → (a *ℤ x) ≤ℤ (a *ℤ y)
times_keeps (pos m) x y p h = scale_up m x y h
times_keeps (negsuc m) x y p h = absurd (omega (arith, ints))

-- a factor that isn't positive turns the order
pub times_turns : (a x y : ℤ) → a ≤ℤ pos 0 → x ≤ℤ y → (a *ℤ y) ≤ℤ (a *ℤ x)
times_turns (pos zero) x y p h = omega (arith, ints)
times_turns (pos (suc m)) x y p h = absurd (omega (arith, ints))
times_turns (negsuc m) x y p h = scale_down m x y h

-- a positive factor can be left out
pub times_cancels : (a x y : ℤ) → pos 0 <ℤ a → (a *ℤ x) ≤ℤ (a *ℤ y) → x ≤ℤ y
times_cancels a x y p h =
    by_lt_z y x
    (λ (above : y <ℤ x).
    let k : (a *ℤ (y +ℤ pos 1)) ≤ℤ (a *ℤ x) = times_keeps a (y +ℤ pos 1) x (omega (arith, ints)) (omega (arith, ints)) in
    absurd (omega (arith, ints, times_plus a y (pos 1))))
    (λ (below : x ≤ℤ y). below)

-- ---- products with one factor between two ends

-- an upper bound of the products with both ends is an upper bound of the product
pub ends_below : (k u v d m : ℤ) → u ≤ℤ d → d ≤ℤ v → (k *ℤ u) ≤ℤ m → (k *ℤ v) ≤ℤ m → (k *ℤ d) ≤ℤ m
ends_below (pos a) u v d m p q l h = omega (arith, ints, scale_up a d v q)
ends_below (negsuc a) u v d m p q l h = omega (arith, ints, scale_down a u d p)

-- a lower bound of the products with both ends is a lower bound of the product
pub ends_above : (k u v d m : ℤ) → u ≤ℤ d → d ≤ℤ v → m ≤ℤ (k *ℤ u) → m ≤ℤ (k *ℤ v) → m ≤ℤ (k *ℤ d)
ends_above (pos a) u v d m p q l h = omega (arith, ints, scale_up a u d p)
ends_above (negsuc a) u v d m p q l h = omega (arith, ints, scale_down a d v q)
