-- How great the fractions are that are observed, and that they have decimals.
use Rattle.std.proofs.Common.{◌≡◌, ℕ, ◌+◌, ◌*◌, ◌^◌, ◌<◌, ◌≤◌, ℤ, pos, negsuc, ◌+ℤ◌, ◌*ℤ◌, unsigned_abs, ap, ◌∙◌, arith}
use Rattle.std.specs.Int.{cast_signed, cast_unsigned, w128}
use Rattle.std.proofs.lemmas.Int.{to_z-of_z, unsigned_abs-mul}
use Rattle.std.proofs.lemmas.Nat.{mul-le, mul-lt}
use lib.Signed.{mag}
use Rattle.observables.specs.Ratios.{Ratio, plus, ratio, times, over, IsWithin}
use Rattle.observables.proofs.RatioLaws.{HasDecimal, has_decimal, within_more, within_plus, within_times, within_over, abs_sum}
use Rattle.ring_box.specs.Forces as vectors
use Rattle.ring_box.specs.Axes.{component_along}
use Rattle.ring_box.specs.declared.vectors.Axis.{Axis}
use Rattle.ring_box.specs.declared.vectors.Axis.TheVariants.{X, Y, Z}
use Rattle.ring_box.specs.declared.vectors.Vector.{Vector}
use Rattle.observables.specs.Bounds.{AreAllWithin}

-- ---- decimals

-- If a fraction is within the bounds, its numerator in units of the last decimal over its denominator has a decimal.
pub decimal_ready : (decimals k : ℕ) (x : Ratio) (n : ℤ) (d : ℕ) → n ≡ x.numerator *ℤ pos (10 ^ decimals) → d ≡ x.denominator
    → 0 < x.denominator → x.denominator < 2 ^ 380 → k * 10 ^ decimals < 2 ^ 127 → IsWithin k x → HasDecimal n d
decimal_ready decimals k x n d en ed p small few w = rw (en, ed) (has_decimal k decimals x p small few w)

-- ---- bounds

pub kinetic_within : (s u : ℕ) → s < 2 ^ 157 → 2 ^ 95 ≤ u → IsWithin (2 ^ 62) (ratio (pos s) u)
kinetic_within s u h l = record { within = omega arith }

pub potential_within : (e : ℤ) (o : ℕ) → unsigned_abs e < 2 ^ 100 → 2 ^ 24 ≤ o → IsWithin (2 ^ 76) (ratio e o)
potential_within e o h l = record { within = omega arith }

pub total_within : (e : ℤ) (s o u : ℕ) → unsigned_abs e < 2 ^ 100 → s < 2 ^ 157 → 2 ^ 24 ≤ o → 2 ^ 95 ≤ u → IsWithin (2 ^ 77) (plus (ratio e o) (ratio (pos s) u))
total_within e s o u he hs lo lu =
    within_more (2 ^ 76 + 2 ^ 62) (2 ^ 77) (plus (ratio e o) (ratio (pos s) u)) (omega arith) (within_plus (2 ^ 76) (2 ^ 62) (ratio e o) (ratio (pos s) u) (potential_within e o he lo) (kinetic_within s u hs lu))

pub temperature_within : (s u m : ℕ) → s < 2 ^ 157 → 2 ^ 95 ≤ u → 2 ^ 51 ≤ m → IsWithin (2 ^ 71) (over (times (ratio (pos s) u) (2 * 10 ^ 17)) m)
temperature_within s u m h l k =
    let x : Ratio = times (ratio (pos s) u) (2 * 10 ^ 17) in
    within_over (2 ^ 71) m x (within_more (2 ^ 62 * (2 * 10 ^ 17)) (2 ^ 71 * m) x (omega arith) (within_times (2 ^ 62) (2 * 10 ^ 17) (ratio (pos s) u) (kinetic_within s u h l)))

-- twice a kinetic energy and a virial, by the volume v
pub energies_within : (s w : ℤ) (u wu v : ℕ) → unsigned_abs s ≤ v * 2 ^ 133 → unsigned_abs w ≤ v * 2 ^ 128 → 2 ^ 95 ≤ u → 2 ^ 72 ≤ wu
    → IsWithin (v * 2 ^ 57) (plus (times (ratio s u) 2) (ratio w wu))
energies_within s w u wu v hs hw lu lw =
    let a = mul-le (v * 2 ^ 38) (2 ^ 95) (v * 2 ^ 38) u (omega arith) lu in
    let b = mul-le (v * 2 ^ 56) (2 ^ 72) (v * 2 ^ 56) wu (omega arith) lw in
    let kinetic : IsWithin (v * 2 ^ 38) (ratio s u) = record { within = omega (arith, a) } in
    let virial : IsWithin (v * 2 ^ 56) (ratio w wu) = record { within = omega (arith, b) } in
    within_more (v * 2 ^ 38 * 2 + v * 2 ^ 56) (v * 2 ^ 57) (plus (times (ratio s u) 2) (ratio w wu)) (omega arith)
    (within_plus (v * 2 ^ 38 * 2) (v * 2 ^ 56) (times (ratio s u) 2) (ratio w wu) (within_times (v * 2 ^ 38) 2 (ratio s u) kinetic) virial)

-- a pressure from them, by n volumes
pub pressure_within : (x : Ratio) (n v : ℕ) → 1 ≤ n → IsWithin (v * 2 ^ 57) x → IsWithin (2 ^ 112) (over (times x (10 ^ 15 * 10 ^ 10)) (n * v * 602214076))
pressure_within x n v p w =
    let m = mul-le 1 v n v p (omega arith) in
    within_over (2 ^ 112) (n * v * 602214076) (times x (10 ^ 15 * 10 ^ 10))
    (within_more (v * 2 ^ 57 * (10 ^ 15 * 10 ^ 10)) (2 ^ 112 * (n * v * 602214076)) (times x (10 ^ 15 * 10 ^ 10)) (omega (arith, m)) (within_times (v * 2 ^ 57) (10 ^ 15 * 10 ^ 10) x w))

-- squares along a side, by the volume
pub squares_by_volume : (k x r : ℕ) → k < 2 ^ 107 → x ≤ 16000000 → 0 < r → k * (x * x) ≤ x * r * 2 ^ 131
squares_by_volume k x r h m p =
    let a = mul-le k x (2 ^ 107) (2 ^ 24) (omega arith) (omega arith) in
    let b = mul-le (k * x) x (2 ^ 131) x (omega (arith, a)) (omega arith) in
    let d = mul-le x 1 x r (omega arith) p in
    omega (arith, b, d)

-- places along a side, by the volume
pub places_by_volume : (w : ℤ) (x r : ℕ) → unsigned_abs w ≤ 2 ^ 126 → 0 < r → unsigned_abs (w *ℤ pos x) ≤ x * r * 2 ^ 126
places_by_volume w x r h p =
    let a = mul-le (unsigned_abs w) x (2 ^ 126) x h (omega arith) in
    let d = mul-le x 1 x r (omega arith) p in
    omega (arith, unsigned_abs-mul w (pos x), a, d)

positive_product : (a b : ℕ) → 0 < a → 0 < b → 0 < a * b
positive_product a b p q = omega (arith, mul-le 1 1 a b p q)

pub squares_within_volume : (kx ky kz x y z : ℕ) → kx < 2 ^ 107 → ky < 2 ^ 107 → kz < 2 ^ 107 → 0 < x → 0 < y → 0 < z → x ≤ 16000000 → y ≤ 16000000 → z ≤ 16000000
    → kx * (x * x) + ky * (y * y) + kz * (z * z) ≤ x * y * z * 2 ^ 133
squares_within_volume kx ky kz x y z hx hy hz px py pz mx my mz =
    omega (arith, squares_by_volume kx x (y * z) hx mx (positive_product y z py pz), squares_by_volume ky y (x * z) hy my (positive_product x z px pz), squares_by_volume kz z (x * y) hz mz (positive_product x y px py))

pub places_within_volume : (a b d : ℤ) (x y z : ℕ) → unsigned_abs a ≤ 2 ^ 126 → unsigned_abs b ≤ 2 ^ 126 → unsigned_abs d ≤ 2 ^ 126 → 0 < x → 0 < y → 0 < z
    → unsigned_abs (a *ℤ pos x +ℤ b *ℤ pos y +ℤ d *ℤ pos z) ≤ x * y * z * 2 ^ 128
places_within_volume a b d x y z ha hb hd px py pz =
    omega (arith, abs_sum (a *ℤ pos x +ℤ b *ℤ pos y) (d *ℤ pos z), abs_sum (a *ℤ pos x) (b *ℤ pos y), places_by_volume a x (y * z) ha (positive_product y z py pz), places_by_volume b y (x * z) hb (positive_product x z px pz), places_by_volume d z (x * y) hd (positive_product x y px py))

-- ---- sizes

-- a number that fits its 128 bits is held as it is
pub held : (z : ℤ) → mag z < 2 ^ 127 → cast_signed w128 (cast_unsigned w128 z) ≡ z
held z h = to_z-of_z w128 z (record { sfits = h })

-- a number within bounds fits
pub mag_within : (z : ℤ) (limit : ℕ) → unsigned_abs z ≤ limit → limit < 2 ^ 127 → mag z < 2 ^ 127
mag_within (pos n) limit h l = omega arith
mag_within (negsuc n) limit h l = omega arith

-- a product of numbers below limits
pub product_below : (z y : ℤ) (k a b : ℕ) → z ≡ y *ℤ pos k → unsigned_abs y < a → k < b → unsigned_abs z < a * b
product_below z y k a b e h l = rw e (omega (arith, unsigned_abs-mul y (pos k), mul-lt (unsigned_abs y) k a b h l))

-- the denominator of a temperature
pub temperature_denominator : (u m : ℕ) → 2 ^ 95 ≤ u → u < 2 ^ 117 → 2 ^ 51 ≤ m → m < 2 ^ 69 → (0 < u * m) × (u * m < 2 ^ 380)
temperature_denominator u m lu hu lm hm = (positive_product u m (omega arith) (omega arith), omega (arith, mul-lt u m (2 ^ 117) (2 ^ 69) hu hm))

-- the denominator of a total energy
pub total_denominator : (o u : ℕ) → 2 ^ 24 ≤ o → o < 2 ^ 41 → 2 ^ 95 ≤ u → u < 2 ^ 117 → (0 < o * u) × (o * u < 2 ^ 380)
total_denominator o u lo ho lu hu = (positive_product o u (omega arith) (omega arith), omega (arith, mul-lt o u (2 ^ 41) (2 ^ 117) ho hu))

-- the denominator of a pressure, by n volumes
pub pressure_denominator : (u wu n v : ℕ) → 2 ^ 95 ≤ u → u < 2 ^ 117 → 2 ^ 72 ≤ wu → wu < 2 ^ 90 → 1 ≤ n → n < 4 → 1 ≤ v → v < 2 ^ 72
    → (0 < u * wu * (n * v * 602214076)) × (u * wu * (n * v * 602214076) < 2 ^ 380)
pressure_denominator u wu n v lu hu lw hw ln hn lv hv =
    let some = positive_product n v ln lv in
    let most = mul-lt n v 4 (2 ^ 72) hn hv in (
      positive_product (u * wu) (n * v * 602214076) (positive_product u wu (omega arith) (omega arith)) (omega arith),
      omega (arith, mul-lt (u * wu) (n * v * 602214076) (2 ^ 117 * 2 ^ 90) (2 ^ 104) (mul-lt u wu (2 ^ 117) (2 ^ 90) hu hw) (omega arith)),
    )

-- ---- along two axes

component_within : (k : ℕ) (a : Axis) (v : Vector ℤ) → vectors.IsWithin k v → unsigned_abs (component_along a v) ≤ k
component_within k X v h = h.x
component_within k Y v h = h.y
component_within k Z v h = h.z

pub entry_within : (k : ℕ) (a b : Axis) (v : Vector (Vector ℤ)) → AreAllWithin k v → unsigned_abs (component_along b (component_along a v)) ≤ k
entry_within k X b v h = component_within k b v.x h.x
entry_within k Y b v h = component_within k b v.y h.y
entry_within k Z b v h = component_within k b v.z h.z

-- a sum of products of displacements by two sides, the second of which is at most the volume
pub product_by_volume : (p : ℤ) (a b v : ℕ) → unsigned_abs p ≤ 2 ^ 107 → a ≤ 16000000 → b ≤ v → unsigned_abs (p *ℤ pos a *ℤ pos b) ≤ v * 2 ^ 133
product_by_volume p a b v h m l =
    let e : unsigned_abs (p *ℤ pos a *ℤ pos b) ≡ unsigned_abs p * a * b = unsigned_abs-mul (p *ℤ pos a) (pos b) ∙ ap (λ k. k * b) (unsigned_abs-mul p (pos a)) in
    rw e (omega (arith, mul-le (unsigned_abs p * a) b (2 ^ 107 * 16000000) v (mul-le (unsigned_abs p) a (2 ^ 107) 16000000 h m) l))

-- a virial by a side
pub virial_by_side : (w : ℤ) (b v : ℕ) → unsigned_abs w ≤ 2 ^ 126 → b ≤ v → unsigned_abs (w *ℤ pos b) ≤ v * 2 ^ 126
virial_by_side w b v h l = rw (unsigned_abs-mul w (pos b)) (omega (arith, mul-le (unsigned_abs w) b (2 ^ 126) v h l))

-- ---- factors of a denominator

pub pressure_factors : (dt one orders volumes x y z : ℕ)
    → 4000000000 * (4294967296 * (4294967296 * (dt * (dt * (100000 * (4294967296 * (one * (orders * (volumes * (x * (y * (z * 602214076))))))))))))
    ≡ 4 * 10 ^ 9 * 2 ^ 64 * (dt * dt) * (10 ^ 5 * 2 ^ 32 * one * orders) * (volumes * (x * y * z) * 602214076)
pressure_factors dt one orders volumes x y z = omega arith
