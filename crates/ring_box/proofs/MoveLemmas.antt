-- Atoms that have moved: two that are near were near within a margin, if each is near where it was.
use Rattle.std.proofs.Common.{◌≡◌, ℕ, pos, true, ◌+◌, ◌*◌, ◌^◌, ◌<◌, ◌≤◌, nat_lt, unsigned_abs, ◌∙◌, arith, sym}
use Rattle.std.proofs.lemmas.Bool.Decides.{nat_tests}
use Rattle.std.proofs.lemmas.Int.{ints, unsigned_abs-mul}
use Rattle.std.proofs.lemmas.Nat.{mul-le}
use Rattle.fixed.specs.declared.frac.Frac.{Frac}
use Rattle.fixed.specs.declared.frac.Frac.TheVariants.{F24, F32, F40}
use Rattle.ring_box.proofs.DistanceLemmas.{near_bound, near_is}
use Rattle.ring_box.proofs.RingLemmas.{circle}
use Rattle.ring_box.proofs.SumLemmas.{shorter}
use Rattle.ring_box.specs.Distances.{axis_separation, is_near, square_of, unit_of, widening_of, x_separation, y_separation, z_separation}
use Rattle.ring_box.specs.Moves.{WereNear}
use Rattle.ring_box.specs.Places.{ArePlaces, difference}
use Rattle.ring_box.specs.declared.boxes.RingBox.{RingBox}
use Rattle.ring_box.specs.declared.vectors.Place3.{Place3}

-- along an axis
axis : (L x0 x y y0 : ℕ) → x0 < 2 ^ 32 → x < 2 ^ 32 → y < 2 ^ 32 → y0 < 2 ^ 32
    → unsigned_abs (axis_separation L x0 y0) ≤ unsigned_abs (axis_separation L x y) + unsigned_abs (axis_separation L x0 x) + unsigned_abs (axis_separation L y y0)
axis L x0 x y y0 i j k l =
    let f = circle x0 x y0 i j l in
    let g = circle x y y0 j k l in
    let m = mul-le (unsigned_abs (difference x0 y0)) L (unsigned_abs (difference x0 x) + (unsigned_abs (difference x y) + unsigned_abs (difference y y0))) L (omega (arith, f, g)) (omega arith) in
    rw (unsigned_abs-mul (difference x0 y0) (pos L), unsigned_abs-mul (difference x y) (pos L), unsigned_abs-mul (difference x0 x) (pos L), unsigned_abs-mul (difference y y0) (pos L)) (omega (arith, m))

-- the scaled square of a sum
scaled_less : (k u v w s t r : ℕ) → u ≤ s → v ≤ t → w ≤ r → k * k * (u * u + v * v + w * w) ≤ k * s * (k * s) + k * t * (k * t) + k * r * (k * r)
scaled_less k u v w s t r f g h =
    omega (arith, mul-le (k * u) (k * u) (k * s) (k * s) (mul-le k u k s (omega arith) f) (mul-le k u k s (omega arith) f), mul-le (k * v) (k * v) (k * t) (k * t) (mul-le k v k t (omega arith) g) (mul-le k v k t (omega arith) g), mul-le (k * w) (k * w) (k * r) (k * r) (mul-le k w k r (omega arith) h) (mul-le k w k r (omega arith) h))

-- if two atoms are nearer than E, and each is within D of where it was, they were nearer than E + 2 D, in units of 1 / k
stays_near : (b : RingBox) (k E D : ℕ) (p0 p q q0 : Place3) → ArePlaces p0 → ArePlaces p → ArePlaces q → ArePlaces q0
    → k * k * square_of b p q < E * E → k * k * square_of b p0 p ≤ D * D → k * k * square_of b q q0 ≤ D * D
    → k * k * square_of b p0 q0 < (E + D + D) * (E + D + D)
stays_near b k E D p0 p q q0 h0 hp hq hq0 near from to =
    let a = k * unsigned_abs (x_separation b p q) in
    let a' = k * unsigned_abs (y_separation b p q) in
    let a'' = k * unsigned_abs (z_separation b p q) in
    let m = k * unsigned_abs (x_separation b p0 p) in
    let m' = k * unsigned_abs (y_separation b p0 p) in
    let m'' = k * unsigned_abs (z_separation b p0 p) in
    let n = k * unsigned_abs (x_separation b q q0) in
    let n' = k * unsigned_abs (y_separation b q q0) in
    let n'' = k * unsigned_abs (z_separation b q q0) in
    let one = shorter a a' a'' m m' m'' E D (omega (arith, near)) (omega (arith, from)) in
    let two = shorter (a + m) (a' + m') (a'' + m'') n n' n'' (E + D) D one (omega (arith, to)) in
    let x = axis b.x p0.x p.x q.x q0.x h0.x hp.x hq.x hq0.x in
    let y = axis b.y p0.y p.y q.y q0.y h0.y hp.y hq.y hq0.y in
    let z = axis b.z p0.z p.z q.z q0.z h0.z hp.z hq.z hq0.z in
    let s = scaled_less k _ _ _ _ _ _ x y z in
    omega (arith, s, two)

-- ---- at each number of fraction bits

bound_near : (f : Frac) (s c : ℕ) → 0 < c → widening_of f * s < unit_of f * c * (unit_of f * c) → is_near f s (pos c) ≡ true
bound_near f s c p h =
    let e : nat_lt (widening_of f * s) (unit_of f * c * (unit_of f * c)) ≡ true = grind (arith, nat_tests) in
    sym (near_is f s (pos c) (omega (arith, ints))) ∙ e

stays_within : (f : Frac) (b : RingBox) (E D : ℕ) (p0 p q q0 : Place3) → ArePlaces p0 → ArePlaces p → ArePlaces q → ArePlaces q0
    → widening_of f * square_of b p q < E * E → widening_of f * square_of b p0 p < D * D → widening_of f * square_of b q q0 < D * D
    → widening_of f * square_of b p0 q0 < (E + D + D) * (E + D + D)
stays_within F24 b E D p0 p q q0 i j k l near from to = let s = stays_near b 1 E D p0 p q q0 i j k l (omega (arith, near)) (omega (arith, from)) (omega (arith, to)) in omega (arith, s)
stays_within F32 b E D p0 p q q0 i j k l near from to = let s = stays_near b 1 E D p0 p q q0 i j k l (omega (arith, near)) (omega (arith, from)) (omega (arith, to)) in omega (arith, s)
stays_within F40 b E D p0 p q q0 i j k l near from to = let s = stays_near b 256 E D p0 p q q0 i j k l (omega (arith, near)) (omega (arith, from)) (omega (arith, to)) in omega (arith, s)

pub were_near : WereNear
were_near f b c h p0 p q q0 some margin i j k l near from to =
    let s = stays_within f b (unit_of f * c) (unit_of f * h) p0 p q q0 i j k l (near_bound f (square_of b p q) c some near) (near_bound f (square_of b p0 p) h margin from) (near_bound f (square_of b q q0) h margin to) in
    bound_near f (square_of b p0 q0) (c + h + h) (omega (arith, some)) (omega (arith, s))
