-- The two halves of a pair's force.
use Rattle.std.proofs.Common.{◌≡◌, ◌∙◌, ℕ, ◌+◌, ◌*◌, ◌^◌, ◌<◌, ◌≤◌, ℤ, pos, arith, true, false, Some, None, refl, inl, inr}
use Rattle.std.specs.Prelude.{unsigned_abs, ◌*ℤ◌, ◌<ℤ◌, int_lt}
use Rattle.std.specs.Int.{int_max}
use Rattle.std.proofs.lemmas.Nat.{mul-le}
use Rattle.std.proofs.lemmas.Int.{ints, unsigned_abs-mul}
use Rattle.std.proofs.lemmas.Bool.{cases_Bool, cases_eq}
use Rattle.ring_box.specs.Acting.{ActingPair, IsReach, Reach, HalvesAreWhole, acting_of, between, force_of, length_of, limit_of}
use Rattle.ring_box.specs.Distances.{axis_separation, distance_at, is_near, square, square_of, x_separation, y_separation, z_separation}
use Rattle.ring_box.specs.Forces.{component_of, force_along_of, no_force, pair_force_of, taken_distance_of}
use Rattle.ring_box.specs.Places.{ArePlaces, difference}
use Rattle.ring_box.specs.declared.boxes.RingBox.{RingBox}
use Rattle.ring_box.specs.declared.vectors.Place3.{Place3}
use Rattle.ring_box.specs.declared.vectors.Vector.{Vector}
use Rattle.ring_box.proofs.DistanceLemmas.{length_apart, in_reach, out_of_reach}
use Rattle.ring_box.proofs.ForceLemmas.{force_apart, force_together}
use Rattle.ring_box.proofs.PlaceLemmas.{difference_turned}

-- ---- interacting pairs

-- if the squared distance of two atoms reaches the limit, they don't interact
pub idle : (d : Reach) (b : RingBox) (p q : Place3) (s : ℕ) → IsReach d → s ≡ square_of b p q → limit_of d.frac d.cutoff ≤ s → None ≡ acting_of d b p q
idle d b p q s a e h =
    let n : is_near d.frac (square_of b p q) d.cutoff ≡ false = rw (← e) (out_of_reach d.frac s d.core d.cutoff a.core a.order h) in
    rw n refl

idle_is_far : (d : Reach) (b : RingBox) (p q : Place3) → acting_of d b p q ≡ None → is_near d.frac (square_of b p q) d.cutoff ≡ false
idle_is_far d b p q h =
    elim (cases_Bool (is_near d.frac (square_of b p q) d.cutoff)) [
      | inl e ↦
          let same : Some (between b p q (taken_distance_of d.frac b d.core p q)) ≡ None = rw e at h in
          absurd (grind (arith, same))
      | inr e ↦ e
    ]

-- if the squared distance of two atoms is below the limit, they interact with these values
pub acts : (d : Reach) (b : RingBox) (p q : Place3) (s l : ℕ) (x y z e : ℤ) → IsReach d →
    x ≡ x_separation b p q → y ≡ y_separation b p q → z ≡ z_separation b p q → s ≡ square x + square y + square z →
    s < limit_of d.frac d.cutoff → l ≡ length_of s → e ≡ int_max (pos (distance_at d.frac s)) d.core →
    Some (record { x = x; y = y; z = z; length = l; distance = e }) ≡ acting_of d b p q
acts d b p q s l x y z e a f g h i j k m =
    let t : s ≡ square_of b p q = rw (i, f, g, h) refl in
    let n : is_near d.frac (square_of b p q) d.cutoff ≡ true = rw (← t) (in_reach d.frac s d.core d.cutoff a.core a.order j) in
    rw (n, m, k, f, g, h, t) refl

side_turned : (L x y : ℕ) → x < 2 ^ 32 → y < 2 ^ 32 → square (axis_separation L x y) ≡ square (axis_separation L y x)
side_turned L x y p q = rw (unsigned_abs-mul (difference x y) (pos L), unsigned_abs-mul (difference y x) (pos L), difference_turned x y p q) refl

pub square_turned : (b : RingBox) (p q : Place3) → ArePlaces p → ArePlaces q → square_of b p q ≡ square_of b q p
square_turned b p q h i = rw (side_turned b.x p.x q.x h.x i.x, side_turned b.y p.y q.y h.y i.y, side_turned b.z p.z q.z h.z i.z) refl

-- if two atoms don't interact, they don't interact in the opposite order
pub idle_turned : (d : Reach) (b : RingBox) (p q : Place3) → ArePlaces p → ArePlaces q → acting_of d b p q ≡ None → acting_of d b q p ≡ None
idle_turned d b p q h i n =
    let e : is_near d.frac (square_of b p q) d.cutoff ≡ false = idle_is_far d b p q n in
    let f : is_near d.frac (square_of b q p) d.cutoff ≡ false = rw (← square_turned b p q h i) e in
    rw f refl

-- ---- both halves

no_component : (g : ℤ) → component_of g (pos 0) 1 ≡ pos 0
no_component g = let e : g *ℤ pos 0 ≡ pos 0 = omega (arith, ints) in rw e refl

no_part : (a : ℤ) → unsigned_abs a * unsigned_abs a ≡ 0 → a ≡ pos 0
no_part a h = let e : unsigned_abs a ≡ 0 = grind (arith, mul-le 1 1 (unsigned_abs a) (unsigned_abs a)) in omega (arith, ints)

-- the force between two atoms at the same point is zero
together : (b : RingBox) (g r : ℤ) (p q : Place3) → square_of b p q ≡ 0 → force_of (between b p q r) g ≡ no_force
together b g r p q e =
    let x : x_separation b p q ≡ pos 0 = no_part (x_separation b p q) (omega arith) in
    let y : y_separation b p q ≡ pos 0 = no_part (y_separation b p q) (omega arith) in
    let z : z_separation b p q ≡ pos 0 = no_part (z_separation b p q) (omega arith) in
    rw (e, x, y, z, no_component g) refl

-- the force of the pair of two atoms is the force along the line between them
along_between : (b : RingBox) (g r : ℤ) (p q : Place3) → force_of (between b p q r) g ≡ force_along_of b g p q
along_between b g r p q =
    elim (cases_eq (square_of b p q) 0) [
      | inl e ↦ rw (together b g r p q e, force_together b g p q e) refl
      | inr n ↦
          let h : 0 < square_of b p q = omega arith in
          rw (length_apart (square_of b p q) h, force_apart b g p q h) refl
    ]

-- the two halves of a pair's force make the force of the pair
pub halves : (d : Reach) (b : RingBox) (m : ℤ → ℤ) (p q : Place3) → HalvesAreWhole d b m p q
halves d b m p q =
    elim (cases_Bool (is_near d.frac (square_of b p q) d.cutoff)) [
      | inl e ↦ rw (e, along_between b (m (taken_distance_of d.frac b d.core p q)) (taken_distance_of d.frac b d.core p q) p q) refl
      | inr e ↦ rw e refl
    ]

-- ---- facts about an interacting pair

-- an interacting pair is nearer than the cutoff, and its distance is `taken_distance_of`
pub taken : (d : Reach) (b : RingBox) (p q : Place3) (a : ActingPair) → acting_of d b p q ≡ Some a →
    (is_near d.frac (square_of b p q) d.cutoff ≡ true) × (a.distance ≡ taken_distance_of d.frac b d.core p q)
taken d b p q a h =
    elim (cases_Bool (is_near d.frac (square_of b p q) d.cutoff)) [
      | inl e ↦
          let same : Some (between b p q (taken_distance_of d.frac b d.core p q)) ≡ Some a = rw e at h in
          (e, grind (arith, same))
      | inr e ↦ let no : None ≡ Some a = rw e at h in absurd (grind (arith, no))
    ]

-- if the test that a distance is below the cutoff passes, the distance is below the cutoff
pub below_cutoff : (q : ℕ) (c : ℤ) → int_lt (pos q) c ≡ true → pos q <ℤ c
below_cutoff q c h = grind (arith, ints)

-- the force computed from an interacting pair is the pair's force
pub whole : (d : Reach) (b : RingBox) (m : ℤ → ℤ) (p q : Place3) (a : ActingPair) (v : Vector ℤ) → acting_of d b p q ≡ Some a →
    v ≡ force_of a (m a.distance) → Some v ≡ pair_force_of d.frac b m d.core d.cutoff p q
whole d b m p q a v h e = rw e ((rw h refl) ∙ halves d b m p q)
