-- Pairs that act are within cutoff and margin, and were before their atoms moved by less than half the margin.
use Rattle.std.proofs.Common.{◌≡◌, ℕ, ◌*◌, ◌+◌, ◌<◌, ℤ, pos, negsuc, true, List, length, unsigned_abs, inl, inr, arith, refl, subst, sym, ◌∙◌, ◌+ℤ◌, ◌<ℤ◌, int_lt, All}
use Rattle.std.proofs.lemmas.Bool.{cases_lt, lt-ltb}
use Rattle.std.proofs.lemmas.Bool.Decides.{nat_tests}
use Rattle.std.proofs.lemmas.Int.{ints, unsigned_abs-mul}
use Rattle.std.proofs.lemmas.List.{get_or_past}
use Rattle.std.proofs.lemmas.Nat.{mul-le}
use Rattle.fixed.specs.declared.frac.Frac.{Frac}
use Rattle.fixed.specs.declared.frac.Frac.TheVariants.{F24, F32, F40}
use Rattle.cell_tiles.specs.Near.{pair_acts}
use Rattle.cell_tiles.proofs.CellLemmas.{are_places}
use Rattle.ring_box.specs.Acting.{IsReach, Reach}
use Rattle.ring_box.specs.Distances.{axis_separation, distance_at, is_near, square, square_of, unit_of, widening_of}
use Rattle.ring_box.specs.Places.{ArePlaces, no_place, places_of}
use Rattle.ring_box.specs.declared.boxes.RingBox.{RingBox}
use Rattle.ring_box.specs.declared.vectors.Place3.{Place3}
use Rattle.ring_box.proofs.ActingLemmas.{square_turned}
use Rattle.ring_box.proofs.DistanceLemmas.{in_reach, near_is}
use Rattle.ring_box.proofs.MoveLemmas.{were_near}
use Rattle.pair_lists.specs.Margins.{IsMargin}
use Rattle.pair_lists.specs.declared.margins.Margin.{Margin}
use Rattle.pair_lists.proofs.ListLaws.{acts_is_near}

-- ---- a greater cutoff

below_wider : (q : ℕ) (c h : ℤ) → pos 0 <ℤ h → int_lt (pos q) c ≡ true → int_lt (pos q) (c +ℤ h +ℤ h) ≡ true
below_wider q c h some near = grind (arith, ints, nat_tests)

-- two atoms are within cutoff and margin
wide_is : (d : Reach) (b : RingBox) (m : Margin) (frame : List Place3) (p : ℕ × ℕ) → IsMargin b d m
    → is_near d.frac (square_of b (places_of frame p.0) (places_of frame p.1)) (d.cutoff +ℤ m.half +ℤ m.half) ≡ true
    → pair_acts m.reach b frame p ≡ true
wide_is d b m frame p is near = acts_is_near m.reach b frame p ∙ rw (is.frac, is.cutoff) near

-- a pair that acts is within cutoff and margin
pub wider : (d : Reach) (b : RingBox) (m : Margin) (frame : List Place3) (p : ℕ × ℕ) → IsMargin b d m
    → pair_acts d b frame p ≡ true → pair_acts m.reach b frame p ≡ true
wider d b m frame p is acts =
    let s = square_of b (places_of frame p.0) (places_of frame p.1) in
    let near : is_near d.frac s d.cutoff ≡ true = sym (acts_is_near d b frame p) ∙ acts in
    wide_is d b m frame p is (below_wider (distance_at d.frac s) d.cutoff m.half is.some near)

-- ---- atoms that have moved

-- the default position is at no distance from itself
nowhere_square : (b : RingBox) → square_of b no_place no_place ≡ 0
nowhere_square b = rw (none b.x, none b.y, none b.z) refl
  where
    none : (L : ℕ) → square (axis_separation L 0 0) ≡ 0
    none L = rw (unsigned_abs-mul (pos 0) (pos L)) (omega arith)

some_limit : (f : Frac) (n : ℕ) → 0 < n → widening_of f * 0 < unit_of f * n * (unit_of f * n)
some_limit F24 n some = omega (arith, mul-le 1 1 n n some some)
some_limit F32 n some = omega (arith, mul-le 1 1 n n some some)
some_limit F40 n some = omega (arith, mul-le 1 1 n n some some)

nothing_near : (f : Frac) (h : ℤ) → pos 0 <ℤ h → is_near f 0 h ≡ true
nothing_near f h some =
    let n = unsigned_abs h in
    sym (near_is f 0 h some) ∙ lt-ltb (widening_of f * 0) (unit_of f * n * (unit_of f * n)) (some_limit f n (omega (arith, ints)))

-- each atom is nearer than half the margin to where it was, and so is the default for an index past the last atom
nearby : (d : Reach) (b : RingBox) (m : Margin) (from frame : List Place3) → IsMargin b d m → length from ≡ length frame
    → ((a : ℕ) → a < length frame → square_of b (places_of from a) (places_of frame a) < m.limit)
    → (a : ℕ) → is_near d.frac (square_of b (places_of from a) (places_of frame a)) m.half ≡ true
nearby d b m from frame is same moved a =
    elim (cases_lt a (length frame)) [
      | inl l ↦
          in_reach d.frac (square_of b (places_of from a) (places_of frame a)) (pos 0) m.half (omega (arith, ints)) is.some
          (rw (← is.limit) (moved a l))
      | inr g ↦
          rw (get_or_past from a no_place (omega arith), get_or_past frame a no_place g, nowhere_square b)
          (nothing_near d.frac m.half is.some)
    ]

-- a positive cutoff is its own size
near_size : (f : Frac) (s : ℕ) (c : ℤ) → pos 0 <ℤ c → is_near f s c ≡ true → is_near f s (pos (unsigned_abs c)) ≡ true
near_size f s (pos c) some near = near
near_size f s (negsuc c) some near = absurd (omega (arith, ints))

-- a pair that acts was within cutoff and margin, if each atom is nearer than half the margin to where it was
pub stayed : (d : Reach) (b : RingBox) (m : Margin) (from frame : List Place3) → IsReach d → IsMargin b d m
    → All ArePlaces from → All ArePlaces frame
    → length from ≡ length frame → ((a : ℕ) → a < length frame → square_of b (places_of from a) (places_of frame a) < m.limit)
    → (p : ℕ × ℕ) → pair_acts d b frame p ≡ true → pair_acts m.reach b from p ≡ true
stayed d b m from frame reach is before now same moved p acts =
    let c = unsigned_abs d.cutoff in
    let h = unsigned_abs m.half in
    let some : pos 0 <ℤ d.cutoff = omega (arith, ints, reach.core, reach.order) in
    let p0 = places_of from p.0 in
    let x = places_of frame p.0 in
    let y = places_of frame p.1 in
    let q0 = places_of from p.1 in
    let near = near_size d.frac (square_of b x y) d.cutoff some (sym (acts_is_near d b frame p) ∙ acts) in
    let first = near_size d.frac (square_of b p0 x) m.half is.some (nearby d b m from frame is same moved p.0) in
    let turned = square_turned b q0 y (are_places from p.1 before) (are_places frame p.1 now) in
    let second = near_size d.frac (square_of b y q0) m.half is.some
    (subst (λ s. is_near d.frac s m.half ≡ true) turned (nearby d b m from frame is same moved p.1)) in
    let were = were_near d.frac b c h p0 x y q0 (omega (arith, ints, some)) (omega (arith, ints, is.some))
    (are_places from p.0 before) (are_places frame p.0 now) (are_places frame p.1 now) (are_places from p.1 before) near first second in
    let sum : pos (c + h + h) ≡ d.cutoff +ℤ m.half +ℤ m.half = omega (arith, ints, some, is.some) in
    wide_is d b m from p is (subst (λ z. is_near d.frac (square_of b p0 q0) z ≡ true) sum were)
