-- Atoms that have moved.
use Rattle.std.specs.Prelude.{ℕ, pos, ◌≡◌, ◌+◌, ◌<◌, true}
use Rattle.fixed.specs.declared.frac.Frac.{Frac}
use Rattle.ring_box.specs.Distances.{is_near, square_of}
use Rattle.ring_box.specs.Places.{ArePlaces}
use Rattle.ring_box.specs.declared.boxes.RingBox.{RingBox}
use Rattle.ring_box.specs.declared.vectors.Place3.{Place3}

-- Two atoms are at p and q, and were at p0 and q0. If they are nearer than c, and each is nearer than h to where it was,
-- they were nearer than c + 2 h.
abbrev pub WereNear : Type 0
WereNear =
    (f : Frac) (b : RingBox) (c h : ℕ) (p0 p q q0 : Place3) → 0 < c → 0 < h → ArePlaces p0 → ArePlaces p → ArePlaces q → ArePlaces q0
    → is_near f (square_of b p q) (pos c) ≡ true → is_near f (square_of b p0 p) (pos h) ≡ true → is_near f (square_of b q q0) (pos h) ≡ true
    → is_near f (square_of b p0 q0) (pos (c + h + h)) ≡ true
