-- Frames, and the Levesque-Verlet step from one frame to the next and back (Levesque and Verlet 1993, J. Stat. Phys.
-- 72, 519). A step forward takes the frames p, c to c, n with n = 2 c - p + d(c), modulo 2^32. As d depends only on the
-- middle frame, a step back takes p, c to 2 p - c + d(p), p.
use Rattle.std.specs.Prelude.{ℕ, zero, suc, ℤ, neg_ℤ, ◌==◌, ◌≡◌, List, length, map, Option, Some, None, slice_index, slice_index_or, if◌then◌else◌}
use Rattle.std.specs.Option.{option_map, option_and_then}
use Rattle.std.specs.List.{All}
use Rattle.fixed.specs.declared.frac.Frac.{Frac}
use Rattle.ring_box.specs.declared.boxes.RingBox.{RingBox}
use Rattle.ring_box.specs.declared.vectors.Place3.{Place3}
use Rattle.ring_box.specs.declared.vectors.Vector.{Vector}
use Rattle.ring_box.specs.Distances.{square_of}
use Rattle.ring_box.specs.Forces.{acting_distance_of, force_along_of, no_force}
use Rattle.ring_box.specs.Places.{ArePlaces, places_of}
use Rattle.integrator.specs.Displacement.{displacement_of, next_place_of}
use Rattle.integrator.specs.Forces.{forces_of, numbers_from}
use Rattle.integrator.specs.declared.direction.Direction.{Direction}
use Rattle.integrator.specs.declared.direction.Direction.TheVariants.{Forward, Back}

-- the grid coordinates of each atom
abbrev pub Frame : Type 0
Frame = List Place3

-- The dynamics of the atoms: the box, core and cutoff, the time step in fs, each atom's mass in 10^-5 u, and the pair
-- potential as its derivative at a pair of atoms and a distance, if it has a value there.
pub record Dynamics : Type 0 where
  pub frac : Frac
  pub ring : RingBox
  pub core : ℤ
  pub cutoff : ℤ
  pub time_step : ℕ
  pub masses : List ℕ
  pub slope : ℕ × ℕ → ℤ → Option ℤ

-- The force on the lower atom of a pair with coordinates p and q. It is 0 if the pair doesn't interact (no distance is
-- given). It is also 0 if both atoms have the same coordinates: then the force has no direction, and the derivative
-- isn't needed.
abbrev pub force_at : RingBox → (ℤ → Option ℤ) → Option ℤ → Place3 → Place3 → Option (Vector ℤ)
force_at ring slope None p q = Some no_force
force_at ring slope (Some r) p q =
    if square_of ring p q == 0 then Some no_force
    else option_map (λ g. force_along_of ring (neg_ℤ g) p q) (slope r)

-- the force on the lower atom of a pair of a frame
abbrev pub pair_force : Dynamics → Frame → ℕ × ℕ → Option (Vector ℤ)
pair_force dynamics frame p =
    force_at dynamics.ring (dynamics.slope p)
    (acting_distance_of dynamics.frac dynamics.ring dynamics.core dynamics.cutoff (places_of frame p.0)
    (places_of frame p.1)) (places_of frame p.0) (places_of frame p.1)

-- the force on each atom of a frame, if every pair has a force
abbrev pub frame_forces : Dynamics → Frame → Option (List (Vector ℤ))
frame_forces dynamics frame = forces_of (pair_force dynamics frame) (length frame)

-- the next coordinates of an atom of the mass m with the coordinates p and then c, if the force on it at c is f
abbrev pub next_places : Dynamics → ℕ → Place3 → Place3 → Vector ℤ → Place3
next_places dynamics m p c f = record {
  x = next_place_of p.x c.x (displacement_of dynamics.frac f.x dynamics.time_step m dynamics.ring.x);
  y = next_place_of p.y c.y (displacement_of dynamics.frac f.y dynamics.time_step m dynamics.ring.y);
  z = next_place_of p.z c.z (displacement_of dynamics.frac f.z dynamics.time_step m dynamics.ring.z);
}

-- the next coordinates of the atom a after the frames p and c; `forces` are the forces at c
abbrev pub next_at : Dynamics → Frame → Frame → List (Vector ℤ) → ℕ → Place3
next_at dynamics p c forces a =
    next_places dynamics (slice_index dynamics.masses a) (places_of p a) (places_of c a) (slice_index_or forces a no_force)

-- the frame after p and c
abbrev pub moved_frame : Dynamics → Frame → Frame → List (Vector ℤ) → Frame
moved_frame dynamics p c forces = map (next_at dynamics p c forces) (numbers_from 0 (length c))

-- the frame after p and c, if every pair has a force at c
abbrev pub next_frame : Dynamics → Frame → Frame → Option Frame
next_frame dynamics p c = option_map (moved_frame dynamics p c) (frame_forces dynamics c)

-- two consecutive frames
pub record Frames : Type 0 where
  pub previous : Frame
  pub current : Frame

abbrev pub frames : Frame → Frame → Frames
frames p c = record { previous = p; current = c }

-- one step forward
abbrev pub step : Dynamics → Frames → Option Frames
step dynamics f = option_map (frames f.current) (next_frame dynamics f.previous f.current)

-- one step back
abbrev pub back : Dynamics → Frames → Option Frames
back dynamics f = option_map (λ n. frames n f.previous) (next_frame dynamics f.current f.previous)

-- one step in a direction
abbrev pub step_in : Direction → Dynamics → Frames → Option Frames
step_in Forward dynamics f = step dynamics f
step_in Back dynamics f = back dynamics f

-- n steps in a direction
unfoldable pub steps_in : Direction → Dynamics → ℕ → Frames → Option Frames
steps_in direction dynamics zero f = Some f
steps_in direction dynamics (suc n) f = option_and_then (steps_in direction dynamics n) (step_in direction dynamics f)

-- the two frames exchanged
abbrev pub exchanged : Frames → Frames
exchanged f = frames f.current f.previous

abbrev pub opposite : Direction → Direction
opposite Forward = Back
opposite Back = Forward

-- both frames have the same number of atoms, with coordinates below 2^32
pub record AreOfSameAtoms (f : Frames) : Type 0 where
  pub alike : length f.previous ≡ length f.current
  pub previous : All ArePlaces f.previous
  pub current : All ArePlaces f.current
