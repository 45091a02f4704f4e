-- The end of steps at a pair without a force: the first such pair of the frame whose forces the next step needs.
use Rattle.std.specs.Prelude.{ℕ, ℤ, ◌≡◌, ◌<◌, length, Option, Some, pos, ◌+ℤ◌, is_none, ◌-ℤ◌, slice_index}
use Rattle.std.specs.Option.{option_and_then}
use Rattle.std.specs.List.{find}
use Rattle.ring_box.specs.Forces.{acting_distance_of}
use Rattle.ring_box.specs.declared.vectors.Vector.{Vector}
use Rattle.integrator.specs.declared.systems.System.{System}
use Rattle.run_laws.specs.declared.tested_run.slope_faults.SlopeFault.{SlopeFault}
use Rattle.integrator.specs.declared.direction.Direction.{Direction}
use Rattle.integrator.specs.declared.direction.Direction.TheVariants.{Forward, Back}
use Rattle.ring_box.specs.Places.{places_of}
use Rattle.integrator.specs.Frames.{Frame, Frames, Dynamics, pair_force, steps_in}
use Rattle.integrator.specs.Forces.{pairs_of}

-- the first pair without a force, by the lower index, then by the higher
abbrev pub first_without_force : (ℕ × ℕ → Option (Vector ℤ)) → ℕ → Option (ℕ × ℕ)
first_without_force force n = find (λ p. is_none (force p)) (pairs_of n)

-- why a pair of atoms has no derivative at a distance
abbrev pub Faults : Type 0
Faults = ℕ × ℕ → ℤ → Option SlopeFault

-- the faults of a system; `fault` is why its kernel has no derivative for two types of atoms at a distance
abbrev pub faults_of : {K A : Type 0} → (K → ℕ → ℕ → ℤ → Option SlopeFault) → System K A → Faults
faults_of fault s p r = fault s.kernel (slice_index s.types.items p.0) (slice_index s.types.items p.1) r

-- why a pair has no force
abbrev pub pair_fault : Dynamics → Faults → Frame → ℕ × ℕ → Option SlopeFault
pair_fault dynamics faults frame p =
    option_and_then (faults p) (acting_distance_of dynamics.frac dynamics.ring dynamics.core dynamics.cutoff
    (places_of frame p.0) (places_of frame p.1))

-- the frame whose forces a step in a direction needs
abbrev pub middle : Direction → Frames → Frame
middle Forward f = f.current
middle Back f = f.previous

-- Of n steps from the frames f, `done` can be made. In the frame whose forces the next step needs, `pair` is the first
-- pair without a force, because of this fault.
pub record StopsAt (direction : Direction) (dynamics : Dynamics) (faults : Faults) (n : ℕ) (f : Frames) (done : ℕ)
    (pair : ℕ × ℕ) (fault : SlopeFault) : Type 0 where
  pub reached : Frames
  pub steps : steps_in direction dynamics done f ≡ Some reached
  pub early : done < n
  pub first : first_without_force (pair_force dynamics (middle direction reached)) (length (middle direction reached)) ≡ Some pair
  pub why : pair_fault dynamics faults (middle direction reached) pair ≡ Some fault

-- The counter of the frame whose forces the next step needs. A state's counter counts its current frame; a step back
-- needs the forces at the previous frame, whose counter is one less.
abbrev pub forced_counter : Direction → ℤ → ℕ → ℤ
forced_counter Forward step done = step +ℤ pos done
forced_counter Back step done = step -ℤ pos done -ℤ pos 1
