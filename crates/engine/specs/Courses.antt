-- Courses: two consecutive frames of a system with their counter, and the effect of steps on them.
use Rattle.std.specs.Prelude.{◌≡◌, ℕ, ◌<◌, Some, Result, Ok, Err}
use Rattle.integrator.specs.Frames.{Frame, Frames, frames, steps_in}
use Rattle.integrator.specs.States.{counter_at}
use Rattle.integrator.specs.declared.direction.Direction.{Direction}
use Rattle.frame_sums.specs.SafeSystems.{safe_dynamics}
use Rattle.engine.specs.Counting.{middle_of}
use Rattle.engine.specs.declared.courses.Course.{Course}

-- the frames of a course
abbrev pub frames_in : {A : Type 0} → Course A → Frames
frames_in c = frames c.frames.previous.items c.frames.current.items

-- the one whose forces a step in a direction needs
abbrev pub middle_in : {A : Type 0} → Direction → Course A → Frame
middle_in direction c = middle_of direction c.frames.previous.items c.frames.current.items

-- n steps in a direction lead from one course to another of the same system
pub record HasGone {A : Type 0} (direction : Direction) (n : ℕ) (from to : Course A) : Type 0 where
  pub system : to.system.system ≡ from.system.system
  pub stepped : steps_in direction (safe_dynamics from.system.system) n (frames_in from) ≡ Some (frames_in to)
  pub counted : to.step ≡ counter_at direction from.step n

-- a run of n steps with this result: all are made, or memory ran out after fewer
abbrev pub HasRun : {A : Type 0} → Direction → (n : ℕ) → (from to : Course A) → Result (Unit {0}) ℕ → Type 0
HasRun direction n from to (Ok _) = HasGone direction n from to
HasRun direction n from to (Err done) = (done < n) × HasGone direction done from to

-- system, frames and counter are the same
pub record IsSameCourse {A : Type 0} (from to : Course A) : Type 0 where
  pub system : to.system.system ≡ from.system.system
  pub previous : to.frames.previous.items ≡ from.frames.previous.items
  pub current : to.frames.current.items ≡ from.frames.current.items
  pub step : to.step ≡ from.step
