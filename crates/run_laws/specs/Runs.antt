-- A run from bytes to bytes: a job's text, a state's text, a number of steps and a direction determine the text of the
-- state after the steps.
use Rattle.std.specs.Prelude.{◌≡◌, ℕ, List, Some, Ok}
use Rattle.state.specs.StateText.{StateView, state_text}
use Rattle.integrator.specs.Frames.{Frames, steps_in}
use Rattle.integrator.specs.States.{frames_of, moved_state}
use Rattle.fallible.specs.Out.{Output, Appends, AppendsBeginning}
use Rattle.integrator.specs.declared.direction.Direction.{Direction}
use Rattle.run_laws.specs.Starts.{Law, Start, StartsAs}

-- `after` is the state after the steps from this start
pub record Ran (direction : Direction) (steps : ℕ) (start : Start) (after : StateView) : Type 0 where
  pub frames' : Frames
  pub stepped : steps_in direction start.dynamics steps (frames_of start.state) ≡ Some frames'
  pub moved : after ≡ moved_state start.state frames' start.counter

-- `text` is the text of the state after the steps
pub record IsRun (law : Law) (job state : List ℕ) (direction : Direction) (steps : ℕ) (text : List ℕ) : Type 0 where
  pub start : Start
  pub starts : StartsAs law job state direction steps (Ok start)
  pub after : StateView
  pub ran : Ran direction steps start after
  pub written : text ≡ state_text after

-- `after` is the state after the steps from these texts
pub record IsAfter (law : Law) (job state : List ℕ) (direction : Direction) (steps : ℕ) (after : StateView) : Type 0 where
  pub start : Start
  pub starts : StartsAs law job state direction steps (Ok start)
  pub ran : Ran direction steps start after

-- ---- the output

-- the run's text was written in full
pub record Wrote (law : Law) (job state : List ℕ) (direction : Direction) (steps : ℕ) (before after : Output) : Type 0 where
  pub text : List ℕ
  pub run : IsRun law job state direction steps text
  pub appends : Appends before after text

-- a write failed, after a beginning of the run's text
pub record WroteBeginning (law : Law) (job state : List ℕ) (direction : Direction) (steps : ℕ) (before after : Output) : Type 0 where
  pub text : List ℕ
  pub run : IsRun law job state direction steps text
  pub beginning : AppendsBeginning before after text
