-- Commands as contracts see them, with bytes in place of borrows. A new command is a row of `CommandView`.
use Rattle.std.specs.Prelude.{ℕ, ℤ, Bool, Option}
use Rattle.clap.specs.Words.{Text}
use Rattle.integrator.specs.declared.direction.Direction.{Direction}
use Rattle.command_line.specs.declared.commands.EachOutput.{EachOutput}
use Rattle.command_line.specs.declared.commands.Quantity.{Quantity}
use Rattle.command_line.specs.declared.commands.Table.{Table}

-- the arguments of `run` and `back`
pub record RunView : Type 0 where
  pub direction : Direction
  pub job : Text
  pub state : Text
  pub steps : ℕ
  pub workers : ℕ
  pub progress : Bool

-- the arguments of `trajectory`, `states` and `observe`: a run, and the number of steps from one shown state to the next
pub record VisitsView : Type 0 where
  pub run : RunView
  pub every : ℕ

-- the arguments of `replay`: a job, a stream of states, the number of workers, the range of the replayed counters, the
-- part of all segments that is replayed, and whether progress is reported
pub record ReplayView : Type 0 where
  pub job : Text
  pub states : Text
  pub workers : ℕ
  pub from : ℤ
  pub to : ℤ
  pub part : ℕ
  pub parts : ℕ
  pub progress : Bool

-- the arguments of a command with `--each`: a job, a stream of states, and the text that shows a state
pub record EachView : Type 0 where
  pub job : Text
  pub states : Text
  pub shown : EachOutput

-- the arguments of `curve`
pub record CurveView : Type 0 where
  pub job : Text
  pub points : ℕ
  pub energy : Bool
  pub slope : Bool
  pub grid : Bool
  pub types : Option (Text × Text)
  pub progress : Bool

-- a command with its arguments
pub data CommandView : Type 0 where
  Start : (job gro : Text) → (frame : ℕ) → CommandView
  Run : RunView → CommandView
  Trajectory : VisitsView → CommandView
  States : VisitsView → CommandView
  Replay : ReplayView → CommandView
  Observe : VisitsView → Table → CommandView
  Frame : (state : Text) → CommandView
  Measure : Quantity → (job state : Text) → CommandView
  Each : EachView → CommandView
  Check : (job : Text) → (listing : Option Text) → (progress : Bool) → CommandView
  Code : (job : Text) → (energy : Bool) → CommandView
  Curve : CurveView → CommandView
  Explain : (code : Option Text) → CommandView
