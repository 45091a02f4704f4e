-- Segments on their way: an engine at the first state of a segment, and the state after it.
use Rattle.std.specs.Prelude.{◌≡◌, ◌⊎◌, ◌+◌, ℕ, ℤ, List, [], Bool, false, Option, Some, is_some}
use Rattle.engine.specs.Engines.{EngineView, HasNoEngine, IsEngineOf, IsOfState, Advanced}
use Rattle.engine.specs.declared.faults.InputFault.{InputFault}
use Rattle.fallible.specs.Out.{Appends, Output}
use Rattle.integrator.specs.States.{counter_after}
use Rattle.integrator.specs.declared.direction.Direction.{Direction}
use Rattle.job.specs.Values.{JobValue}
use Rattle.runs.specs.Visits.{BeganText}
use Rattle.runs.specs.Watching.{Report}
use Rattle.state.specs.StateText.{StateView}
use Rattle.streams.specs.OnTheWay.{HasNoState, OfState}
use Rattle.streams.specs.Plans.{IsReplayed, ReplayPlanView}
use Rattle.streams.specs.Replays.{IsVerdict, segment_line}
use Rattle.streams.specs.Watched.{AreOfRun, AreOfSegment, IsUnrun}
use Rattle.streams.specs.declared.differences.Difference.{Difference}
use Rattle.streams.specs.declared.faults.StreamFault.{StreamFault}
use Rattle.streams.specs.declared.faults.StreamFault.TheVariants as stream

-- ---- a run that is compared; `told` is the statement that a watcher got some reports

-- an engine that makes the steps to the counter of a state reaches that state, or one that first differs from it here
pub record Compares (e : EngineView) (t : StateView) (difference : Option Difference) : Type 0 where
  pub direction : Direction
  pub steps : ℕ
  pub counted : counter_after direction e.state.step steps ≡ Some t.step
  pub reached : EngineView
  pub went : Advanced direction steps e reached
  pub verdict : IsVerdict reached.state t difference

-- the watcher got the reports of a whole run between these counters
abbrev pub RunReported : (from to : ℤ) → Output → (told : List Report → Type 0) → Type 0
RunReported from to o told = (steps : ℕ) × (reports : List Report) × AreOfRun from to o steps steps reports × told reports

-- why an engine of the job doesn't take the state with this number, from 1
abbrev pub IsNotTaken : {A : Type 0} → JobValue → StateView → (number : ℕ) → StreamFault (InputFault A) → Type 0
IsNotTaken j t number (stream.State n f) = (n ≡ number) × IsOfState f × HasNoEngine j t f
IsNotTaken j t number stream.Memory = Unit {0}
IsNotTaken j t number _ = ⊥

-- Why an engine doesn't take the state with this number after the run to its counter, and the reports before: none if the
-- state is rejected before the run, and all if it is rejected after the run. If memory ran out, those of the steps that
-- were made.
abbrev pub FailsRun : {A : Type 0} → EngineView → StateView → (number : ℕ) → Output → (told : List Report → Type 0)
    → StreamFault (InputFault A) → Type 0
FailsRun e t number o told (stream.State n f) = IsNotTaken e.job t number (stream.State n f)
    × ((IsUnrun f × told []) ⊎ RunReported e.state.step t.step o told)
FailsRun e t number o told stream.Memory = (steps : ℕ) × (made : ℕ) × (reports : List Report)
    × AreOfRun e.state.step t.step o steps made reports × told reports
FailsRun e t number o told _ = ⊥

-- ---- a segment

-- the engine's line of a segment that is to be replayed; the code is safe for its second state
pub record IsEngineLine (plan : ReplayPlanView) (number : ℕ) (e : EngineView) (t : StateView) (line : List ℕ) : Type 0 where
  pub taken : EngineView
  pub safe : IsEngineOf e.job t taken
  pub replayed : IsReplayed plan number e.state.step t.step
  pub difference : Option Difference
  pub compared : Compares e t difference
  pub line' : line ≡ segment_line e.state.step t.step difference

-- what is written of the segment from an engine's state to another: its line, or nothing if it isn't to be replayed
pub data IsEngineText (plan : ReplayPlanView) (number : ℕ) (e : EngineView) (t : StateView) : (differs : Bool) → List ℕ → Type 0 where
  passed : (IsReplayed plan number e.state.step t.step → ⊥) → IsEngineText plan number e t false []
  compared : (line : List ℕ) (is : IsEngineLine plan number e t line) → IsEngineText plan number e t (is_some is.difference) line

-- the watcher got the reports of the segment with this number when `made` of its steps are made
abbrev pub SegmentReported : ReplayPlanView → (number : ℕ) → EngineView → StateView → Output → (told : List Report → Type 0)
    → (steps made : ℕ) → Type 0
SegmentReported plan number e t o told steps made =
    (reports : List Report) × AreOfSegment plan number e.state.step t.step o steps made reports × told reports

-- of the whole segment
abbrev pub WholeReported : ReplayPlanView → (number : ℕ) → EngineView → StateView → Output → (told : List Report → Type 0) → Type 0
WholeReported plan number e t o told = (steps : ℕ) × SegmentReported plan number e t o told steps steps

-- the segment with this number, from an engine's state to another, was written and reported
pub record ReplaysSegment (plan : ReplayPlanView) (number : ℕ) (e : EngineView) (before after : Output) (told : List Report → Type 0)
    (differs : Bool) (t : StateView) : Type 0 where
  pub line : List ℕ
  pub is : IsEngineText plan number e t differs line
  pub appends : Appends before after line
  pub reported : WholeReported plan number e t before told

-- Why the segment with this number, from an engine's state to that of a text, wasn't written, with the output and the
-- reports before the fault. If a state is rejected, the reports are those of the whole segment, unless it wasn't run.
abbrev pub FailsSegment : {A : Type 0} → ReplayPlanView → (number : ℕ) → EngineView → (text : List ℕ) → (before after : Output)
    → (told : List Report → Type 0) → StreamFault (InputFault A) → Type 0
FailsSegment plan number e text before after told (stream.Out f) =
    OfState text (λ t. BeganText (IsEngineLine plan number e t) before after × WholeReported plan number e t before told)
FailsSegment plan number e text before after told (stream.State n f) =
    HasNoState e.job text (number + 2) (stream.State n f) × (after ≡ before)
    × ((IsUnrun f × told []) ⊎ OfState text (λ t. WholeReported plan number e t before told))
FailsSegment plan number e text before after told stream.Memory = (after ≡ before)
    × (told [] ⊎ OfState text (λ t. (steps : ℕ) × (made : ℕ) × SegmentReported plan number e t before told steps made))
FailsSegment plan number e text before after told _ = ⊥
