-- Runs that show states: the texts and reports, and why not all of them.
use Rattle.std.specs.Prelude.{◌≡◌, ◌⊎◌, ℕ, suc, ◌+◌, ◌≤◌, ◌<◌, List, [], None, false, is_none, Result, OnOk, IfErr}
use Rattle.std.specs.List.{All}
use Rattle.fallible.specs.Failures.{IfRefused}
use Rattle.fallible.specs.Out.{Output}
use Rattle.fallible.specs.declared.failure.Failure.{Failure}
use Rattle.fallible.specs.declared.failure.Failure.TheVariants.{Memory, Refused}
use Rattle.integrator.specs.States.{counter_after}
use Rattle.integrator.specs.declared.direction.Direction.{Direction}
use Rattle.integrator.specs.declared.faults.StepFault.TheVariants as step
use Rattle.engine.specs.Engines.{AreSafe, CounterFits, CounterLeaves, EngineView, HasNoEngineOfTexts, IsEngineOfTexts, IsOfEnergy, Advanced}
use Rattle.engine.specs.EngineEnergies.{HasNoEnergyOfTexts}
use Rattle.engine.specs.declared.faults.InputFault.{InputFault}
use Rattle.runs.specs.Observations.{HasEnergy}
use Rattle.runs.specs.Plans.{PlanView, last_text, steps_made, steps_to}
use Rattle.runs.specs.Visits.{BeganText, IsShownOfRun, IsTextOnWay, Showing, WroteTexts}
use Rattle.runs.specs.Watching.{IsInTime, Report, counts_of, hundredths_behind}
use Rattle.runs.specs.declared.faults.RunFault.{RunFault}
use Rattle.runs.specs.declared.faults.RunFault.TheVariants as run

-- ---- texts and reports

-- The first `count` texts of a plan were written, and progress was reported up to `done` steps: by one report for each
-- step up to there that completes a hundredth of all steps, in order, and each in time. `told` is the statement that
-- the watcher got these reports.
pub record HasShown (IsText : ℕ → List ℕ → Type 0) (plan : PlanView) (count done : ℕ) (before after : Output)
    (told : List Report → Type 0) : Type 0 where
  pub wrote : WroteTexts IsText count before after
  pub reports : List Report
  pub counts : counts_of reports ≡ hundredths_behind (steps_made plan) 0 done
  pub in_time : All (IsInTime IsText plan before) reports
  pub told' : told reports

-- ---- early ends of a run that has begun

-- Memory ran out after `done` steps: the output holds the whole texts up to there, and never the last. If the text
-- after exactly `done` steps is missing, memory ran out while that text was made.
pub record LeftWhole (Allocates : Type 0) (IsText : ℕ → List ℕ → Type 0) (plan : PlanView) (done : ℕ)
    (before after : Output) (told : List Report → Type 0) : Type 0 where
  pub count : ℕ
  pub few : count ≤ last_text plan
  pub no_more : (k : ℕ) → k < count → steps_to plan k ≤ done
  pub up_to : done ≤ steps_to plan count
  pub in_text : done ≡ steps_to plan count → Allocates
  pub shown : HasShown IsText plan count done before after told

-- A write failed: the output holds whole texts and a beginning of the next, and the reports are those up to that text.
pub record LeftBeginning (IsText : ℕ → List ℕ → Type 0) (plan : PlanView) (before after : Output)
    (told : List Report → Type 0) : Type 0 where
  pub count : ℕ
  pub few : count ≤ last_text plan
  pub between : Output
  pub shown : HasShown IsText plan count (steps_to plan count) before between told
  pub began : BeganText (IsText count) between after

-- Memory ran out `made` steps after the first `first` ones, in a stretch of `steps` steps of an engine; `done` steps
-- are made in all.
pub record IsStopped (direction : Direction) (first steps made : ℕ) (e f : EngineView) (done : ℕ) : Type 0 where
  pub few : made < steps
  pub went : Advanced direction made e f
  pub is : done ≡ first + made

-- ---- faults

-- Why not all texts of a plan were written, the output after the fault, and the reports before it. A run can't begin
-- (`Fails`), or the counter would leave 64 bits (`Leaves`); then there is no text and no report. Or a run has begun
-- (`Begun`), and memory ran out or the output failed.
module _ {R : Type 0} (Fails : Failure R → Type 0) (Leaves Begun Allocates : Type 0) (IsText : ℕ → List ℕ → Type 0)
    (plan : PlanView) (before after : Output) (told : List Report → Type 0) where
  abbrev pub Unshown : RunFault R → Type 0
  Unshown (run.Rejected f) = Fails (Refused f) × (after ≡ before) × told []
  Unshown run.Memory = Fails Memory × (after ≡ before) × told []
  Unshown (run.Steps step.StepRange) = Leaves × (after ≡ before) × told []
  Unshown (run.Steps (step.Memory done)) = Begun × LeftWhole Allocates IsText plan done before after told
  Unshown (run.Out f) = Begun × LeftBeginning IsText plan before after told

-- ---- of an engine

-- the counter of an engine fits after all steps of the plan
abbrev pub FitsPlan : PlanView → EngineView → Type 0
FitsPlan plan e = is_none (counter_after plan.direction e.state.step plan.steps) ≡ false

-- or it would leave 64 bits
abbrev pub LeavesPlan : PlanView → EngineView → Type 0
LeavesPlan plan e = counter_after plan.direction e.state.step plan.steps ≡ None

-- why not all states of an engine were shown, once its observer is kept
abbrev pub IsWayUnshown : {R : Type 0} → Showing → PlanView → EngineView → (before after : Output)
    → (told : List Report → Type 0) → RunFault R → Type 0
IsWayUnshown {R} Shows plan e before after told =
    Unshown {R = R} (λ _. ⊥) (LeavesPlan plan e) (FitsPlan plan e)
    Shows.allocates (IsTextOnWay Shows plan e) plan before after told

-- The engine that visits leave which end with this fault: unchanged if the counter would leave 64 bits, and otherwise
-- after the steps that were made. A failed output leaves it at the state whose text failed.
abbrev pub LeavesEngine : {R : Type 0} → PlanView → (e f : EngineView) → RunFault R → Type 0
LeavesEngine plan e f (run.Rejected fault) = ⊥
LeavesEngine plan e f run.Memory = ⊥
LeavesEngine plan e f (run.Steps step.StepRange) = f ≡ e
LeavesEngine plan e f (run.Steps (step.Memory done)) = Advanced plan.direction done e f
LeavesEngine plan e f (run.Out fault) =
    (number : ℕ) × (number ≤ last_text plan) × Advanced plan.direction (steps_to plan number) e f

-- ---- from bytes

-- the engine of these texts has an observer
pub record HasEnergyOfTexts (job state : List ℕ) : Type 0 where
  pub engine : EngineView
  pub opens : IsEngineOfTexts job state engine
  pub has : HasEnergy engine

-- The texts have an engine, with accepted slope code. If the texts of the states have energies, the code of the energy
-- itself is accepted too: its error comes before the errors of the steps.
abbrev pub HasBegun : Showing → (job state : List ℕ) → Type 0
HasBegun Shows job state = AreSafe job state × (Shows.observes → HasEnergyOfTexts job state)

-- why the states of a run from these texts can't be shown: the texts have no engine; or they have one, the texts of its
-- states have energies, and the energy itself has no accepted code
abbrev pub AreRejected : {A : Type 0} → Showing → (job state : List ℕ) → InputFault A → Type 0
AreRejected Shows job state f =
    HasNoEngineOfTexts job state f ⊎ IsOfEnergy (λ g. Shows.observes × HasNoEnergyOfTexts job state g) f

-- why not all states of a run from these texts were shown
abbrev pub IsUnshown : {A : Type 0} → Showing → (job state : List ℕ) → PlanView → (before after : Output)
    → (told : List Report → Type 0) → RunFault (InputFault A) → Type 0
IsUnshown {A} Shows job state plan before after told =
    Unshown {R = InputFault A} (λ failure. IfRefused failure (AreRejected Shows job state))
    (HasBegun Shows job state × CounterLeaves job state plan.direction plan.steps)
    (HasBegun Shows job state × CounterFits job state plan.direction plan.steps)
    Shows.allocates (IsShownOfRun Shows job state plan) plan before after told

-- The contract of a run from bytes that shows its states.
pub record RunsShown {X A : Type 0} (Shows : Showing) (job state : List ℕ) (plan : PlanView) (before after : Output)
    (told : List Report → Type 0) (result : Result X (RunFault (InputFault A))) : Type 0 where
  -- No instruction of the slope code faults, and no pair takes more instructions than the certified number.
  pub safe : OnOk result (AreSafe job state)
  -- The counter fits after all steps.
  pub fits : OnOk result (CounterFits job state plan.direction plan.steps)
  -- The texts of the plan are written, each of a state that a run of that many steps gives, according to the
  -- run specification. Progress is reported at each hundredth of the steps up to the last text, in time.
  pub shown : OnOk result (HasShown (IsShownOfRun Shows job state plan) plan (suc (last_text plan)) (steps_made plan)
      before after told)
  -- After an error: no text and no report if it comes before the steps; whole texts if memory ran out, and
  -- reports up to the last step that was made; whole texts and a beginning of the next if the output failed, and
  -- reports up to that text.
  pub unshown : IfErr result (IsUnshown Shows job state plan before after told)
