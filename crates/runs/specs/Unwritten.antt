-- Runs that write the state after all steps: why its text wasn't written.
use Rattle.std.specs.Prelude.{◌≡◌, ℕ, ◌-◌, ◌≤◌, ◌<◌, List}
use Rattle.fallible.specs.Out.{AppendsBeginning, Output}
use Rattle.integrator.specs.declared.direction.Direction.{Direction}
use Rattle.integrator.specs.declared.faults.StepFault.{StepFault}
use Rattle.integrator.specs.declared.faults.StepFault.TheVariants as step
use Rattle.engine.specs.Engines.{AreSafe, CounterFits, CounterLeaves, HasNoEngineOfTexts}
use Rattle.engine.specs.RunSpecification.{IsLevesqueVerletRun}
use Rattle.engine.specs.declared.faults.InputFault.{InputFault}
use Rattle.runs.specs.declared.faults.RunFault.{RunFault}
use Rattle.runs.specs.declared.faults.RunFault.TheVariants as run

-- Why steps of the engine of texts stop: the counter would leave 64 bits, and then no step is made; or memory ran out
-- after some steps and before the last.
abbrev pub AreStopped : List ℕ → List ℕ → Direction → ℕ → StepFault → Type 0
AreStopped job state direction steps step.StepRange = CounterLeaves job state direction steps × AreSafe job state
AreStopped job state direction steps (step.Memory done) =
    (done ≤ steps - 1) × (0 < done → CounterFits job state direction steps) × AreSafe job state

-- An output took a beginning of the only text of a run, and then a write failed.
pub record BeganLevesqueVerletRun (job state : List ℕ) (direction : Direction) (steps : ℕ) (before after : Output)
    : Type 0 where
  pub text : List ℕ
  pub run : IsLevesqueVerletRun job state direction steps text
  pub only : (other : List ℕ) → IsLevesqueVerletRun job state direction steps other → other ≡ text
  pub beginning : AppendsBeginning before after text

-- Why the text of a run wasn't written, and the output's content: with a beginning of the text if the output failed,
-- otherwise unchanged.
abbrev pub IsRunUnwritten : {A : Type 0} → (job state : List ℕ) → Direction → (steps : ℕ) → (before after : Output)
    → RunFault (InputFault A) → Type 0
IsRunUnwritten job state direction steps before after (run.Rejected f) = HasNoEngineOfTexts job state f × (after ≡ before)
IsRunUnwritten job state direction steps before after run.Memory = after ≡ before
IsRunUnwritten job state direction steps before after (run.Steps f) =
    AreStopped job state direction steps f × (after ≡ before)
IsRunUnwritten job state direction steps before after (run.Out f) =
    AreSafe job state × BeganLevesqueVerletRun job state direction steps before after

-- memory ran out, before the steps or after some of them, or the output failed
abbrev pub IsResourceFault : {R : Type 0} → RunFault R → Type 0
IsResourceFault (run.Rejected f) = ⊥
IsResourceFault run.Memory = Unit {0}
IsResourceFault (run.Steps f) = (done : ℕ) × (f ≡ step.Memory done)
IsResourceFault (run.Out f) = Unit {0}
