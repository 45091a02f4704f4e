-- Visits: the states of a run that a plan shows, and the texts that show them, one after another. A visit doesn't
-- change the run: n steps and then m more are n + m steps (the law `steps_add` of `run_laws`).
use Rattle.std.specs.Prelude.{◌≡◌, ℕ, zero, suc, List, [], ◌++◌}
use Rattle.fallible.specs.Out.{Output, Appends, AppendsBeginning}
use Rattle.job.specs.JobText.{IsJobText, limits}
use Rattle.job.specs.Values.{JobValue}
use Rattle.state.specs.StateText.{StateView}
use Rattle.engine.specs.Engines.{EngineView, Advanced}
use Rattle.engine.specs.RunSpecification.{IsLevesqueVerletRun, IsTextOf}
use Rattle.runs.specs.Plans.{PlanView, steps_to}
use Rattle.runs.specs.declared.faults.TextFault.{TextFault}
use Rattle.runs.specs.declared.faults.TextFault.TheVariants as unwritten

-- ---- the text that shows a state

-- How states are shown: which texts show a state in a run of a job, by the number of the text; whether making a text
-- may request memory; and whether the texts have energies, so that accepted code of the energy itself is needed.
pub record Showing : Type 1 where
  pub texts : (job : JobValue) → (number : ℕ) → StateView → (text : List ℕ) → Type 0
  pub allocates : Type 0
  pub observes : Type 0

-- a text of this kind was written
pub record WroteText (IsText : List ℕ → Type 0) (before after : Output) : Type 0 where
  pub text : List ℕ
  pub shown : IsText text
  pub appends : Appends before after text

-- a write failed, after a beginning of a text of this kind
pub record BeganText (IsText : List ℕ → Type 0) (before after : Output) : Type 0 where
  pub text : List ℕ
  pub shown : IsText text
  pub beginning : AppendsBeginning before after text

-- why the text of a state wasn't written, and the output after the fault
abbrev pub FailsText : (IsText : List ℕ → Type 0) → (Allocates : Type 0) → (before after : Output) → TextFault → Type 0
FailsText IsText Allocates before after unwritten.Memory = Allocates × (after ≡ before)
FailsText IsText Allocates before after (unwritten.Out f) = BeganText IsText before after

-- ---- texts one after another

-- n texts one after another; `IsText k` holds for the text with the number k, from 0
abbrev pub AreJoined : (ℕ → List ℕ → Type 0) → ℕ → List ℕ → Type 0
AreJoined IsText zero text = text ≡ []
AreJoined IsText (suc n) text =
    (front : List ℕ) × (last : List ℕ) × AreJoined IsText n front × IsText n last × (text ≡ front ++ last)

-- `count` texts were written
pub record WroteTexts (IsText : ℕ → List ℕ → Type 0) (count : ℕ) (before after : Output) : Type 0 where
  pub text : List ℕ
  pub texts : AreJoined IsText count text
  pub appends : Appends before after text

-- a text with this number, which shows the state of an engine after the steps that the plan has before it
pub record IsTextOnWay (Shows : Showing) (plan : PlanView) (e : EngineView) (number : ℕ) (text : List ℕ) : Type 0 where
  pub reached : EngineView
  pub went : Advanced plan.direction (steps_to plan number) e reached
  pub shown : Shows.texts e.job number reached.state text

-- A text with this number, which shows the state after the steps that the plan has before it, according to the run
-- specification: the state's text is the only one of a run with that number of steps.
pub record IsShownOfRun (Shows : Showing) (job state : List ℕ) (plan : PlanView) (number : ℕ) (text : List ℕ)
    : Type 0 where
  pub said : JobValue
  pub job_text : IsJobText limits job said
  pub after : StateView
  pub that_text : List ℕ
  pub after_text : IsTextOf that_text after
  pub run : IsLevesqueVerletRun job state plan.direction (steps_to plan number) that_text
  pub only : (other : List ℕ) → IsLevesqueVerletRun job state plan.direction (steps_to plan number) other
      → other ≡ that_text
  pub shown : Shows.texts said number after text
