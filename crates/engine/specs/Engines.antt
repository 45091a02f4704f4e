-- Engines: which jobs and states have one, and the effect of its steps.
use Rattle.std.specs.Prelude.{◌≡◌, ℕ, ◌-◌, ◌≤◌, ◌<◌, ℤ, List, length, Some, None, Ok, Err, false, is_none}
use Rattle.energy_program.specs.Faults as energies
use Rattle.energy_program.specs.Tree.{Tree}
use Rattle.job.specs.Views as jobs
use Rattle.job.specs.JobFaults.{JobReadsAs}
use Rattle.job.specs.JobText.{HasNamesOnce, IsJobText, limits}
use Rattle.job.specs.Values.{JobValue}
use Rattle.kernel_code.specs.declared.instructions.Instr.{Instr}
use Rattle.state.specs.StateFaults.{ReadsAs}
use Rattle.state.specs.StateText.{StateView}
use Rattle.potential.specs.Energies.{Energy, job_tree}
use Rattle.integrator.specs.Frames.{Dynamics, Frames, steps_in}
use Rattle.integrator.specs.Starts.{as_written, energy_refused, system_of}
use Rattle.integrator.specs.StartViews.{system_refusal}
use Rattle.integrator.specs.States.{counter_after, frames_of, moved_state}
use Rattle.engine.specs.RunSpecification.{IsJobEnergy, IsTextOf}
use Rattle.potential.specs.Verdicts.{IsRefused}
use Rattle.engine.specs.Ranges.{IsSafeFor, PassesRange}
use Rattle.integrator.specs.declared.direction.Direction.{Direction}
use Rattle.integrator.specs.declared.faults.StepFault.{StepFault}
use Rattle.integrator.specs.declared.faults.StepFault.TheVariants as step
use Rattle.potential.specs.declared.faults.EnergyFault.{EnergyFault}
use Rattle.potential.specs.declared.faults.EnergyFault.TheVariants as energy
use Rattle.engine.specs.declared.faults.InputFault.{InputFault}
use Rattle.engine.specs.declared.faults.InputFault.TheVariants as input

-- an engine as contracts see it: its job, the types of its atoms, and its current state
pub record EngineView : Type 0 where
  pub job : JobValue
  pub types : List ℕ
  pub state : StateView

-- the dynamics of the engine's atoms, with the energy's derivative as written
abbrev pub engine_dynamics : EngineView → Dynamics
engine_dynamics e = as_written e.job e.state.sides (job_tree e.job) e.types

-- ---- existence

-- the engine of a job and a state: the verifier accepts the code of the energy's derivative, and no force can leave 64
-- bits
pub record IsEngineOf (j : JobValue) (s : StateView) (e : EngineView) : Type 0 where
  pub system : Energy × List ℕ
  pub made : system_of j s ≡ Ok system
  pub is : e ≡ record { job = j; types = system.1; state = s }
  pub safe : IsSafeFor j system.0.code (length s.atoms)

-- the types of an engine are the types of its state's atoms under its job
pub record IsTyped (e : EngineView) : Type 0 where
  pub system : Energy × List ℕ
  pub made : system_of e.job e.state ≡ Ok system
  pub types : e.types ≡ system.1

-- a statement about the slope code of a job and a state, for use in faults
pub record OfSlope (j : JobValue) (s : StateView) (holds : List Instr → Type 0) : Type 0 where
  pub system : Energy × List ℕ
  pub made : system_of j s ≡ Ok system
  pub it : holds system.0.code

-- why a job and a state have no engine, though the texts of both are valid
abbrev pub HasNoEngine : {A : Type 0} → JobValue → StateView → InputFault A → Type 0
HasNoEngine j s (input.Energy (energy.Energy f)) = system_of j s ≡ Err (energy_refused (energies.refusal_of f))
HasNoEngine j s (input.Energy (energy.Kernel f types)) = OfSlope j s (λ code. IsRefused j code f types)
HasNoEngine j s (input.System f) = system_of j s ≡ Err (system_refusal f)
HasNoEngine j s input.ForceRange = OfSlope j s (λ code. PassesRange j code (length s.atoms))
HasNoEngine j s _ = ⊥

-- the fault isn't of the job, its energy or its code, so another state may have none
abbrev pub IsOfState : {A : Type 0} → InputFault A → Type 0
IsOfState (input.Job f) = ⊥
IsOfState (input.Energy f) = ⊥
IsOfState _ = Unit {0}

-- the fault is of an energy or its code, and the property holds of that fault
abbrev pub IsOfEnergy : {A : Type 0} → (EnergyFault A → Type 0) → InputFault A → Type 0
IsOfEnergy holds (input.Energy f) = holds f
IsOfEnergy holds _ = ⊥

-- ---- steps

-- `after` is the engine after n whole steps in a direction
pub record Advanced (direction : Direction) (n : ℕ) (before after : EngineView) : Type 0 where
  pub frames' : Frames
  pub stepped : steps_in direction (engine_dynamics before) n (frames_of before.state) ≡ Some frames'
  pub counter : ℤ
  pub counted : counter_after direction before.state.step n ≡ Some counter
  pub moved : after ≡ record before { state = moved_state before.state frames' counter }

-- If some steps were made, the counter fits after all n of them, since `StepRange` is reported before any step.
abbrev pub FitsIfDone : Direction → (n done : ℕ) → EngineView → Type 0
FitsIfDone direction n done e = 0 < done → is_none (counter_after direction e.state.step n) ≡ false

-- Why n steps stopped, and the engine then. With `StepRange` it is unchanged. With `Memory` it is the engine after
-- `done` whole steps, at most n - 1 (0 if n is 0).
abbrev pub Stopped : Direction → ℕ → EngineView → EngineView → StepFault → Type 0
Stopped direction n before after step.StepRange = (counter_after direction before.state.step n ≡ None) × (after ≡ before)
Stopped direction n before after (step.Memory done) =
    (done ≤ n - 1) × FitsIfDone direction n done before × Advanced direction done before after

-- ---- from bytes to bytes

-- a statement about the job and the state of two texts, by the relations of the run specification
pub record OfTexts (job state : List ℕ) (holds : JobValue → StateView → Type 0) : Type 0 where
  pub j : JobValue
  pub s : StateView
  pub job_text : IsJobText limits job j
  pub state_text' : IsTextOf state s
  pub it : holds j s

-- the counter fits after `steps` steps from the state of these texts
abbrev pub CounterFits : (job state : List ℕ) → Direction → (steps : ℕ) → Type 0
CounterFits job state direction steps = OfTexts job state (λ j s. is_none (counter_after direction s.step steps) ≡ false)

-- or it would leave 64 bits
abbrev pub CounterLeaves : (job state : List ℕ) → Direction → (steps : ℕ) → Type 0
CounterLeaves job state direction steps = OfTexts job state (λ j s. counter_after direction s.step steps ≡ None)

-- the engine of texts
abbrev pub IsEngineOfTexts : List ℕ → List ℕ → EngineView → Type 0
IsEngineOfTexts job state e = OfTexts job state (λ j s. IsEngineOf j s e)

-- Both texts are a job's and a state's, and the slope code is certified for the atoms of the state: at any positions of
-- the atoms, no instruction faults, and no pair takes more instructions than the certified number.
abbrev pub AreSafe : List ℕ → List ℕ → Type 0
AreSafe job state = OfTexts job state (λ j s. OfSlope j s (λ code. IsSafeFor j code (length s.atoms)))

-- the energy text of the job denotes this tree and no other
pub record SaysOnly (j : JobValue) (tree : Tree) : Type 0 where
  pub says : IsJobEnergy j tree
  pub only : (other : Tree) → IsJobEnergy j other → other ≡ tree

-- Both texts are a job's and a state's; no two parameters, globals or types of the job have one name; and the job's
-- energy is the only tree that its energy text denotes.
abbrev pub AreReadOnce : List ℕ → List ℕ → Type 0
AreReadOnce job state = OfTexts job state (λ j s. HasNamesOnce j × SaysOnly j (job_tree j))

-- why texts have no engine; the reader of a text gives its first fault
abbrev pub HasNoEngineOfTexts : {A : Type 0} → List ℕ → List ℕ → InputFault A → Type 0
HasNoEngineOfTexts job state (input.Job f) = JobReadsAs limits job (Err (jobs.refusal_of f))
HasNoEngineOfTexts job state (input.State f) = (j : JobValue) × IsJobText limits job j × ReadsAs state (Err f)
HasNoEngineOfTexts job state f = OfTexts job state (λ j s. HasNoEngine j s f)
