-- The start of a run: a job's text, a state's text, a number of steps and a direction determine the state, the dynamics
-- of its atoms and the final counter, or the first refusal.
use Rattle.std.specs.Prelude.{◌≡◌, ◌⊎◌, ℕ, ℤ, List, Option, Some, None, Result, Ok, Err}
use Rattle.job.specs.Faults as job
use Rattle.job.specs.JobFaults.{JobReadsAs}
use Rattle.job.specs.JobText.{IsJobText, limits}
use Rattle.job.specs.Values.{JobValue}
use Rattle.line_text.specs.Steps.{◌>>=◌}
use Rattle.state.specs.StateFaults.{ReadsAs}
use Rattle.state.specs.StateText.{StateView}
use Rattle.state.specs.declared.faults.StateFault.{StateFault}
use Rattle.potential.specs.Energies.{Energy}
use Rattle.integrator.specs.Frames.{Dynamics}
use Rattle.integrator.specs.Starts.{Refusal, as_written, or_refused, system_of}
use Rattle.integrator.specs.States.{counter_after}
use Rattle.integrator.specs.declared.direction.Direction.{Direction}

-- why there is no start
pub data StartRefusal : Type 0 where
  job_refused : job.Refusal → StartRefusal
  state_refused : StateFault → StartRefusal
  system_refused : Refusal → StartRefusal
  step_range : StartRefusal

-- A law of motion: the dynamics as a function of the job, the box's sides, the energy and the atoms' types. Starts and
-- runs are defined once for any law, and hold for the energy's derivative as written (`plain`) and for a tested run.
abbrev pub Law : Type 0
Law = JobValue → List ℕ → Energy → List ℕ → Dynamics

-- the law of motion with the derivative of the energy as written
abbrev pub plain : Law
plain j sides energy types = as_written j sides energy.tree types

-- a final counter, or the refusal of steps that would leave 64 bits
abbrev pub in_counter : Option ℤ → Result ℤ StartRefusal
in_counter (Some z) = Ok z
in_counter None = Err step_range

-- the state that was read, the dynamics of its atoms, and the counter at the end
pub record Start : Type 0 where
  pub state : StateView
  pub dynamics : Dynamics
  pub counter : ℤ

-- the start with this system and this final counter
abbrev pub start_at : Law → JobValue → StateView → Energy × List ℕ → ℤ → Start
start_at law j s system counter = record { state = s; dynamics = law j s.sides system.0 system.1; counter = counter }

-- The start for a job and a state. The refusals come in this order: energy, fraction bits, types and box, counter.
unfoldable pub start_with : Law → Direction → ℕ → JobValue → StateView → Result Start StartRefusal
start_with law direction steps j s = do
  system ← or_refused system_refused (system_of j s)
  counter ← in_counter (counter_after direction s.step steps)
  Ok (start_at law j s system counter)

-- The start for the texts of a job and a state, or the first refusal. The job is read before the state.
unfoldable pub StartsAs : Law → (text state : List ℕ) → Direction → ℕ → Result Start StartRefusal → Type 0
StartsAs law text state direction steps r =
    ((f : job.Refusal) × JobReadsAs limits text (Err f) × (r ≡ Err (job_refused f)))
    ⊎ ((j : JobValue) × (f : StateFault) × IsJobText limits text j × ReadsAs state (Err f) × (r ≡ Err (state_refused f)))
    ⊎ ((j : JobValue) × (s : StateView) × IsJobText limits text j × ReadsAs state (Ok s) × (r ≡ start_with law direction steps j s))

-- each pair of texts has a start or a refusal, in any law of motion
abbrev pub StartsAlways : Type 0
StartsAlways = (law : Law) (text state : List ℕ) (direction : Direction) (steps : ℕ)
    → (r : Result Start StartRefusal) × StartsAs law text state direction steps r

-- a pair of texts has at most one start or refusal
abbrev pub StartsOnce : Type 0
StartsOnce = (law : Law) (text state : List ℕ) (direction : Direction) (steps : ℕ) (r s : Result Start StartRefusal)
    → StartsAs law text state direction steps r → StartsAs law text state direction steps s → r ≡ s
