-- Why a tested run gives no state.
use Rattle.std.specs.Prelude.{◌≡◌, ℕ, ◌+◌, List, Ok, Err}
use Rattle.energy_program.specs.Faults as energies
use Rattle.fallible.specs.Failures.{IfRefused}
use Rattle.fallible.specs.Out.{Output}
use Rattle.fallible.specs.declared.failure.Failure.TheVariants.{Memory}
use Rattle.job.specs.Views as job
use Rattle.integrator.specs.States.{frames_of}
use Rattle.integrator.specs.Starts.{energy_refused}
use Rattle.integrator.specs.StartViews.{system_refusal}
use Rattle.integrator.specs.declared.direction.Direction.{Direction}
use Rattle.run_laws.specs.Runs.{WroteBeginning}
use Rattle.run_laws.specs.Starts.{Start, StartRefusal, StartsAs, job_refused, state_refused, step_range, system_refused}
use Rattle.run_laws.specs.Stops.{Faults, StopsAt, forced_counter}
use Rattle.run_laws.specs.TestedStarts.{HaveFaults, tested}
use Rattle.run_laws.specs.declared.tested_run.faults.KernelFault.{KernelFault}
use Rattle.run_laws.specs.declared.tested_run.faults.StartFault.{StartFault}
use Rattle.run_laws.specs.declared.tested_run.faults.StartFault.TheVariants as start
use Rattle.run_laws.specs.declared.tested_run.faults.TestedFault.{TestedFault}
use Rattle.run_laws.specs.declared.tested_run.faults.TestedFault.TheVariants as fault
use Rattle.run_laws.specs.declared.tested_run.faults.TestedRunFault.{TestedRunFault}
use Rattle.run_laws.specs.declared.tested_run.faults.TestedRunFault.TheVariants as run

-- an error of the program as the refusal of a start
abbrev pub start_refusal : {A : Type 0} → StartFault A → StartRefusal
start_refusal (start.Job f) = job_refused (job.refusal_of f)
start_refusal (start.State f) = state_refused f
start_refusal (start.Energy f) = system_refused (energy_refused (energies.refusal_of f))
start_refusal (start.System f) = system_refused (system_refusal f)
start_refusal start.StepRange = step_range

-- The run stops at the frame with the counter `f.step`, at the pair `f.low`, `f.high`, counted from 1: the operation at
-- the instruction index `f.pc` of the slope code has no value there.
pub record IsStop (direction : Direction) (steps : ℕ) (start : Start) (faults : Faults) (f : KernelFault) : Type 0 where
  pub done : ℕ
  pub pair : ℕ × ℕ
  pub stops : StopsAt direction start.dynamics faults steps (frames_of start.state) done pair (record { pc = f.pc; fault = f.fault })
  pub counter : f.step ≡ forced_counter direction start.state.step done
  pub lower : f.low ≡ pair.0 + 1
  pub higher : f.high ≡ pair.1 + 1

-- the run from these texts stops with this kernel fault
pub record IsKernelFault (job state : List ℕ) (direction : Direction) (steps : ℕ) (f : KernelFault) : Type 0 where
  pub start : Start
  pub starts : StartsAs tested job state direction steps (Ok start)
  pub faults : Faults
  pub known : HaveFaults job state faults
  pub stopped : IsStop direction steps start faults f

-- why the texts have no tested run
abbrev pub IsRefusal : {A : Type 0} → List ℕ → List ℕ → Direction → ℕ → TestedFault A → Type 0
IsRefusal job state direction steps (fault.Start f) = StartsAs tested job state direction steps (Err (start_refusal f))
IsRefusal job state direction steps (fault.Kernel f) = IsKernelFault job state direction steps f

-- The reason why the text of a tested run wasn't written. The output is unchanged, except that a failed output holds a
-- beginning of the text.
abbrev pub IsTestedUnwritten : {A : Type 0} → List ℕ → List ℕ → Direction → ℕ → Output → Output → TestedRunFault A → Type 0
IsTestedUnwritten job state direction steps before after (run.Run failure) =
    IfRefused failure (IsRefusal job state direction steps) × (after ≡ before)
IsTestedUnwritten job state direction steps before after (run.Out f) = WroteBeginning tested job state direction steps before after

-- memory ran out, or the output failed
abbrev pub IsResourceFault : {A : Type 0} → TestedRunFault A → Type 0
IsResourceFault (run.Run failure) = failure ≡ Memory
IsResourceFault (run.Out f) = Unit {0}
