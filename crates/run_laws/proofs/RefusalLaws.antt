-- Refusals of a tested run's start.
use Rattle.std.proofs.Common.{ℕ, List, Ok}
use Rattle.energy_program.specs.Faults as energies
use Rattle.energy_program.specs.declared.faults.ExprFault.{ExprFault}
use Rattle.fallible.specs.Failures.{Fails, IfRefused, refused_as}
use Rattle.fallible.specs.declared.failure.Failure.{Failure}
use Rattle.fallible.specs.declared.failure.Failure.TheVariants.{Memory, Refused}
use Rattle.job.specs.Values.{JobValue}
use Rattle.state.specs.StateText.{StateView}
use Rattle.potential.specs.Energies.{energy_of}
use Rattle.integrator.proofs.StartLaws.{energy_unready}
use Rattle.integrator.specs.Starts.{energy_refused, system_of}
use Rattle.integrator.specs.StartViews.{system_refusal}
use Rattle.integrator.specs.declared.direction.Direction.{Direction}
use Rattle.integrator.specs.declared.faults.SystemFault.{SystemFault}
use Rattle.run_laws.specs.Refusals.{IsRefusal, IsStop, start_refusal}
use Rattle.run_laws.specs.Starts.{Law, Start, StartsAs, start_with}
use Rattle.run_laws.specs.Stops.{Faults}
use Rattle.run_laws.proofs.RunLaws.{start_refused}
use Rattle.run_laws.specs.TestedStarts.{HaveFaults, tested}
use Rattle.run_laws.specs.declared.tested_run.faults.KernelFault.{KernelFault}
use Rattle.run_laws.specs.declared.tested_run.faults.StartFault.{StartFault}
use Rattle.run_laws.specs.declared.tested_run.faults.StartFault.TheVariants as start
use Rattle.run_laws.specs.declared.tested_run.faults.TestedFault.{TestedFault}
use Rattle.run_laws.specs.declared.tested_run.faults.TestedFault.TheVariants as fault

-- a job whose energy is refused has no start
pub energy_handed_on : {A : Type 0} → (law : Law) (w : Direction) (n : ℕ) (j : JobValue) (s : StateView) (failure : Failure (ExprFault A)) → Fails energies.refusal_of failure (energy_of j)
    → Fails start_refusal (refused_as start.Energy failure) (start_with law w n j s)
energy_handed_on law w n j s (Refused f) h = start_refused law w n j s (energy_refused (energies.refusal_of f)) (energy_unready j s (energies.refusal_of f) h)
energy_handed_on law w n j s Memory h = tt

-- a job and a state whose atoms can't be run have no start
pub system_handed_on : (A : Type 0) (law : Law) (w : Direction) (n : ℕ) (j : JobValue) (s : StateView) (failure : Failure SystemFault) → Fails system_refusal failure (system_of j s) → Fails start_refusal (refused_as {S = StartFault A} start.System failure) (start_with law w n j s)
system_handed_on A law w n j s (Refused f) h = start_refused law w n j s (system_refusal f) h
system_handed_on A law w n j s Memory h = tt

-- if the run of a start stops on the way, the texts are refused
pub stop_handed_on : (A : Type 0) (job state : List ℕ) (w : Direction) (n : ℕ) (start : Start) (faults : Faults) (failure : Failure KernelFault) → StartsAs tested job state w n (Ok start) → HaveFaults job state faults
    → IfRefused failure (IsStop w n start faults) → IfRefused (refused_as {S = TestedFault A} fault.Kernel failure) (IsRefusal job state w n)
stop_handed_on A job state w n start faults (Refused f) e d h = record { start = start; starts = e; faults = faults; known = d; stopped = h }
stop_handed_on A job state w n start faults Memory e d h = tt
