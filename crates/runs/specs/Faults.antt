-- Faults of runs that come from failed calls.
use Rattle.std.specs.Prelude.{ℕ}
use Rattle.engine.specs.declared.faults.InputFault.{InputFault}
use Rattle.engine.specs.declared.faults.InputFault.TheVariants as input
use Rattle.fallible.specs.declared.failure.Failure.{Failure}
use Rattle.fallible.specs.declared.failure.Failure.TheVariants.{Memory, Refused}
use Rattle.integrator.specs.declared.faults.StepFault.TheVariants as step
use Rattle.potential.specs.declared.faults.EnergyFault.{EnergyFault}
use Rattle.runs.specs.declared.faults.RunFault.{RunFault}
use Rattle.runs.specs.declared.faults.RunFault.TheVariants as run
use Rattle.runs.specs.declared.faults.TextFault.{TextFault}
use Rattle.runs.specs.declared.faults.TextFault.TheVariants as unwritten

-- the fault of a run whose text after `steps` steps wasn't written
abbrev pub text_fault : {R : Type 0} → (steps : ℕ) → TextFault → RunFault R
text_fault steps unwritten.Memory = run.Steps (step.Memory steps)
text_fault steps (unwritten.Out f) = run.Out f

-- the fault if the input is rejected, or if memory ran out before a run began
abbrev pub input_fault : {R : Type 0} → Failure R → RunFault R
input_fault (Refused f) = run.Rejected f
input_fault Memory = run.Memory

-- the fault if the energy itself has no accepted code, or if memory ran out while that code was made
abbrev pub energy_fault : {A : Type 0} → Failure (EnergyFault A) → RunFault (InputFault A)
energy_fault (Refused f) = run.Rejected (input.Energy f)
energy_fault Memory = run.Memory
