-- The exit statuses of the program, and the status of each fault.
use Rattle.std.specs.Prelude.{ℕ}
use Rattle.integrator.specs.declared.faults.StepFault.{StepFault}
use Rattle.integrator.specs.declared.faults.StepFault.TheVariants as step
use Rattle.engine.specs.declared.faults.InputFault.{InputFault}
use Rattle.engine.specs.declared.faults.InputFault.TheVariants as input
use Rattle.cli.specs.declared.faults.CommandFault.{CommandFault}
use Rattle.cli.specs.declared.faults.CommandFault.TheVariants as fault
use Rattle.cli.specs.declared.faults.Status.{Status}
use Rattle.cli.specs.declared.faults.Status.TheVariants as status

-- the number of an exit status, from 0 to 5
abbrev pub status_number : Status → ℕ
status_number status.Done = 0
status_number status.RefusedData = 1
status_number status.CommandLine = 2
status_number status.RefusedKernel = 3
status_number status.Memory = 4
status_number status.File = 5

-- the exit status if a job and a state are rejected because of this fault
abbrev pub input_status : {A : Type 0} → InputFault A → Status
input_status (input.Energy f) = status.RefusedKernel
input_status _ = status.RefusedData

-- the exit status if the steps of a run stop before the last because of this fault
abbrev pub steps_status : StepFault → Status
steps_status step.StepRange = status.RefusedData
steps_status (step.Memory done) = status.Memory

-- the exit status for the fault of a command
abbrev pub status_of : {A : Type 0} → CommandFault A → Status
status_of (fault.CommandLine e) = status.CommandLine
status_of fault.NotText = status.CommandLine
status_of (fault.CannotRead path) = status.File
status_of (fault.Rejected f) = input_status f
status_of (fault.NoSuchType name) = status.RefusedData
status_of (fault.Gro f) = status.RefusedData
status_of (fault.Box f) = status.RefusedData
status_of (fault.Listing f) = status.RefusedData
status_of (fault.InState number f) = input_status f
status_of (fault.NotOneRun segments) = status.RefusedData
status_of (fault.Steps f) = steps_status f
status_of (fault.Out f) = status.File
status_of fault.Memory = status.Memory
