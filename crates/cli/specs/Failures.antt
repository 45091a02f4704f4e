-- The faults of commands that come from failed calls.
use Rattle.curves.specs.declared.faults.CurveFault.{CurveFault}
use Rattle.curves.specs.declared.faults.CurveFault.TheVariants as curve
use Rattle.fallible.specs.declared.failure.Failure.{Failure}
use Rattle.fallible.specs.declared.failure.Failure.TheVariants.{Refused, Memory}
use Rattle.engine.specs.declared.faults.InputFault.{InputFault}
use Rattle.engine.specs.declared.faults.InputFault.TheVariants as input
use Rattle.runs.specs.declared.faults.RunFault.{RunFault}
use Rattle.runs.specs.declared.faults.RunFault.TheVariants as run
use Rattle.std.specs.Borrow.{Bor}
use Rattle.std.specs.Prelude.{ℕ, List}
use Rattle.streams.specs.declared.faults.StreamFault.{StreamFault}
use Rattle.streams.specs.declared.faults.StreamFault.TheVariants as stream
use Rattle.cli.specs.declared.faults.CommandFault.{CommandFault}
use Rattle.cli.specs.declared.faults.CommandFault.TheVariants as fault

-- the fault of a command after a failed call; `told` gives the fault if the call rejects its input
abbrev pub command_fault : {A R : Type 0} → (R → CommandFault A) → Failure R → CommandFault A
command_fault told (Refused f) = told f
command_fault told Memory = fault.Memory

-- the fault of a command that didn't print all tables
abbrev pub fault_of_curve : {A : Type 0} → CurveFault A → CommandFault A
fault_of_curve (curve.Rejected f) = fault.Rejected (input.Energy f)
fault_of_curve curve.Memory = fault.Memory
fault_of_curve (curve.Out f) = fault.Out f

-- the fault of a command that didn't print all texts of its run
abbrev pub fault_of_run : {A : Type 0} → RunFault (InputFault A) → CommandFault A
fault_of_run (run.Rejected f) = fault.Rejected f
fault_of_run run.Memory = fault.Memory
fault_of_run (run.Steps f) = fault.Steps f
fault_of_run (run.Out f) = fault.Out f

-- the fault of a command that didn't write all output of the stream at this path, or found that it isn't of one run
abbrev pub fault_of_stream : {A : Type 0} → Bor (List ℕ) → StreamFault (InputFault A) → CommandFault A
fault_of_stream path (stream.Rejected f) = fault.Rejected f
fault_of_stream path (stream.State number f) = fault.InState number f
fault_of_stream path (stream.Differ segments) = fault.NotOneRun segments
fault_of_stream path stream.CannotRead = fault.CannotRead path
fault_of_stream path (stream.Out f) = fault.Out f
fault_of_stream path stream.Memory = fault.Memory
