-- Faults of streams that come from failed calls.
use Rattle.std.specs.Prelude.{ℕ}
use Rattle.engine.specs.declared.faults.InputFault.{InputFault}
use Rattle.engine.specs.declared.faults.InputFault.TheVariants as input
use Rattle.fallible.specs.declared.failure.Failure.{Failure}
use Rattle.fallible.specs.declared.failure.Failure.TheVariants.{Memory, Refused}
use Rattle.potential.specs.declared.faults.EnergyFault.{EnergyFault}
use Rattle.runs.specs.declared.faults.TextFault.{TextFault}
use Rattle.runs.specs.declared.faults.TextFault.TheVariants as unwritten
use Rattle.state.specs.declared.faults.StateFault.{StateFault}
use Rattle.state.specs.declared.sources.ReadFault.{ReadFault}
use Rattle.state.specs.declared.sources.ReadFault.TheVariants as read
use Rattle.streams.specs.declared.faults.StreamFault.{StreamFault}
use Rattle.streams.specs.declared.faults.StreamFault.TheVariants as stream

-- the fault if the stream can't be read on
abbrev pub reading_fault : {R : Type 0} → ReadFault → StreamFault R
reading_fault read.CannotRead = stream.CannotRead
reading_fault read.Memory = stream.Memory

-- the fault if the first state has no engine: of the stream's job, or of the state
abbrev pub opening_fault : {A : Type 0} → Failure (InputFault A) → StreamFault (InputFault A)
opening_fault (Refused (input.Job f)) = stream.Rejected (input.Job f)
opening_fault (Refused (input.State f)) = stream.State 1 (input.State f)
opening_fault (Refused (input.Energy f)) = stream.Rejected (input.Energy f)
opening_fault (Refused (input.System f)) = stream.State 1 (input.System f)
opening_fault (Refused input.ForceRange) = stream.State 1 input.ForceRange
opening_fault Memory = stream.Memory

-- the fault if the energy itself has no accepted code
abbrev pub energy_fault : {A : Type 0} → Failure (EnergyFault A) → StreamFault (InputFault A)
energy_fault (Refused f) = stream.Rejected (input.Energy f)
energy_fault Memory = stream.Memory

-- the fault if a text wasn't written
abbrev pub text_fault : {R : Type 0} → TextFault → StreamFault R
text_fault unwritten.Memory = stream.Memory
text_fault (unwritten.Out f) = stream.Out f

-- the fault if the text with this number, from 1, is no state's
abbrev pub state_fault : {A : Type 0} → (number : ℕ) → Failure StateFault → StreamFault (InputFault A)
state_fault number (Refused f) = stream.State number (input.State f)
state_fault number Memory = stream.Memory

-- the fault if the state with this number, from 1, can't be run under the job
abbrev pub numbered_fault : {R : Type 0} → (number : ℕ) → Failure R → StreamFault R
numbered_fault number (Refused f) = stream.State number f
numbered_fault number Memory = stream.Memory
