-- Errors of calls, as refusals of a start.
use Rattle.integrator.specs.Starts.{Refusal, bits_differ, unknown_type, cutoff_too_long}
use Rattle.integrator.specs.declared.faults.SystemFault.{SystemFault}
use Rattle.integrator.specs.declared.faults.SystemFault.TheVariants as fault

-- a fault of the program as the refusal of a start
abbrev pub system_refusal : SystemFault → Refusal
system_refusal fault.BitsDiffer = bits_differ
system_refusal (fault.UnknownType n) = unknown_type n
system_refusal fault.CutoffTooLong = cutoff_too_long
