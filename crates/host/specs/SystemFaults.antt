-- The faults of the program that come from errors of the operating system.
use Rattle.std.specs.declared.io.ErrorKind.{ErrorKind}
use Rattle.std.specs.declared.io.ErrorKind.TheVariants as kind
use Rattle.cli.specs.declared.faults.CommandFault.{CommandFault}
use Rattle.cli.specs.declared.faults.CommandFault.TheVariants as fault
use Rattle.state.specs.declared.sources.ReadFault.{ReadFault}
use Rattle.state.specs.declared.sources.ReadFault.TheVariants as read

-- the fault of reading a file: `Memory` if the system is out of memory, otherwise `CannotRead`
abbrev pub read_fault_of : ErrorKind → ReadFault
read_fault_of kind.OutOfMemory = read.Memory
read_fault_of _ = read.CannotRead

-- the fault of getting the arguments: `Memory` if the system is out of memory, otherwise `NotText`
abbrev pub words_fault_of : {A : Type 0} → ErrorKind → CommandFault A
words_fault_of kind.OutOfMemory = fault.Memory
words_fault_of _ = fault.NotText
