-- The text and the exit status that report a fault.
use Rattle.std.specs.Prelude.{◌≡◌, ◌≢◌, ◌⊎◌, ℕ, List, [], ◌++◌, codes}
use Rattle.cli.specs.Command.{IsOneLine, cannot_read, line}
use Rattle.cli.specs.Statuses.{status_number, status_of}
use Rattle.cli.specs.declared.faults.CommandFault.{CommandFault}
use Rattle.cli.specs.declared.faults.Status.{Status}
use Rattle.cli.specs.declared.faults.Status.TheVariants as status

-- the text that no type of the job has this name
abbrev pub no_such_type : (name : List ℕ) → List ℕ
no_such_type name = codes "J6 NoSuchType " ++ name

-- the text printed for an error with this status: unchanged for errors of the arguments, otherwise its line
abbrev pub said : Status → List ℕ → List ℕ
said status.CommandLine text = text
said _ text = line text

-- the text for an error with this status: of one line, or that a file can't be read; the parser's own text isn't empty
abbrev pub IsReason : Status → List ℕ → Type 0
IsReason status.CommandLine text = text ≢ []
IsReason status.File text = IsOneLine text ⊎ ((path : List ℕ) × (text ≡ cannot_read path))
IsReason _ text = IsOneLine text

-- The fault was reported with its own exit status, and a text was printed. Or memory for the text ran out, and `Memory`
-- was reported instead.
abbrev pub IsReported : {A : Type 0} → CommandFault A → ℕ → (List ℕ → Type 0) → Type 0
IsReported f result Printed = ((result ≡ status_number (status_of f))
    × ((text : List ℕ) × IsReason (status_of f) text × Printed (said (status_of f) text)))
    ⊎ ((result ≡ status_number status.Memory) × Printed (line (codes "Memory")))
