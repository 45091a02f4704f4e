-- Laws of the texts of faults.
use Rattle.std.proofs.Common.{◌≡◌, ◌==◌, ℕ, List, ap, inl, inr, refl, codes}
use Rattle.std.specs.List.{before_first}
use Rattle.line_text.proofs.LineLaws.{before_lacks}
use Rattle.cli.specs.Command.{IsOneLine, IsSaid, line}
use Rattle.cli.specs.Reports.{IsReason, no_such_type, said}
use Rattle.cli.specs.Statuses.{status_number}
use Rattle.cli.specs.declared.faults.Status.{Status}
use Rattle.cli.specs.declared.faults.Status.TheVariants as status

-- the text that no type has a name is one line, with the first line of the name
pub type_line : (name first : List ℕ) → first ≡ before_first (λ byte. byte == 10) name → IsOneLine (no_such_type first)
type_line name first is = rw is ((λ e. cc), before_lacks 10 name)

-- the text of out of memory is one line
pub memory_line : IsOneLine (codes "Memory")
memory_line = (λ e. cc, refl)

-- and could report any fault
pub memory_reason : (s : Status) → IsReason s (codes "Memory")
memory_reason status.CommandLine = memory_line.0
memory_reason status.File = inl memory_line
memory_reason _ = memory_line

-- ---- texts of faults

-- the text for an error with this status is one that the page allows
pub said_by : (s : Status) (text : List ℕ) → IsReason s text → IsSaid (status_number s) (said s text)
said_by status.CommandLine text some = inl (refl, some)
said_by status.File text (inl one) = inr (inl (text, one, refl))
said_by status.File text (inr unread) = inr (inr (refl, (unread.0, ap line unread.1)))
said_by _ text one = inr (inl (text, one, refl))

-- `Memory` may be printed in place of any fault
pub said_memory : (status : ℕ) → IsSaid status (line (codes "Memory"))
said_memory status = inr (inl (codes "Memory", memory_line, refl))
