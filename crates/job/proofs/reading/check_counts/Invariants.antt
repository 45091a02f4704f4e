use Rattle.std.proofs.Common.{◌≡◌, length}
use Rattle.std.specs.List.{AllWithin}
use Rattle.job.specs.declared.drafts.TypeLine.{TypeLine}
use Rattle.job.proofs.reading.check_counts.Given as goal

abbrev pub invariant-loop-line : goal.invariant-loop-line
invariant-loop-line g l = AllWithin (λ (t : TypeLine g.row.A.Denot). length t.value.values.items ≡ l.count) l.types 0 l.line-index
