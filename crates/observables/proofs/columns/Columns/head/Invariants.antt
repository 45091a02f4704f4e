use Rattle.std.proofs.Common.{◌≡◌, ◌+◌, ◌*◌, ◌≤◌, ◌++◌, codes, length, take}
use Rattle.observables.specs.Columns.{shown_in}
use Rattle.observables.proofs.LineLaws.{spaced}
use Rattle.observables.proofs.columns.Columns.head.Given as goal

abbrev pub invariant-loop-column : goal.invariant-loop-column
invariant-loop-column l =
    (l.row.items ≡ codes "# " ++ spaced (λ column. (shown_in column).head) (take l.column-index l.column-items)) × (length l.row.items ≤ l.column-index * 49 + 2)
