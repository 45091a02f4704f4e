use Rattle.std.proofs.Common.{◌≡◌, ◌*◌, ◌≤◌, length, take}
use Rattle.observables.specs.Columns.{column_text}
use Rattle.observables.proofs.LineLaws.{spaced}
use Rattle.observables.proofs.columns.Columns.row.Given as goal

abbrev pub invariant-loop-column : goal.invariant-loop-column
invariant-loop-column l =
    (l.row.items ≡ spaced (column_text l.scales l.observation) (take l.column-index l.column-items)) × (length l.row.items ≤ l.column-index * 49)
