use Rattle.std.proofs.Common.{◌≡◌, take, map}
use Rattle.job.specs.Views.{type_value}
use Rattle.potential.specs.Tables.{type_rows}
use Rattle.potential.proofs.tables.rows.Given as goal

abbrev pub invariant-loop-kind : goal.invariant-loop-kind
invariant-loop-kind g l = map (λ row. row.items) l.rows.items ≡ type_rows (map type_value (take l.kind-index l.types))
