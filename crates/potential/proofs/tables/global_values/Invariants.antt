use Rattle.std.proofs.Common.{◌≡◌, take, map}
use Rattle.job.specs.Views.{global_value}
use Rattle.potential.specs.Tables.{global_values}
use Rattle.potential.proofs.tables.global_values.Given as goal

abbrev pub invariant-loop-global : goal.invariant-loop-global
invariant-loop-global g l = l.values.items ≡ global_values (map global_value (take l.global-index l.globals))
