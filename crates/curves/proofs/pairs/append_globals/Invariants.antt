use Rattle.std.proofs.Common.{◌≡◌, ◌++◌, map, take}
use Rattle.job.specs.Views.{global_value}
use Rattle.curves.proofs.pairs.append_globals.Given as goal

-- the globals so far are appended
abbrev pub invariant-loop-global : goal.invariant-loop-global
invariant-loop-global g l =
    l.constants.items ≡ l.initial.constants.items ++ map (λ g. g.value) (map global_value (take l.global-index l.globals))
