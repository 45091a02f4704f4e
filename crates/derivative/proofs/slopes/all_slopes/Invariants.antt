use Rattle.std.proofs.Common.{◌≡◌, get_or, true, ◌++◌, map, take}
use Rattle.fixed.specs.Fractions.{bits_of}
use Rattle.energy_program.specs.Tree.{tree_of}
use Rattle.derivative.specs.Written.{slope_tree, moved}
use Rattle.derivative.proofs.slopes.all_slopes.Given as goal

abbrev pub invariant-loop-definition : goal.invariant-loop-definition
invariant-loop-definition g l = map tree_of l.written.items ≡ map (slope_tree (bits_of l.frac) (λ j. get_or l.free j true) l.by) (map tree_of (take l.definition-index l.definitions))

abbrev pub invariant-loop-definition-2 : goal.invariant-loop-definition-2
invariant-loop-definition-2 g l = map tree_of l.written.items ≡ map tree_of l.initial.written.items ++ map (moved l.by) (map tree_of (take l.definition-index l.definitions))
