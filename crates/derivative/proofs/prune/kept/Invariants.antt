use Rattle.std.proofs.Common.{◌≡◌, ◌+◌, map, ◌++◌, length}
use Rattle.energy_program.specs.Tree.{tree_of}
use Rattle.derivative.specs.Used.{kept_from}
use Rattle.derivative.proofs.prune.kept.Given as goal

abbrev pub invariant-loop-definition : goal.invariant-loop-definition
invariant-loop-definition g l =
    (l.number + length l.definition-iterator.rest.items ≡ length l.fn.definitions.items)
    × (map tree_of l.left.items ++ kept_from l.marks l.number (map tree_of l.definition-iterator.rest.items) ≡ kept_from l.marks 0 (map tree_of l.fn.definitions.items))
