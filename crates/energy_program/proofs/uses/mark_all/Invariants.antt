-- The definitions that are left are marked from.
use Rattle.std.proofs.Common.{◌≡◌, drop, map}
use Rattle.energy_program.specs.Tree.{tree_of}
use Rattle.energy_program.specs.Uses.{mark, mark_from}
use Rattle.energy_program.proofs.uses.mark_all.Given as goal

abbrev pub invariant-loop-number : goal.invariant-loop-number
invariant-loop-number g l =
    mark_from l.number l.marks (map tree_of (drop l.number l.definitions)) ≡ mark_from 0 (mark l.fn.marks (tree_of l.body)) (map tree_of l.definitions)
