-- Each part has fewer nodes than the whole.
use Rattle.std.proofs.Common.{◌+◌, ◌*◌}
use Rattle.energy_program.specs.Tree.{tree_of}
use Rattle.derivative.proofs.Counts.{nodes}
use Rattle.derivative.proofs.slopes.+differentiate.Given as goal

abbrev pub decreases-differentiate : goal.decreases-differentiate
decreases-differentiate g l = 2 * nodes (tree_of l.tree.now)

abbrev pub decreases-differentiate_operation : goal.decreases-differentiate_operation
decreases-differentiate_operation g l = 2 * nodes (tree_of l.v.now) + 1

abbrev pub decreases-differentiate_choice : goal.decreases-differentiate_choice
decreases-differentiate_choice g l = 2 * nodes (tree_of l.v.now) + 1
