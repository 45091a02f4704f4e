-- Each part has fewer instructions than the whole.
use Rattle.std.proofs.Common.{◌+◌, ◌*◌}
use Rattle.energy_program.specs.Tree.{tree_of}
use Rattle.kernel_compiler.specs.Sizes.{size}
use Rattle.kernel_compiler.proofs.emit.+emit.Given as goal

abbrev pub decreases-emit : goal.decreases-emit
decreases-emit g l = 2 * size (tree_of l.e.now)

abbrev pub decreases-emit_exchanged : goal.decreases-emit_exchanged
decreases-emit_exchanged g l = 2 * (size (tree_of l.a.now) + size (tree_of l.b.now)) + 1

abbrev pub decreases-emit_second : goal.decreases-emit_second
decreases-emit_second g l = 2 * size (tree_of l.b.now) + 1

abbrev pub decreases-emit_choice : goal.decreases-emit_choice
decreases-emit_choice g l = 2 * (size (tree_of l.condition.now) + size (tree_of l.a.now) + size (tree_of l.b.now)) + 1
