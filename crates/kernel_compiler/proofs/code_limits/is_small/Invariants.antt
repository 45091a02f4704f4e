use Rattle.std.proofs.Common.{◌+◌, ◌≤◌, sum_by}
use Rattle.energy_program.specs.Tree.{tree_of}
use Rattle.kernel_compiler.specs.Sizes.{size}
use Rattle.kernel_compiler.proofs.code_limits.is_small.Given as goal

abbrev pub invariant-loop-node : goal.invariant-loop-node
invariant-loop-node g l = l._node + sum_by (λ e. size (tree_of e.now)) l.pending.items ≤ size (tree_of l.fn.e)
