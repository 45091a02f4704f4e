use Rattle.std.proofs.Common.{◌≡◌, ◌++◌, length}
use Rattle.std.specs.List.{AllByRecursion}
use Rattle.kernel_code.specs.Listing.{instruction_lines, HasOperands}
use Rattle.kernel_code.proofs.listings.below_head.Given as goal

abbrev pub invariant-loop-rest : goal.invariant-loop-rest
invariant-loop-rest g l = record {
  operands : AllByRecursion HasOperands l.instructions.items;
  split : l.bytes ≡ instruction_lines l.instructions.items ++ l.rest;
}

abbrev pub decreases-loop-rest : goal.decreases-loop-rest
decreases-loop-rest g l = length l.rest
