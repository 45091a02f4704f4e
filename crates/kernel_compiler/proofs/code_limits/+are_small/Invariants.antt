use Rattle.std.proofs.Common.{length}
use Rattle.kernel_compiler.proofs.code_limits.+are_small.Given as goal

abbrev pub decreases-are_small : goal.decreases-are_small
decreases-are_small g l = length l.definitions.now
