use Rattle.std.proofs.Common.{length}
use Rattle.kernel_compiler.proofs.sizes.+definitions_count.Given as goal

abbrev pub decreases-definitions_count : goal.decreases-definitions_count
decreases-definitions_count g l = length l.definitions.now
