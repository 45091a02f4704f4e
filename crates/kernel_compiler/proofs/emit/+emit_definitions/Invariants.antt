use Rattle.std.proofs.Common.{length}
use Rattle.kernel_compiler.proofs.emit.+emit_definitions.Given as goal

abbrev pub decreases-emit_definitions : goal.decreases-emit_definitions
decreases-emit_definitions g l = length l.definitions.now
