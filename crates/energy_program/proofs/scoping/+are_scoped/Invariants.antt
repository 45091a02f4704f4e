use Rattle.std.proofs.Common.{length}
use Rattle.energy_program.proofs.scoping.+are_scoped.Given as goal

abbrev pub decreases-are_scoped : goal.decreases-are_scoped
decreases-are_scoped g l = length l.definitions.now
