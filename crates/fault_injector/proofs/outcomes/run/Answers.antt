-- Each block of the refusing allocator is the global one's, so any thread may give it back.
use Rattle.std.proofs.Crossing.{frees}
use Rattle.fault_injector.proofs.outcomes.run.Goals as goal

pub execute-status-requires-frees-A-Allocator : goal.execute-status-requires-frees-A-Allocator
execute-status-requires-frees-A-Allocator g c κs within = record { frees = λ r τ p. frees.frees r.now.inner τ p }
