use Rattle.std.proofs.Common.{◌≡◌, length}
use Rattle.library_tests.proofs.pools.numbered.Given as goal

abbrev pub invariant-loop-worker : goal.invariant-loop-worker
invariant-loop-worker l = length l.all.items ≡ l.worker
