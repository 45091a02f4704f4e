use Rattle.std.proofs.Common.{◌≡◌, length}
use Rattle.library_tests.proofs.pools.empty.Given as goal

abbrev pub invariant-loop : goal.invariant-loop
invariant-loop l = length l.all.items ≡ l.counter
