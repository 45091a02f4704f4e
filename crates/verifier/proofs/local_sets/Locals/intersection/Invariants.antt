use Rattle.std.proofs.Common.{◌≡◌, ℕ, false, ◌&&◌, length, slice_index_or, ◌<◌, ◌≤◌}
use Rattle.verifier.proofs.local_sets.Locals.intersection.Given as goal

abbrev pub invariant-loop-k : goal.invariant-loop-k
invariant-loop-k l = record {
  long : length l.members ≡ 256;
  below : (j : ℕ) → j < l.k → slice_index_or l.members j false ≡ (slice_index_or l.fn.self j false && slice_index_or l.other j false);
  above : (j : ℕ) → l.k ≤ j → slice_index_or l.members j false ≡ slice_index_or l.fn.self j false;
}
