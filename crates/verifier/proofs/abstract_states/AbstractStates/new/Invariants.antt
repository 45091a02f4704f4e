use Rattle.std.proofs.Common.{◌≡◌, ◌+◌, ℕ, None, length}
use Rattle.verifier.specs.Slices.{frame_at}
use Rattle.verifier.proofs.abstract_states.AbstractStates.new.Given as goal

abbrev pub invariant-loop : goal.invariant-loop
invariant-loop g l = record {
  long : length l.frames.items ≡ l.counter + 1;
  none : (at : ℕ) → frame_at l.frames.items at ≡ None;
}
