use Rattle.std.proofs.Common.{◌≡◌, ◌+◌, length}
use Rattle.fixed.specs.Fractions.{bits_of}
use Rattle.verifier.specs.Slices.{IsFollowedTo}
use Rattle.verifier.proofs.slices.follow_slice.Given as goal

abbrev pub invariant-loop-here : goal.invariant-loop-here
invariant-loop-here g l = record {
  long : length l.states ≡ length l.code + 1;
  stands : IsFollowedTo (bits_of l.frac) l.code l.inputs l.here l.states;
}
