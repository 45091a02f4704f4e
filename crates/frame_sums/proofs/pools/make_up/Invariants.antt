use Rattle.std.proofs.Common.{◌≡◌, ◌+◌, ◌≤◌, vec_capacity, vec_len}
use Rattle.frame_sums.proofs.pools.make_up.Given as goal

-- scratch is only added, and the capacity suffices for all missing scratch
abbrev pub invariant-loop : goal.invariant-loop
invariant-loop g l = record {
  grown : vec_len l.scratches ≡ vec_len l.initial.scratches + l.counter;
  room : vec_len l.initial.scratches + l.missing ≤ vec_capacity l.scratches;
}
