use Rattle.std.proofs.Common.{◌≡◌, ◌*◌, ◌^◌, ◌≤◌, take, unsigned_abs}
use Rattle.frame_sums.specs.Sums.{sum_over}
use Rattle.frame_sums.proofs.energies.sum_of_first.Given as goal

abbrev pub invariant-loop-l : goal.invariant-loop-l
invariant-loop-l l = record {
  value : l.sum ≡ sum_over (λ v. v) (take l.l l.values);
  bound : unsigned_abs l.sum ≤ 2 ^ 63 * l.l;
}
