use Rattle.std.proofs.Common.{◌≡◌, ◌*◌, ◌^◌, ◌≤◌, ◌+ℤ◌, drop, unsigned_abs}
use Rattle.observables.specs.Sums.{moments_along}
use Rattle.observables.proofs.frames.moments_along.Given as goal

abbrev pub invariant-loop-i : goal.invariant-loop-i
invariant-loop-i l =
    (l.sum +ℤ moments_along l.axis (drop l.i l.masses) (drop l.i l.from) (drop l.i l.to) ≡ moments_along l.axis l.masses l.from l.to) × (unsigned_abs l.sum ≤ l.i * 2 ^ 58)
