use Rattle.std.proofs.Common.{◌≡◌, ◌*◌, ◌^◌, ◌≤◌, ◌+ℤ◌, drop, unsigned_abs}
use Rattle.observables.specs.Sums.{products_along}
use Rattle.observables.proofs.frames.products_along.Given as goal

abbrev pub invariant-loop-i : goal.invariant-loop-i
invariant-loop-i l =
    (l.sum +ℤ products_along l.a l.b (drop l.i l.masses) (drop l.i l.from) (drop l.i l.to) ≡ products_along l.a l.b l.masses l.from l.to)
    × (unsigned_abs l.sum ≤ l.i * 2 ^ 89)
