use Rattle.std.proofs.Common.{◌≡◌, ◌+◌, ◌*◌, ◌^◌, ◌≤◌, drop}
use Rattle.observables.specs.Sums.{squares_along}
use Rattle.observables.proofs.frames.squares_along.Given as goal

abbrev pub invariant-loop-i : goal.invariant-loop-i
invariant-loop-i l =
    (l.sum + squares_along l.axis (drop l.i l.masses) (drop l.i l.from) (drop l.i l.to) ≡ squares_along l.axis l.masses l.from l.to) × (l.sum ≤ l.i * 2 ^ 89)
