use Rattle.std.proofs.Common.{◌≡◌, ◌+◌, ◌*◌, ◌<◌, length, drop}
use Rattle.observables.specs.Limbs.{limbs_value}
use Rattle.observables.proofs.limbs.quotient.Given as goal

-- the limbs from i on are divided
abbrev pub invariant-loop-i : goal.invariant-loop-i
invariant-loop-i l =
    (length l.quotient ≡ 8) × (limbs_value (drop l.i l.quotient) * l.divisor + l.rest ≡ limbs_value (drop l.i l.a)) × (l.rest < l.divisor)
