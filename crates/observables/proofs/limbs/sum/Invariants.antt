use Rattle.std.proofs.Common.{◌≡◌, ◌+◌, ◌*◌, ◌^◌, length, take}
use Rattle.std.specs.Int.{from_bool}
use Rattle.observables.specs.Limbs.{limbs_value}
use Rattle.observables.proofs.limbs.sum.Given as goal

abbrev pub invariant-loop-i : goal.invariant-loop-i
invariant-loop-i l =
    (length l.sum ≡ 8) × (limbs_value (take l.i l.sum) + from_bool l.over * 2 ^ (64 * l.i) ≡ limbs_value (take l.i l.a) + limbs_value (take l.i l.b) + from_bool l.fn.carry)
