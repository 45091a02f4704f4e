use Rattle.std.proofs.Common.{◌≡◌, ◌+◌, ◌*◌, ◌^◌, ◌<◌, length, take}
use Rattle.std.specs.Int.{from_bool}
use Rattle.observables.specs.Limbs.{limbs_value}
use Rattle.observables.proofs.limbs.difference.Given as goal

abbrev pub invariant-loop-i : goal.invariant-loop-i
invariant-loop-i l =
    (length l.rest ≡ 8) × (limbs_value (take l.i l.rest) < 2 ^ (64 * l.i)) × (limbs_value (take l.i l.rest) + limbs_value (take l.i l.b) + from_bool l.fn.borrow ≡ limbs_value (take l.i l.a) + from_bool l.under * 2 ^ (64 * l.i))
