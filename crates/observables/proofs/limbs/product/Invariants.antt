use Rattle.std.proofs.Common.{◌≡◌, ◌+◌, ◌*◌, ◌^◌, length, take}
use Rattle.observables.specs.Limbs.{limbs_value}
use Rattle.observables.proofs.limbs.product.Given as goal

abbrev pub invariant-loop-i : goal.invariant-loop-i
invariant-loop-i l =
    (length l.product ≡ 8) × (limbs_value (take l.i l.product) + l.over * 2 ^ (64 * l.i) ≡ limbs_value (take l.i l.a) * l.factor + l.fn.carry)
