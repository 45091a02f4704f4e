use Rattle.std.proofs.Common.{◌+◌, ◌*◌, ◌^◌, ◌<◌, unsigned_abs, arith}
use Rattle.observables.specs.Products.{product_of}
use Rattle.observables.proofs.RatioLaws.{abs_sum}
use Rattle.observables.specs.Observables.{kinetic_unit, virial_unit, volume}
use Rattle.observables.proofs.ObservableLaws.{energies_within, product_below}
use Rattle.observables.proofs.scales.Scales.energies.Goals as goal
use Rattle.observables.proofs.scales.Scales.energies.Goals.{After-scaled-virial}

sizes : (c : After-scaled-virial) → unsigned_abs c.scaled-twice.result + unsigned_abs c.scaled-virial.result < 2 ^ 318
sizes c =
    let most : unsigned_abs c.args.kinetic.now < 2 ^ 205 = omega (arith, c.requires.kinetic, c.requires.volume) in
    let virial : unsigned_abs c.args.virial.now < 2 ^ 200 = omega (arith, c.requires.virial, c.requires.volume) in
    let twice : unsigned_abs c.times.result < 2 ^ 205 * 3 = product_below c.times.result c.args.kinetic.now 2 (2 ^ 205) 3 c.times.ensures most (omega arith) in
    let k = c.kinetic_divisors.ensures in
    let v = c.virial_divisors.ensures in
    omega (
      arith,
      product_below c.scaled-twice.result c.times.result (product_of c.virial_divisors.result) (2 ^ 205 * 3) (2 ^ 90) c.scaled-twice.ensures twice (rw v.value v.unit.below),
      product_below c.scaled-virial.result c.args.virial.now (product_of c.kinetic_divisors.result) (2 ^ 200) (2 ^ 117) c.scaled-virial.ensures virial (rw k.value k.unit.below),
    )

pub plus-requires : goal.plus-requires
plus-requires c = omega (arith, sizes (goal.at.plus-requires c).After-scaled-virial)

pub returns-clause-bound : goal.returns-clause-bound
returns-clause-bound c = rw c.plus.ensures (omega (arith, abs_sum c.scaled-twice.result c.scaled-virial.result, sizes (goal.at.returns-clause-bound c).After-scaled-virial))

pub returns-clause-within : goal.returns-clause-within
returns-clause-within c =
    let s = c.args.self.now in
    energies_within c.args.kinetic.now c.args.virial.now (kinetic_unit s.time_step) (virial_unit s * c.args.orders) (volume s.ring) c.requires.kinetic c.requires.virial
    c.kinetic_divisors.ensures.unit.least c.virial_divisors.ensures.unit.least
