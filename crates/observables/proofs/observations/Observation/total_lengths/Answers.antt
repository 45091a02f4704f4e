use Rattle.std.proofs.Common.{◌≡◌, ◌+◌, ◌^◌, ◌<◌, unsigned_abs, rules, arith}
use Rattle.fixed.specs.Fractions.{bits_of}
use Rattle.observables.specs.Products.{product_of}
use Rattle.observables.specs.Observables.{kinetic_unit, square_lengths}
use Rattle.observables.proofs.RatioLaws.{abs_sum}
use Rattle.observables.proofs.ObservableLaws.{product_below, total_within}
use Rattle.observables.proofs.observations.Observation.total_lengths.Goals as goal
use Rattle.observables.proofs.observations.Observation.total_lengths.Goals.{After-times-kinetic}

sizes : (c : After-times-kinetic) → unsigned_abs c.scaled-potential.result + unsigned_abs c.times-kinetic.result < 2 ^ 218
sizes c =
    let e : c.of.result ≡ c.args.self.now.pairs.energy = search rules in
    let small : unsigned_abs c.of.result < 2 ^ 100 = rw e c.args.self.now.pairs.small_energy in
    let unit = c.kinetic_divisors.ensures in
    omega (
      arith,
      product_below c.scaled-potential.result c.of.result (product_of c.kinetic_divisors.result) (2 ^ 100) (2 ^ 117) c.scaled-potential.ensures small (rw unit.value unit.unit.below),
      product_below c.times-kinetic.result c.square_lengths.result c.one.result (2 ^ 157) (2 ^ 41) c.times-kinetic.ensures c.square_lengths.ensures.bound (omega (arith, c.one.ensures.most)),
    )

pub plus-requires : goal.plus-requires
plus-requires c = omega (arith, sizes (goal.at.plus-requires c).After-times-kinetic)

pub returns-clause-bound : goal.returns-clause-bound
returns-clause-bound c = rw c.plus.ensures (omega (arith, abs_sum c.scaled-potential.result c.times-kinetic.result, sizes (goal.at.returns-clause-bound c).After-times-kinetic))

pub returns-clause-within : goal.returns-clause-within
returns-clause-within c =
    let s = c.args.scales.now in
    let o = c.args.self.now in
    total_within o.pairs.energy (square_lengths s.ring o.squares) (2 ^ bits_of s.frac) (kinetic_unit s.time_step) o.pairs.small_energy (rw c.square_lengths.ensures.value at c.square_lengths.ensures.bound)
    (rw c.one.ensures.value at c.one.ensures.least) c.kinetic_divisors.ensures.unit.least
