use Rattle.std.proofs.Common.{◌^◌, ℤ, pos, ◌*ℤ◌, ap, ◌∙◌, lit<, arith}
use Rattle.observables.specs.Observables.{kinetic_energy, kinetic_unit, square_lengths}
use Rattle.observables.proofs.ObservableLaws.{decimal_ready, kinetic_within}
use Rattle.observables.proofs.observations.Observation.kinetic_energy.Goals as goal

pub nearest-requires-clause-fits : goal.nearest-requires-clause-fits
nearest-requires-clause-fits c =
    let s = c.args.scales.now in
    let o = c.args.self.now in
    let unit = c.kinetic_divisors.ensures.unit in
    (decimal_ready 6 (2 ^ 62) (kinetic_energy s o) c.times.result _
    (c.times.ensures ∙ ap (λ (z : ℤ). z *ℤ pos 1000000) c.square_lengths.ensures.value) c.kinetic_divisors.ensures.value
    (omega (arith, unit.least)) (omega (arith, unit.below)) (lit< tt)
    (kinetic_within (square_lengths s.ring o.squares) (kinetic_unit s.time_step) (rw c.square_lengths.ensures.value at c.square_lengths.ensures.bound) unit.least)).fits
