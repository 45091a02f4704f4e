use Rattle.std.proofs.Common.{◌*◌, ◌^◌, ℤ, pos, ◌*ℤ◌, ap, ◌∙◌, lit<}
use Rattle.observables.specs.Ratios.{over, times}
use Rattle.observables.specs.Observables.{boltzmann, degrees_of_freedom, kinetic_energy, kinetic_unit, square_lengths}
use Rattle.observables.proofs.ObservableLaws.{decimal_ready, temperature_denominator, temperature_within}
use Rattle.observables.proofs.observations.Observation.temperature.Goals as goal

pub nearest-requires-clause-fits : goal.nearest-requires-clause-fits
nearest-requires-clause-fits c =
    let s = c.args.scales.now in
    let o = c.args.self.now in
    let unit = c.temperature_divisors.ensures.unit in
    let degrees = c.temperature_divisors.ensures.degrees in
    let u = kinetic_unit s.time_step in
    let m = degrees_of_freedom s.atoms * boltzmann in
    let d = temperature_denominator u m unit.least unit.below degrees.least degrees.below in
    (decimal_ready 3 (2 ^ 71) (over (times (kinetic_energy s o) (2 * 10 ^ 17)) m) c.times-2.result _
    (c.times-2.ensures ∙ ap (λ (z : ℤ). z *ℤ pos 1000) (c.times.ensures ∙ ap (λ (z : ℤ). z *ℤ pos 200000000000000000) c.square_lengths.ensures.value))
    c.temperature_divisors.ensures.value d.0 d.1 (lit< tt)
    (temperature_within (square_lengths s.ring o.squares) u m (rw c.square_lengths.ensures.value at c.square_lengths.ensures.bound) unit.least degrees.least)).fits
