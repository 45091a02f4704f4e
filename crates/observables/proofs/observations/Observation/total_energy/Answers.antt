use Rattle.std.proofs.Common.{◌^◌, ℤ, pos, ◌*ℤ◌, ap, ◌∙◌, lit<}
use Rattle.fixed.specs.Fractions.{bits_of}
use Rattle.observables.specs.Observables.{kinetic_unit, total_energy}
use Rattle.observables.proofs.ObservableLaws.{decimal_ready, total_denominator}
use Rattle.observables.proofs.observations.Observation.total_energy.Goals as goal

pub nearest-requires : goal.nearest-requires
nearest-requires c =
    let s = c.args.scales.now in
    let l = c.total_lengths.ensures in
    let d = total_denominator (2 ^ bits_of s.frac) (kinetic_unit s.time_step) l.potential.least l.potential.below l.kinetic.least l.kinetic.below in
    let ready = decimal_ready 6 (2 ^ 77) (total_energy s c.args.self.now) c.times.result _
    (c.times.ensures ∙ ap (λ (z : ℤ). z *ℤ pos 1000000) l.value) c.total_divisors.ensures.value d.0 d.1 (lit< tt) l.within in
    record { positive = ready.positive; room = ready.room; fits = ready.fits }
