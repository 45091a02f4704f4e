use Rattle.std.proofs.Common.{◌*◌, ◌^◌, ℤ, pos, ◌*ℤ◌, ap, ◌∙◌, lit<}
use Rattle.observables.specs.Ratios.{plus, ratio, times}
use Rattle.observables.specs.Observables.{kinetic_unit, pressure_of, virial_unit, volume}
use Rattle.observables.proofs.ObservableLaws.{decimal_ready, pressure_denominator, pressure_within}
use Rattle.observables.proofs.scales.Scales.pressure_of.Goals as goal

pub nearest-requires : goal.nearest-requires
nearest-requires c =
    let s = c.args.self.now in
    let kinetic = ratio c.args.kinetic.now (kinetic_unit s.time_step) in
    let virial = ratio c.args.virial.now (virial_unit s * c.args.orders) in
    let l = c.energies.ensures in
    let v = c.pressure_divisors-divisors.ensures.volume in
    let n = c.requires.volumes in
    let d = pressure_denominator (kinetic_unit s.time_step) (virial_unit s * c.args.orders) c.args.volumes (volume s.ring) l.kinetic.least l.kinetic.below l.virial.least l.virial.below n.least n.below v.least v.below in
    let ready = decimal_ready 3 (2 ^ 112) (pressure_of kinetic virial (c.args.volumes * volume s.ring)) c.times.result _
    (c.times.ensures ∙ ap (λ (z : ℤ). z *ℤ pos 1000) (c.scaled-units.ensures ∙ ap (λ (z : ℤ). z *ℤ pos 10000000000000000000000000) l.value))
    c.pressure_divisors-divisors.ensures.value d.0 d.1 (lit< tt) (pressure_within (plus (times kinetic 2) virial) c.args.volumes (volume s.ring) n.least l.within) in
    record { positive = ready.positive; room = ready.room; fits = ready.fits }
