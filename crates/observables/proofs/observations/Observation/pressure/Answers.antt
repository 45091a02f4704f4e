use Rattle.std.proofs.Common.{◌≡◌, ◌*◌, ℕ, ℤ, ap, ◌∙◌, arith}
use Rattle.observables.specs.Ratios.{decimal_of, ratio}
use Rattle.observables.specs.Observables.{diagonal, kinetic_energy, kinetic_unit, lengths, pressure_of, virial_unit, volume}
use Rattle.observables.proofs.ObservableLaws.{held}
use Rattle.observables.proofs.observations.Observation.pressure.Goals as goal

pub returns : goal.returns
returns c =
    let s = c.args.scales.now in
    let o = c.args.self.now in
    let u = virial_unit s in
    let v = 3 * volume s.ring in
    let one : u * 1 ≡ u = omega arith in
    held c.pressure_of.result c.pressure_of.type_inv
    ∙ c.pressure_of.ensures
    ∙ ap (λ (k : ℤ). decimal_of 3 (pressure_of (ratio k (kinetic_unit s.time_step)) (ratio c.virial_lengths.result (u * 1)) v)) c.square_lengths-kinetic.ensures.value
    ∙ ap (λ (w : ℤ). decimal_of 3 (pressure_of (kinetic_energy s o) (ratio w (u * 1)) v)) c.virial_lengths.ensures.value
    ∙ ap (λ (d : ℕ). decimal_of 3 (pressure_of (kinetic_energy s o) (ratio (lengths s.ring (diagonal o.pairs.sums.virial)) d) v)) one
