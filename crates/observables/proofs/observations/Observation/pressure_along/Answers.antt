use Rattle.std.proofs.Common.{◌≡◌, ◌*◌, ◌∙◌, arith}
use Rattle.observables.specs.Observables.{volume}
use Rattle.observables.proofs.ObservableLaws.{held}
use Rattle.observables.proofs.observations.Observation.pressure_along.Goals as goal

pub returns : goal.returns
returns c =
    let one : 1 * volume c.args.scales.now.ring ≡ volume c.args.scales.now.ring = omega arith in
    held c.pressure_of.result c.pressure_of.type_inv ∙ rw (c.product_lengths-kinetic.ensures.value, c.virial_along.ensures.value, one) at c.pressure_of.ensures
