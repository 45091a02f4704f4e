use Rattle.std.proofs.Common.{◌*◌, ℤ, ap, ◌∙◌}
use Rattle.observables.specs.Ratios.{ratio}
use Rattle.ring_box.specs.Axes.{side_along}
use Rattle.observables.specs.Observables.{kinetic_tensor, kinetic_unit, pressure_of, products_of, virial_on, virial_tensor, virial_unit, volume}
use Rattle.observables.proofs.TensorLaws.{plus_swapped, products_swapped, sides_swapped}
use Rattle.observables.proofs.laws.pressure_is_symmetric.Goals as goal

pub returns : goal.returns
returns c = λ s o a b.
    ap (λ (k : ℤ). pressure_of (ratio k (kinetic_unit s.time_step)) (virial_tensor a b s o) (volume s.ring))
    (sides_swapped (products_of a b o) (products_of b a o) (side_along a s.ring) (side_along b s.ring) (products_swapped a b o))
    ∙ ap (λ (w : ℤ). pressure_of (kinetic_tensor b a s o) (ratio w (virial_unit s * 2)) (volume s.ring)) (plus_swapped (virial_on a b s o) (virial_on b a s o))
