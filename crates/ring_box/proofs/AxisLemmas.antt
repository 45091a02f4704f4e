-- Vectors by their components.
use Rattle.std.proofs.Common.{◌≡◌, refl}
use Rattle.ring_box.specs.Axes.{by_axis}
use Rattle.ring_box.specs.declared.vectors.Axis.{Axis}
use Rattle.ring_box.specs.declared.vectors.Axis.TheVariants.{X, Y, Z}

-- vectors are equal if their components are
pub same_axes : {N : Type 0} (f g : Axis → N) → ((axis : Axis) → f axis ≡ g axis) → by_axis f ≡ by_axis g
same_axes f g same = rw (same X, same Y, same Z) refl
