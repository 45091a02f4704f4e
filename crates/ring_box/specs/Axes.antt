-- Vectors, positions and boxes along an axis.
use Rattle.std.specs.Prelude.{ℕ}
use Rattle.ring_box.specs.declared.boxes.RingBox.{RingBox}
use Rattle.ring_box.specs.declared.vectors.Axis.{Axis}
use Rattle.ring_box.specs.declared.vectors.Axis.TheVariants.{X, Y, Z}
use Rattle.ring_box.specs.declared.vectors.Place3.{Place3}
use Rattle.ring_box.specs.declared.vectors.Vector.{Vector}

-- the component of a vector along an axis
abbrev pub component_along : {N : Type 0} → Axis → Vector N → N
component_along X v = v.x
component_along Y v = v.y
component_along Z v = v.z

-- the vector with these components
abbrev pub by_axis : {N : Type 0} → (Axis → N) → Vector N
by_axis f = record { x = f X; y = f Y; z = f Z }

-- the grid coordinate of a position along an axis
abbrev pub along : Axis → Place3 → ℕ
along X p = p.x
along Y p = p.y
along Z p = p.z

-- the side of a box along an axis
abbrev pub side_along : Axis → RingBox → ℕ
side_along X ring = ring.x
side_along Y ring = ring.y
side_along Z ring = ring.z
