-- Sums over the atoms of two frames. Masses are in 10^-5 u. Displacements between the frames are integers in grid
-- units, along the shorter way around the periodic box.
use Rattle.std.specs.Prelude.{ℕ, ℤ, pos, ◌+◌, ◌*◌, ◌+ℤ◌, ◌*ℤ◌, List, [], ◌∷◌}
use Rattle.ring_box.specs.Axes.{along, by_axis}
use Rattle.ring_box.specs.Distances.{square}
use Rattle.ring_box.specs.Places.{difference}
use Rattle.ring_box.specs.declared.vectors.Place3.{Place3}
use Rattle.ring_box.specs.declared.vectors.Vector.{Vector}
use Rattle.ring_box.specs.declared.vectors.Axis.{Axis}
use Rattle.ring_box.specs.declared.vectors.Axis.TheVariants.{X, Y, Z}

-- the displacement along an axis, in grid units
abbrev pub displacement : Axis → Place3 → Place3 → ℤ
displacement axis from to = difference (along axis to) (along axis from)

-- the sum of mass times squared displacement along an axis
abbrev pub squares_along : Axis → List ℕ → List Place3 → List Place3 → ℕ
squares_along axis (m ∷ masses) (p ∷ from) (q ∷ to) = m * square (displacement axis p q) + squares_along axis masses from to
squares_along axis (m ∷ masses) (p ∷ from) [] = 0
squares_along axis (m ∷ masses) [] to = 0
squares_along axis [] from to = 0

-- the sum of mass times displacement along an axis
abbrev pub moments_along : Axis → List ℕ → List Place3 → List Place3 → ℤ
moments_along axis (m ∷ masses) (p ∷ from) (q ∷ to) = pos m *ℤ displacement axis p q +ℤ moments_along axis masses from to
moments_along axis (m ∷ masses) (p ∷ from) [] = pos 0
moments_along axis (m ∷ masses) [] to = pos 0
moments_along axis [] from to = pos 0

-- the sum of mass times the product of the displacements along two axes
abbrev pub products_along : Axis → Axis → List ℕ → List Place3 → List Place3 → ℤ
products_along a b (m ∷ masses) (p ∷ from) (q ∷ to) =
    pos m *ℤ (displacement a p q *ℤ displacement b p q) +ℤ products_along a b masses from to
products_along a b (m ∷ masses) (p ∷ from) [] = pos 0
products_along a b (m ∷ masses) [] to = pos 0
products_along a b [] from to = pos 0

-- the sums of mass times displacement between two frames, for each axis
abbrev pub moments_between : List ℕ → List Place3 → List Place3 → Vector ℤ
moments_between masses from to = by_axis (λ axis. moments_along axis masses from to)

-- the sums of mass times squared displacement for each axis, over the steps before and after the current frame
abbrev pub squares_about : List ℕ → List Place3 → List Place3 → List Place3 → Vector ℕ
squares_about masses previous current next =
    by_axis (λ axis. squares_along axis masses previous current + squares_along axis masses current next)

-- the sums of mass times the product of two displacements, over the steps before and after the current frame: x for the
-- axes y and z, y for z and x, and z for x and y
abbrev pub products_about : List ℕ → List Place3 → List Place3 → List Place3 → Vector ℤ
products_about masses previous current next = record {
  x = products_along Y Z masses previous current +ℤ products_along Y Z masses current next;
  y = products_along Z X masses previous current +ℤ products_along Z X masses current next;
  z = products_along X Y masses previous current +ℤ products_along X Y masses current next;
}
