-- The force of a pair in two halves: the geometry of an interacting pair, and the force that a slope gives along its
-- line.
use Rattle.std.specs.Prelude.{ℕ, ℤ, pos, ◌≡◌, ◌+◌, ◌-◌, ◌*◌, ◌/◌, ◌^◌, ◌==◌, ◌≤◌, ◌<◌, ◌≤ℤ◌, ◌<ℤ◌, unsigned_abs, if◌then◌else◌, Option, None, option_map}
use Rattle.std.specs.Int.{int_max}
use Rattle.fixed.specs.Fractions.{bits_of}
use Rattle.fixed.specs.Roots.{root}
use Rattle.fixed.specs.declared.frac.Frac.{Frac}
use Rattle.ring_box.specs.Cells.{cell_of}
use Rattle.ring_box.specs.Distances.{distance_at, square_of, unit_of, widening_of, x_separation, y_separation, z_separation}
use Rattle.ring_box.specs.Forces.{acting_distance_of, line_force_of, pair_force_of}
use Rattle.ring_box.specs.declared.boxes.RingBox.{RingBox}
use Rattle.ring_box.specs.declared.vectors.CellBits.{CellBits}
use Rattle.ring_box.specs.declared.vectors.CellNumbers.{CellNumbers}
use Rattle.ring_box.specs.declared.vectors.Place3.{Place3}
use Rattle.ring_box.specs.declared.vectors.Vector.{Vector}

-- ---- the range of distances at which pairs interact

-- the core and the cutoff of a pair force
pub record Reach : Type 0 where
  pub frac : Frac
  pub core : ℤ
  pub cutoff : ℤ

-- 0 <= core < cutoff <= 80 nm
pub record IsReach (d : Reach) : Type 0 where
  pub core : pos 0 ≤ℤ d.core
  pub order : d.core <ℤ d.cutoff
  pub cutoff : d.cutoff ≤ℤ pos (80 * 2 ^ bits_of d.frac)

-- the limit of squares: a distance is below the cutoff exactly if the square of the separation is below this
abbrev pub limit_of : Frac → ℤ → ℕ
limit_of frac cutoff =
    (unit_of frac * unsigned_abs cutoff * (unit_of frac * unsigned_abs cutoff) + (widening_of frac - 1)) / widening_of frac

-- ---- the geometry of an interacting pair

-- the components along the axes of the line from the second atom to the first, its length rounded down, and the
-- distance at which the force is evaluated
pub record ActingPair : Type 0 where
  pub x : ℤ
  pub y : ℤ
  pub z : ℤ
  pub length : ℕ
  pub distance : ℤ

-- the length is positive and fits 63 bits, and no component exceeds it
pub record IsActingPair (p : ActingPair) : Type 0 where
  pub positive : 0 < p.length
  pub short : p.length < 2 ^ 63
  pub x_within : unsigned_abs p.x ≤ p.length
  pub y_within : unsigned_abs p.y ≤ p.length
  pub z_within : unsigned_abs p.z ≤ p.length

-- the length of the line whose square is s; atoms at one position have no line, and a length of 1 with components of 0
-- gives them no force
abbrev pub length_of : ℕ → ℕ
length_of s = if s == 0 then 1 else root s

-- the geometry of two atoms at p and q, with r for the distance at which their force is evaluated
abbrev pub between : RingBox → Place3 → Place3 → ℤ → ActingPair
between b p q r =
    record { x = x_separation b p q; y = y_separation b p q; z = z_separation b p q; length = length_of (square_of b p q); distance = r }

-- the geometry of two atoms at p and q; none if they don't interact
abbrev pub acting_of : Reach → RingBox → Place3 → Place3 → Option ActingPair
acting_of d b p q = option_map (between b p q) (acting_distance_of d.frac b d.core d.cutoff p q)

-- the geometry of a pair within reach, from its separation and the square of that
abbrev pub acting_from : Reach → ℤ → ℤ → ℤ → ℕ → ActingPair
acting_from d x y z s =
    record { x = x; y = y; z = z; length = length_of s; distance = int_max (pos (distance_at d.frac s)) d.core }

-- ---- the force along the line

-- the force on the first atom, g being minus dU/dr
abbrev pub force_of : ActingPair → ℤ → Vector ℤ
force_of p g = line_force_of g p.x p.y p.z p.length

-- both halves together are the force of the pair; `minus_slope` is minus dU/dr as a function of the distance
abbrev pub HalvesAreWhole : Reach → RingBox → (ℤ → ℤ) → Place3 → Place3 → Type 0
HalvesAreWhole d b minus_slope p q =
    option_map (λ a. force_of a (minus_slope a.distance)) (acting_of d b p q) ≡ pair_force_of d.frac b minus_slope d.core d.cutoff p q

-- ---- cells out of reach

-- the grid coordinate y is in the cell with this index, on a side cut into 2^b cells
abbrev pub IsInCell : ℕ → ℕ → ℕ → Type 0
IsInCell b cell y = (y < 2 ^ 32) × (cell_of y b ≡ cell)

-- these are valid indices of a cell along the sides, each cut into 2^b cells, b from 1 to 4
abbrev pub IsCellNumber : ℕ → ℕ → Type 0
IsCellNumber b cell = (1 ≤ b) × (b ≤ 4) × (cell < 2 ^ b)

abbrev pub AreCellNumbers : CellBits → CellNumbers → Type 0
AreCellNumbers bits cell = IsCellNumber bits.x cell.x × IsCellNumber bits.y cell.y × IsCellNumber bits.z cell.z

-- the atom's grid coordinate along each axis is in the cell
abbrev pub AreInCell : CellBits → CellNumbers → Place3 → Type 0
AreInCell bits cell p = IsInCell bits.x cell.x p.x × IsInCell bits.y cell.y p.y × IsInCell bits.z cell.z p.z

-- no atom of the cell interacts with one at p
abbrev pub IsOutOfReach : Reach → RingBox → CellBits → CellNumbers → Place3 → Type 0
IsOutOfReach r b bits cell p = (q : Place3) → AreInCell bits cell q → acting_of r b p q ≡ None
