-- Displacements of an atom along a side of the box in one time step, rounded to grid units of side/2^32.
use Rattle.std.specs.Prelude.{ℕ, ℤ, pos, ◌*◌, ◌^◌, ◌-ℤ◌, ◌*ℤ◌}
use Rattle.fixed.specs.Rounding.{IsNearest, nearest_of}
use Rattle.ring_box.specs.Places.{IsPlace, place_at}

-- z is the number of grid units nearest to the displacement of an atom of velocity v, in 10^-4 nm/ps, in dt fs. v dt is
-- the displacement in 10^-7 nm; a side of L, in 10^-5 nm, is 100 L in this unit, and has 2^32 grid units.
abbrev pub IsWay : ℤ → ℕ → ℕ → ℤ → Type 0
IsWay v dt L z = IsNearest (v *ℤ pos (dt * 2 ^ 32)) (pos (100 * L)) z

-- the number of grid units nearest to the displacement
abbrev pub places_moved : ℤ → ℕ → ℕ → ℤ
places_moved v dt L = nearest_of (v *ℤ pos (dt * 2 ^ 32)) (pos (100 * L))

-- x is the grid coordinate from which an atom of velocity v reaches the grid coordinate c in one time step
pub record IsPlaceBefore (c : ℕ) (v : ℤ) (dt L x : ℕ) : Type 0 where
  pub moved : (z : ℤ) × IsWay v dt L z × IsPlace (pos c -ℤ z) x

-- the grid coordinate from which an atom of velocity v reaches c in one time step
abbrev pub place_before : ℕ → ℤ → ℕ → ℕ → ℕ
place_before c v dt L = place_at (pos c -ℤ places_moved v dt L)
