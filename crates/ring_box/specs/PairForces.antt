-- Forces of many pairs, one lane for each pair.
use Rattle.std.specs.Prelude.{ℕ, ℤ, pos, ◌≡◌, ◌≢◌, slice_index_or}
use Rattle.float_filters.specs.declared.force_lanes.FourForces.{FourForces}
use Rattle.ring_box.specs.FloatRows.{IsWithFour}
use Rattle.ring_box.specs.declared.pair_forces.PairForces.{PairForces}
use Rattle.ring_box.specs.declared.vectors.Vector.{Vector}

-- the force in lane l
abbrev pub force_in : PairForces → ℕ → Vector ℤ
force_in f l = record { x = slice_index_or f.x l (pos 0); y = slice_index_or f.y l (pos 0); z = slice_index_or f.z l (pos 0) }

-- `to` has this force in lane l, and the other forces of `from`
pub record IsWithForce (from : PairForces) (l : ℕ) (force : Vector ℤ) (to : PairForces) : Type 0 where
  pub here : force_in to l ≡ force
  pub elsewhere : (k : ℕ) → k ≢ l → force_in to k ≡ force_in from k

-- `to` has these four forces from lane l on, and the other forces of `from`
pub record IsWithForces (from : PairForces) (l : ℕ) (forces : FourForces) (to : PairForces) : Type 0 where
  pub x : IsWithFour from.x l forces.x to.x
  pub y : IsWithFour from.y l forces.y to.y
  pub z : IsWithFour from.z l forces.z to.z
