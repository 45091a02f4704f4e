-- The text of the velocities of atoms in the last time step, one line per atom.
use Rattle.std.specs.Prelude.{ℕ, ℤ, pos, List, [], ◌∷◌, ◌++◌, ◌*◌, ◌^◌, ◌*ℤ◌}
use Rattle.std.specs.Fmt.{signed_decimal}
use Rattle.std.specs.List.{flat_map}
use Rattle.fixed.specs.Rounding.{nearest_of}
use Rattle.line_text.specs.Columns.{decimals_text}
use Rattle.line_text.specs.Parts.{ended}
use Rattle.ring_box.specs.Places.{difference}
use Rattle.ring_box.specs.declared.vectors.Place3.{Place3}
use Rattle.state.specs.StateText.{AtomView, columns_of}

-- the displacement along each axis from a place to the next, in grid units, along the shorter way around the box
abbrev pub displacements : Place3 → Place3 → List ℤ
displacements from to = difference to.x from.x ∷ difference to.y from.y ∷ difference to.z from.z ∷ []

-- The velocity, in 10^-6 nm/ps and rounded to nearest, of z grid units in dt fs along a side of L, in 10^-5 nm. z grid
-- units are z L / 2^32 in 10^-5 nm.
abbrev pub velocity_of : (dt : ℕ) → (L : ℕ) → ℤ → ℤ
velocity_of dt L z = nearest_of (z *ℤ pos (10000 * L)) (pos (2 ^ 32 * dt))

-- the velocities along the axes of displacements in dt fs in a box with these sides
abbrev pub velocities_of : (dt : ℕ) → (sides : List ℕ) → List ℤ → List ℤ
velocities_of dt (L ∷ sides) (z ∷ zs) = velocity_of dt L z ∷ velocities_of dt sides zs
velocities_of dt _ _ = []

-- the displacements of an atom in the last step, each after a space
abbrev pub moved_text : AtomView → List ℕ
moved_text a = flat_map (λ z. 32 ∷ signed_decimal z) (displacements a.previous a.current)

-- the velocities of an atom, each after a space, in nm/ps with six decimals
abbrev pub velocities_text : (dt : ℕ) → (sides : List ℕ) → AtomView → List ℕ
velocities_text dt sides a = flat_map (λ v. 32 ∷ decimals_text 6 v) (velocities_of dt sides (displacements a.previous a.current))

-- the line of an atom: its columns as on a state's atom line, its displacements in the last step, and its velocities
abbrev pub velocity_line : (dt : ℕ) → (sides : List ℕ) → AtomView → List ℕ
velocity_line dt sides a = columns_of a ++ moved_text a ++ velocities_text dt sides a

-- the lines of these atoms
abbrev pub velocity_lines : (dt : ℕ) → (sides : List ℕ) → List AtomView → List ℕ
velocity_lines dt sides atoms = flat_map (λ a. ended (velocity_line dt sides a)) atoms
