-- The text of the forces on atoms, one line per atom.
use Rattle.std.specs.Prelude.{ℕ, ℤ, List, [], ◌∷◌, ◌++◌}
use Rattle.std.specs.Fmt.{signed_decimal}
use Rattle.line_text.specs.Parts.{ended}
use Rattle.ring_box.specs.declared.vectors.Vector.{Vector}
use Rattle.state.specs.StateText.{AtomView, columns_of}

-- a component of a force after a space
abbrev pub component : ℤ → List ℕ
component z = 32 ∷ signed_decimal z

-- the line of an atom: its columns as on a state's atom line, and the force on it along x, y and z
abbrev pub force_line : AtomView → Vector ℤ → List ℕ
force_line a f = columns_of a ++ component f.x ++ component f.y ++ component f.z

-- the lines of the atoms and the forces on them, in order, up to the end of the shorter list
abbrev pub force_lines : List AtomView → List (Vector ℤ) → List ℕ
force_lines [] forces = []
force_lines (a ∷ atoms) [] = []
force_lines (a ∷ atoms) (f ∷ forces) = ended (force_line a f) ++ force_lines atoms forces
