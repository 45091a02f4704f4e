-- Frames of GRO files as values, independent of memory (GROMACS manual, gro file format).
use Rattle.std.specs.Prelude.{ℕ, ℤ, List, map}
use Rattle.line_text.specs.Names.{name_text}
use Rattle.gro.specs.declared.frames.GroAtom.{GroAtom}
use Rattle.gro.specs.declared.frames.GroFrame.{GroFrame}

-- An atom. `number` is the number of its residue. The position in picometres and the velocity in 10^-4 nm/ps have three
-- components each, along x, y and z.
pub record AtomView : Type 0 where
  pub number : ℤ
  pub residue : List ℕ
  pub name : List ℕ
  pub at : List ℤ
  pub velocity : List ℤ

-- A frame. Its sides are three numbers in 10^-5 nm, along x, y and z.
pub record FrameView : Type 0 where
  pub title : List ℕ
  pub atoms : List AtomView
  pub sides : List ℤ

-- the value of an atom
abbrev pub atom_view : GroAtom → AtomView
atom_view a = record { number = a.number; residue = name_text a.residue; name = name_text a.name; at = a.at; velocity = a.velocity }

-- the value of a frame
abbrev pub frame_view : {A : Type 0} → GroFrame A → FrameView
frame_view f = record { title = f.title.items; atoms = map atom_view f.atoms.items; sides = f.sides }
