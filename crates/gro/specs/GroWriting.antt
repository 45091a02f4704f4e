-- The text written for a frame, and the frames that reading it gives back unchanged.
use Rattle.std.specs.Prelude.{◌≡◌, ℕ, ◌%◌, List, [], ◌∷◌, ◌++◌, length, decimal, ℤ, pos, negsuc, ◌≤ℤ◌, IsTrue}
use Rattle.std.specs.Fmt.{signed_decimal}
use Rattle.std.specs.List.{flat_map, enumerate_from, AllByRecursion}
use Rattle.line_text.specs.Parts.{ended, right_in, left_in, AreThree, is_name}
use Rattle.line_text.specs.Columns.{decimals_text}
use Rattle.gro.specs.Frames.{AtomView, FrameView}

-- ---- the lines, without their line feeds

-- the line of the number of atoms
abbrev pub count_line : ℕ → List ℕ
count_line count = right_in 5 (decimal count)

-- an atom line, %5d%-5s%5s%5d%8.3f%8.3f%8.3f; the atom's index wraps at 100,000
abbrev pub atom_line : ℕ → AtomView → List ℕ
atom_line index a =
    right_in 5 (signed_decimal a.number) ++ left_in 5 a.residue ++ right_in 5 a.name ++ right_in 5 (decimal (index % 100000))
    ++ flat_map (λ z. right_in 8 (decimals_text 3 z)) a.at

-- a box line, %10.5f%10.5f%10.5f
abbrev pub box_line : List ℤ → List ℕ
box_line sides = flat_map (λ z. right_in 10 (decimals_text 5 z)) sides

-- ---- the text

-- the lines of these atoms; the first atom has the index n
abbrev pub atom_lines : ℕ → List AtomView → List ℕ
atom_lines n atoms = flat_map (λ x. ended (atom_line x.0 x.1)) (enumerate_from n atoms)

-- the text of a frame
unfoldable pub frame_text : FrameView → List ℕ
frame_text f = ended f.title ++ ended (count_line (length f.atoms)) ++ atom_lines 1 f.atoms ++ ended (box_line f.sides)

-- ---- numbers that fit their columns

-- a position that fits eight columns with three decimals
abbrev pub FitsPosition : ℤ → Type 0
FitsPosition z = (negsuc 999998 ≤ℤ z) × (z ≤ℤ pos 9999999)

-- a side that fits ten columns with five decimals, the first column being a space
abbrev pub FitsSide : ℤ → Type 0
FitsSide z = (pos 0 ≤ℤ z) × (z ≤ℤ pos 99999999)

-- an atom whose position fits its columns, and whose velocity, which isn't written, is zero
pub record FitsAtom (a : AtomView) : Type 0 where
  pub at : AreThree FitsPosition a.at
  pub velocity : a.velocity ≡ pos 0 ∷ pos 0 ∷ pos 0 ∷ []

-- the invariant of the type of atoms
pub record HasForm (a : AtomView) : Type 0 where
  pub low : negsuc 9998 ≤ℤ a.number
  pub high : a.number ≤ℤ pos 99999
  pub residue : IsTrue (is_name a.residue)
  pub name : IsTrue (is_name a.name)

-- all numbers of the frame fit their columns
pub record FitsColumns (f : FrameView) : Type 0 where
  pub atoms : AllByRecursion FitsAtom f.atoms
  pub sides : AreThree FitsSide f.sides
