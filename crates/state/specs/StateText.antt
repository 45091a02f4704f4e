-- States as values, independent of memory, and the only text of each state. A state doesn't hold the time step of its
-- job. For a negative number `mag` is one less than the magnitude, so `mag step < 2 ^ 63` is the range of a signed
-- 64-bit number.
use Rattle.std.specs.Prelude.{ℕ, ◌<◌, ◌≤◌, ◌^◌, List, [], ◌∷◌, ◌++◌, length, codes, ℤ, pos, negsuc, ◌≤ℤ◌, IsTrue}
use Rattle.std.specs.Fmt.{signed_decimal}
use Rattle.std.specs.List.{flat_map, AllByRecursion}
use Rattle.fixed.specs.Fractions.{bits_of}
use Rattle.fixed.specs.declared.frac.Frac.{Frac}
use Rattle.fixed.specs.declared.frac.Frac.TheVariants.{F24, F32, F40}
use Rattle.line_text.specs.Parts.{word, ended, AreThree, right_in, left_in, is_name, is_title}
use Rattle.ring_box.specs.Places.{ArePlaces}
use Rattle.ring_box.specs.declared.vectors.Place3.{Place3}
use Rattle.state.specs.declared.versions.Version.{Version}
use Rattle.state.specs.declared.versions.Version.TheVariants.{First, Second}
use lib.Signed.{mag}

-- an atom with its grid coordinates in two frames
pub record AtomView : Type 0 where
  pub residue_number : ℤ
  pub residue : List ℕ
  pub name : List ℕ
  pub previous : Place3
  pub current : Place3

-- a state; the numbers of its run have the fraction bits `frac`, and it has three sides, along x, y and z
pub record StateView : Type 0 where
  pub title : List ℕ
  pub step : ℤ
  pub frac : Frac
  pub sides : List ℕ
  pub atoms : List AtomView

-- ---- the lines of a state, without their LFs

-- the version of the text; a state with 32 fraction bits has no line for them, which is the first version
abbrev pub version_of : Frac → Version
version_of F24 = Second
version_of F32 = First
version_of F40 = Second

-- the first line
abbrev pub head_line : Version → List ℕ
head_line First = codes "pairmd state 1"
head_line Second = codes "pairmd state 2"

-- the line of the title
abbrev pub title_line : List ℕ → List ℕ
title_line title = codes "title " ++ title

-- the line of the step counter
abbrev pub step_line : ℤ → List ℕ
step_line step = codes "step " ++ signed_decimal step

-- the line of the fraction bits
abbrev pub bits_line : Frac → List ℕ
bits_line frac = codes "bits" ++ word (bits_of frac)

-- the line of the number of atoms
abbrev pub count_line : ℕ → List ℕ
count_line count = codes "atoms" ++ word count

-- the line of the sides, in 10^-5 nm
abbrev pub box_line : List ℕ → List ℕ
box_line sides = codes "box" ++ flat_map word sides

-- the three grid coordinates on an atom line
abbrev pub numbers_of : Place3 → List ℕ
numbers_of p = p.x ∷ p.y ∷ p.z ∷ []

-- residue number, residue name and atom name in the columns of a GRO file (GROMACS manual, GRO file format)
abbrev pub columns_of : AtomView → List ℕ
columns_of a = right_in 5 (signed_decimal a.residue_number) ++ left_in 5 a.residue ++ right_in 5 a.name

-- an atom line: its columns, then the previous and the current grid coordinates
abbrev pub atom_line : AtomView → List ℕ
atom_line a = columns_of a ++ flat_map word (numbers_of a.previous) ++ flat_map word (numbers_of a.current)

-- the lines of these atoms
abbrev pub atom_lines : List AtomView → List ℕ
atom_lines atoms = flat_map (λ a. ended (atom_line a)) atoms

-- ---- the text

-- the line of the fraction bits with its LF, in the second version only
abbrev pub bits_in : Version → Frac → List ℕ
bits_in First frac = []
bits_in Second frac = ended (bits_line frac)

-- the text of a state
unfoldable pub state_text : StateView → List ℕ
state_text s =
    ended (head_line (version_of s.frac))
    ++ ended (title_line s.title)
    ++ ended (step_line s.step)
    ++ bits_in (version_of s.frac) s.frac
    ++ ended (count_line (length s.atoms))
    ++ ended (box_line s.sides)
    ++ atom_lines s.atoms

-- ---- the values that have a text

-- a side in 10^-5 nm
abbrev pub IsSide : ℕ → Type 0
IsSide x = (0 < x) × (x ≤ 16000000)

-- an atom within the ranges of the text
pub record IsAtom (a : AtomView) : Type 0 where
  pub low : negsuc 9998 ≤ℤ a.residue_number
  pub high : a.residue_number ≤ℤ pos 99999
  pub residue : IsTrue (is_name a.residue)
  pub name : IsTrue (is_name a.name)
  pub previous : ArePlaces a.previous
  pub current : ArePlaces a.current

-- a state within the ranges of the text
pub record IsState (s : StateView) : Type 0 where
  pub title : IsTrue (is_title s.title)
  pub step : mag s.step < 2 ^ 63
  pub sides : AreThree IsSide s.sides
  pub count : length s.atoms ≤ 65536
  pub atoms : AllByRecursion IsAtom s.atoms
