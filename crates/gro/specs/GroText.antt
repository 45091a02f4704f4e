-- Texts of GRO files, as a relation between a text and the frames that it represents (GROMACS manual, gro file format).
use Rattle.std.specs.Prelude.{◌≡◌, ℕ, ◌+◌, ◌*◌, ◌^◌, ◌-◌, ◌<◌, ◌≤◌, ◌⊎◌, Bool, ◌||◌, ◌==◌, List, [], ◌∷◌, ◌++◌, length, drop, replicate, ℤ, pos, negsuc, ◌≤ℤ◌, IsTrue}
use Rattle.std.specs.List.{list_all, slice_range}
use Rattle.line_text.specs.Parts.{is_title, is_printable}
use Rattle.line_text.specs.Words.{words}
use Rattle.line_text.specs.Written.{IsPadded, WritesName, WritesWhole, WritesSigned, WritesColumn}
use Rattle.gro.specs.Frames.{AtomView, FrameView}

-- ---- lines

-- The bytes start with a line of this text, and the rest follows. Carriage returns at the end of a line aren't part of
-- its text. The last line may lack its line feed.
pub record IsLine (bytes text rest : List ℕ) : Type 0 where
  pub returns : ℕ
  pub bare : IsTrue (is_title text)
  pub whole : (bytes ≡ text ++ (replicate returns 13 ++ 10 ∷ rest))
      ⊎ ((bytes ≡ text ++ replicate returns 13) × (0 < length bytes) × (rest ≡ []))

-- ---- the number of atoms

-- the line is a number of atoms, at most 65,536, possibly between spaces
pub record IsCount (text : List ℕ) (count : ℕ) : Type 0 where
  pub digits : List ℕ
  pub padded : IsPadded text digits
  pub number : WritesWhole digits count
  pub few : count ≤ 65536

-- ---- an atom

-- the column is the number of a residue, between -9999 and 99999; files wrap it at 100,000
pub record IsResidueNumber (column : List ℕ) (z : ℤ) : Type 0 where
  pub text : List ℕ
  pub padded : IsPadded column text
  pub number : WritesSigned WritesWhole text z
  pub low : negsuc 9998 ≤ℤ z
  pub high : z ≤ℤ pos 99999

-- three numbers with `decimals` decimals, in columns of eight bytes
abbrev pub AreColumns : ℕ → List ℕ → List ℤ → Type 0
AreColumns decimals text (x ∷ y ∷ z ∷ []) =
    WritesColumn decimals (slice_range text 0 8) x × WritesColumn decimals (slice_range text 8 16) y
    × WritesColumn decimals (slice_range text 16 24) z
AreColumns decimals text _ = ⊥

-- whether all bytes are spaces
abbrev pub are_spaces : List ℕ → Bool
are_spaces text = list_all (λ b. b == 32) text

-- The end of an atom line: only spaces, for a velocity of zero, or a velocity and then only spaces.
pub data IsVelocity (tail : List ℕ) (v : List ℤ) : Type 0 where
  absent : IsTrue (are_spaces tail) → v ≡ pos 0 ∷ pos 0 ∷ pos 0 ∷ [] → IsVelocity tail v
  given : 24 ≤ length tail → AreColumns 4 tail v → IsTrue (are_spaces (drop 24 tail)) → IsVelocity tail v

-- An atom line. Its columns are: residue number, residue name, atom name and atom index, of 5 bytes each; position of
-- 24 bytes; velocity. The index isn't read.
pub record IsAtomLine (text : List ℕ) (a : AtomView) : Type 0 where
  pub printable : IsTrue (is_printable text)
  pub long : 44 ≤ length text
  pub number : IsResidueNumber (slice_range text 0 5) a.number
  pub residue : WritesName (slice_range text 5 10) a.residue
  pub name : WritesName (slice_range text 10 15) a.name
  pub at : AreColumns 3 (slice_range text 20 44) a.at
  pub velocity : IsVelocity (drop 44 text) a.velocity

-- ---- the box

-- the text is 1 to `most` digits with value n
pub record WritesFew (most : ℕ) (text : List ℕ) (n : ℕ) : Type 0 where
  pub number : WritesWhole text n
  pub few : length text ≤ most

-- the text is a length in 10^-5 nm: 1 to 12 digits, possibly a point and then 1 to 5 digits
pub data WritesLength (text : List ℕ) (n : ℕ) : Type 0 where
  whole : (nanometres : ℕ) → WritesFew 12 text nanometres → nanometres * 10 ^ 5 ≡ n → WritesLength text n
  pointed : (front part : List ℕ) (nanometres rest : ℕ) → text ≡ front ++ 46 ∷ part → WritesFew 12 front nanometres → WritesFew 5 part rest
      → nanometres * 10 ^ 5 + rest * 10 ^ (5 - length part) ≡ n → WritesLength text n

-- each word is a length with its value, possibly with a minus
abbrev pub AreValues : List (List ℕ) → List ℤ → Type 0
AreValues [] [] = Unit {0}
AreValues (w ∷ ws) (v ∷ vs) = WritesSigned WritesLength w v × AreValues ws vs
AreValues _ _ = ⊥

-- The line is a rectangular box: 3 to 9 values, of which the first three are the sides, and the others, which would
-- tilt the box, are zero.
pub record IsBox (text : List ℕ) (sides : List ℤ) : Type 0 where
  pub zeros : ℕ
  pub few : zeros ≤ 6
  pub three : length sides ≡ 3
  pub values : AreValues (words text) (sides ++ replicate zeros (pos 0))

-- ---- frames

-- the bytes are the lines of these atoms, and then the rest
abbrev pub AreAtoms : List ℕ → List AtomView → List ℕ → Type 0
AreAtoms bytes [] rest = bytes ≡ rest
AreAtoms bytes (a ∷ atoms) rest =
    (text : List ℕ) × (after : List ℕ) × IsLine bytes text after × IsAtomLine text a × AreAtoms after atoms rest

-- the bytes are a frame (title, number of atoms, atoms, box), and then the rest
pub record IsFrame (bytes : List ℕ) (f : FrameView) (rest : List ℕ) : Type 0 where
  pub count : List ℕ
  pub box_text : List ℕ
  pub after_title : List ℕ
  pub after_count : List ℕ
  pub after_atoms : List ℕ
  pub title_line : IsLine bytes f.title after_title
  pub count_line : IsLine after_title count after_count
  pub counted : IsCount count (length f.atoms)
  pub atoms : AreAtoms after_count f.atoms after_atoms
  pub box_line : IsLine after_atoms box_text rest
  pub sides : IsBox box_text f.sides

-- whether there are only spaces, carriage returns and line feeds
abbrev pub is_all_blank : List ℕ → Bool
is_all_blank bytes = list_all (λ b. b == 32 || b == 13 || b == 10) bytes

-- the text represents these frames: one frame or more, and then only blanks
abbrev pub IsGroText : List ℕ → List FrameView → Type 0
IsGroText bytes [] = ⊥
IsGroText bytes (f ∷ []) = (rest : List ℕ) × IsFrame bytes f rest × IsTrue (is_all_blank rest)
IsGroText bytes (f ∷ g ∷ frames) = (rest : List ℕ) × IsFrame bytes f rest × IsGroText rest (g ∷ frames)
