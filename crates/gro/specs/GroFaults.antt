-- The fault of a text that isn't a GRO file, defined from its lines and their contents, and what reading any text gives:
-- its frames or its fault.
use Rattle.std.specs.Prelude.{◌≡◌, ◌≢◌, ◌⊎◌, ◌<◌, ◌≤◌, ◌+◌, ℕ, Bool, false, true, not, List, [], ◌∷◌, ◌++◌, length, drop, replicate, ℤ, pos, IsTrue, Result, Ok, Err}
use Rattle.line_text.specs.Parts.{is_printable, lacks}
use Rattle.line_text.specs.Words.{words}
use Rattle.line_text.specs.Written.{IsPadded, WritesWhole}
use Rattle.gro.specs.Frames.{AtomView, FrameView}
use Rattle.gro.specs.GroText.{AreAtoms, AreValues, IsAtomLine, IsCount, IsFrame, IsGroText, IsLine, is_all_blank}
use Rattle.gro.specs.declared.faults.GroFault.{GroFault}
use Rattle.gro.specs.declared.faults.GroFault.TheVariants.{Truncated, BadCount, BadColumns, Precision, BadBox, Triclinic, TooManyAtoms}

-- ---- faults of one line, number n, with text `text`; `ended` is whether the line has its line feed

-- whether the first line has its line feed; only the last line may lack it
abbrev pub is_ended : List ℕ → Bool
is_ended bytes = not (lacks 10 bytes)

-- a required line: it is missing (Truncated), or it has a fault
abbrev pub IsNeeded : (Bool → List ℕ → GroFault → Type 0) → List ℕ → GroFault → Type 0
IsNeeded IsWrong bytes f =
    ((bytes ≡ []) × (f ≡ Truncated)) ⊎ ((text : List ℕ) × (rest : List ℕ) × IsLine bytes text rest × IsWrong (is_ended bytes) text f)

-- the line isn't a number of atoms, or the number is above 65,536
abbrev pub IsCountFault : ℕ → List ℕ → GroFault → Type 0
IsCountFault n text (BadCount m) = (m ≡ n) × ((digits : List ℕ) (count : ℕ) → IsPadded text digits → WritesWhole digits count → ⊥)
IsCountFault n text (TooManyAtoms m) =
    (m ≡ n) × ((digits : List ℕ) × (count : ℕ) × IsPadded text digits × WritesWhole digits count × (65536 < count))
IsCountFault n text _ = ⊥

-- `distance` is the distance of the first two points at or after column 20
pub record HasPoints (text : List ℕ) (distance : ℕ) : Type 0 where
  pub before : List ℕ
  pub between : List ℕ
  pub behind : List ℕ
  pub long : 20 ≤ length text
  pub points : drop 20 text ≡ before ++ 46 ∷ (between ++ 46 ∷ behind)
  pub first : lacks 46 before ≡ true
  pub second : lacks 46 between ≡ true
  pub apart : distance ≡ length between + 1

-- all bytes are printable, but the positions don't have three decimals, as their points aren't eight columns apart
abbrev pub HasOtherPrecision : List ℕ → Type 0
HasOtherPrecision text = IsTrue (is_printable text) × ((distance : ℕ) × HasPoints text distance × (distance ≢ 8))

-- The faults of an atom line, in this order: an unfinished line is too short; the positions don't have three decimals;
-- the line isn't an atom line for another reason.
abbrev pub IsAtomFault : ℕ → (ended : Bool) → List ℕ → GroFault → Type 0
IsAtomFault n ended text Truncated = (ended ≡ false) × (length text < 44)
IsAtomFault n ended text (Precision m) = (m ≡ n) × (ended ≡ false → 44 ≤ length text) × HasOtherPrecision text
IsAtomFault n ended text (BadColumns m) =
    (m ≡ n) × (ended ≡ false → 44 ≤ length text) × (HasOtherPrecision text → ⊥) × ((a : AtomView) → IsAtomLine text a → ⊥)
IsAtomFault n ended text _ = ⊥

-- the words of a line are three to nine values
abbrev pub HasValues : List ℕ → List ℤ → Type 0
HasValues text values = AreValues (words text) values × (3 ≤ length values) × (length values ≤ 9)

-- The faults of a box line, in this order: an unfinished line has fewer than three words; the line isn't three to nine
-- values; a value after the third isn't zero.
abbrev pub IsBoxFault : ℕ → (ended : Bool) → List ℕ → GroFault → Type 0
IsBoxFault n ended text Truncated = (ended ≡ false) × (length (words text) < 3)
IsBoxFault n ended text (BadBox m) =
    (m ≡ n) × (ended ≡ false → 3 ≤ length (words text)) × ((values : List ℤ) → HasValues text values → ⊥)
IsBoxFault n ended text (Triclinic m) =
    (m ≡ n) × ((values : List ℤ) × HasValues text values × ((zeros : ℕ) → drop 3 values ≡ replicate zeros (pos 0) → ⊥))
IsBoxFault n ended text _ = ⊥

-- ---- the line with the fault

-- The bytes start with the lines of some atoms, fewer than k, the first on line n; then the line with the fault follows.
abbrev pub HasBadAtom : (n k : ℕ) → List ℕ → GroFault → Type 0
HasBadAtom n k bytes f =
    (atoms : List AtomView) × (rest : List ℕ) × AreAtoms bytes atoms rest × (length atoms < k)
    × IsNeeded (IsAtomFault (n + length atoms)) rest f

-- The bytes start with a title, a number of atoms `count`, and the lines of some atoms; then the rest follows.
pub record HasAtoms (bytes title : List ℕ) (count : ℕ) (atoms : List AtomView) (rest : List ℕ) : Type 0 where
  pub count_text : List ℕ
  pub after_title : List ℕ
  pub after_count : List ℕ
  pub title_line : IsLine bytes title after_title
  pub count_line : IsLine after_title count_text after_count
  pub counted : IsCount count_text count
  pub atoms' : AreAtoms after_count atoms rest

-- f is the fault of the first faulty line of a frame whose title is on line n
pub data IsFrameFault (n : ℕ) (bytes : List ℕ) (f : GroFault) : Type 0 where
  no_title : bytes ≡ [] → f ≡ Truncated → IsFrameFault n bytes f
  bad_count : (text rest : List ℕ) → IsLine bytes text rest → IsNeeded (λ ended. IsCountFault (n + 1)) rest f → IsFrameFault n bytes f
  bad_atom : (title : List ℕ) (count : ℕ) (atoms : List AtomView) (rest : List ℕ) → HasAtoms bytes title count atoms rest
      → length atoms < count → IsNeeded (IsAtomFault (n + 2 + length atoms)) rest f → IsFrameFault n bytes f
  bad_box : (title : List ℕ) (count : ℕ) (atoms : List AtomView) (rest : List ℕ) → HasAtoms bytes title count atoms rest
      → length atoms ≡ count → IsNeeded (IsBoxFault (n + 2 + count)) rest f → IsFrameFault n bytes f

-- these frames follow one another from line n on, and then a rest that isn't all blank, from line m on
abbrev pub AreFrames : ℕ → List ℕ → List FrameView → ℕ → List ℕ → Type 0
AreFrames n bytes [] m rest = (m ≡ n) × (rest ≡ bytes)
AreFrames n bytes (f ∷ frames) m rest =
    (after : List ℕ) × IsFrame bytes f after × (is_all_blank after ≡ false) × AreFrames (n + length f.atoms + 3) after frames m rest

-- the text is a sequence of whole frames, then a frame with a faulty line
pub record IsTextFault (bytes : List ℕ) (f : GroFault) : Type 0 where
  pub frames : List FrameView
  pub line : ℕ
  pub rest : List ℕ
  pub before : AreFrames 1 bytes frames line rest
  pub fault : IsFrameFault line rest f

-- ---- what reading gives

-- reading the text gives the frames that it represents, or its fault
abbrev pub ReadsAs : List ℕ → Result (List FrameView) GroFault → Type 0
ReadsAs bytes (Ok frames) = IsGroText bytes frames
ReadsAs bytes (Err f) = IsTextFault bytes f

-- reading a text gives one result
abbrev pub ReadsOnce : Type 0
ReadsOnce = (bytes : List ℕ) (r s : Result (List FrameView) GroFault) → ReadsAs bytes r → ReadsAs bytes s → r ≡ s

-- each text has a result
abbrev pub ReadsAlways : Type 0
ReadsAlways = (bytes : List ℕ) → (r : Result (List FrameView) GroFault) × ReadsAs bytes r
