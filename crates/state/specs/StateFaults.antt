-- The fault of a text that isn't a state, defined from the lines of states' texts, and what reading any text gives: its
-- state or its fault.
use Rattle.std.specs.Prelude.{◌≡◌, ◌≢◌, ◌⊎◌, ◌<◌, ◌≤◌, ◌+◌, ◌^◌, ℕ, zero, suc, List, [], ◌∷◌, ◌++◌, length, true, ℤ, IsTrue, Result, Ok, Err}
use Rattle.std.specs.List.{AllByRecursion}
use Rattle.fixed.specs.declared.frac.Frac.{Frac}
use Rattle.fixed.specs.declared.frac.Frac.TheVariants.{F32}
use Rattle.line_text.specs.Parts.{AreThree, ended, is_title, lacks}
use Rattle.state.specs.StateText.{AtomView, IsAtom, IsSide, IsState, StateView, atom_line, atom_lines, bits_line, box_line, count_line, head_line, state_text, step_line, title_line, version_of}
use Rattle.state.specs.declared.faults.StateFault.{StateFault}
use Rattle.state.specs.declared.faults.StateFault.TheVariants.{BadLine, Truncated, Trailing}
use Rattle.state.specs.declared.versions.Version.{Version}
use Rattle.state.specs.declared.versions.Version.TheVariants.{First, Second}
use lib.Signed.{mag}

-- ---- the lines of a text, from the top

-- The format of a text: it is at its end, and represents this state; or its next line is that of a value that fits, and
-- the value determines the format of the lines after it.
pub data Format : Type 1 where
  at_end : StateView → Format
  at_line : (X : Type 0) → (X → List ℕ) → (X → Type 0) → (X → Format) → Format

-- this number of atom lines
abbrev pub atoms_format : ℕ → (List AtomView → Format) → Format
atoms_format zero next = next []
atoms_format (suc k) next = at_line AtomView atom_line IsAtom (λ a. atoms_format k (λ atoms. next (a ∷ atoms)))

-- from the number of atoms on
abbrev pub count_format : List ℕ → ℤ → Frac → Format
count_format title step frac =
    at_line ℕ count_line (λ count. count ≤ 65536) λ count. at_line (List ℕ) box_line (AreThree IsSide) λ sides. atoms_format count λ atoms.
    at_end (record { title = title; step = step; frac = frac; sides = sides; atoms = atoms })

-- the fraction bits, which have a line only in the second version
abbrev pub bits_format : Version → (Frac → Format) → Format
bits_format First next = next F32
bits_format Second next = at_line Frac bits_line (λ frac. version_of frac ≡ Second) next

-- from the title on
abbrev pub title_format : Version → Format
title_format version =
    at_line (List ℕ) title_line (λ title. IsTrue (is_title title)) λ title. at_line ℤ step_line (λ step. mag step < 2 ^ 63) λ step.
    bits_format version (count_format title step)

-- the text of a state
abbrev pub state_format : Format
state_format = at_line Version head_line (λ version. Unit {0}) title_format

-- ---- faults

-- the next line, number n, has no LF, or it isn't the line of a value that fits
pub data IsLineFault {X : Type 0} (line_of : X → List ℕ) (Fits : X → Type 0) (n : ℕ) (bytes : List ℕ) (f : StateFault) : Type 0 where
  no_end : lacks 10 bytes ≡ true → f ≡ Truncated → IsLineFault line_of Fits n bytes f
  no_value : (text rest : List ℕ) → bytes ≡ ended text ++ rest → lacks 10 text ≡ true → ((x : X) → Fits x → text ≢ line_of x)
      → f ≡ BadLine n → IsLineFault line_of Fits n bytes f

-- f is the fault of bytes from line n on: that of the first faulty line, or bytes follow the last line
unfoldable pub HasFault : Format → ℕ → List ℕ → StateFault → Type 0
HasFault (at_end s) n bytes f = (bytes ≢ []) × (f ≡ Trailing)
HasFault (at_line X line_of Fits next) n bytes f =
    IsLineFault line_of Fits n bytes f
    ⊎ ((x : X) × (rest : List ℕ) × Fits x × (bytes ≡ ended (line_of x) ++ rest) × HasFault (next x) (n + 1) rest f)

-- The bytes start with the lines of some atoms, fewer than k, the first on line n; then the line with the fault follows.
abbrev pub HasBadAtom : (n k : ℕ) → List ℕ → StateFault → Type 0
HasBadAtom n k bytes f = (atoms : List AtomView) × (rest : List ℕ) × AllByRecursion IsAtom atoms × (bytes ≡ atom_lines atoms ++ rest)
    × (length atoms < k) × IsLineFault atom_line IsAtom (n + length atoms) rest f

-- the bytes are the text of a state with this title, step counter and fraction bits, from its number of atoms on
pub record IsCounted (title : List ℕ) (step : ℤ) (frac : Frac) (bytes : List ℕ) (s : StateView) : Type 0 where
  pub title' : s.title ≡ title
  pub step' : s.step ≡ step
  pub frac' : s.frac ≡ frac
  pub text : bytes ≡ ended (count_line (length s.atoms)) ++ (ended (box_line s.sides) ++ atom_lines s.atoms)

-- ---- what reading gives

-- reading the text gives the state whose text it is, or its fault
abbrev pub ReadsAs : List ℕ → Result StateView StateFault → Type 0
ReadsAs bytes (Ok s) = IsState s × (bytes ≡ state_text s)
ReadsAs bytes (Err f) = HasFault state_format 1 bytes f

-- reading a text gives one result
abbrev pub ReadsOnce : Type 0
ReadsOnce = (bytes : List ℕ) (r s : Result StateView StateFault) → ReadsAs bytes r → ReadsAs bytes s → r ≡ s

-- each text has a result
abbrev pub ReadsAlways : Type 0
ReadsAlways = (bytes : List ℕ) → (r : Result StateView StateFault) × ReadsAs bytes r
