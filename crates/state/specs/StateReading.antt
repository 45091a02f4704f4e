-- Reading the lines of a state.
use Rattle.std.specs.Prelude.{ℕ, ◌-◌, ◌^◌, ◌&&◌, List, length, take, drop, codes, Option, Some, None, Result, Ok, nat_lt, ◌==◌, slice_index, bytes_eq, if◌then◌else◌, ℤ}
use Rattle.std.specs.List.{list_all}
use Rattle.fixed.specs.declared.frac.Frac.{Frac}
use Rattle.fixed.specs.declared.frac.Frac.TheVariants.{F24, F32, F40}
use Rattle.line_text.specs.Parts.{◌>>=◌ as ◌|>◌, split_once, after, natural_of, integer_of, three_at, name_of, without_spaces, without_end_spaces}
use Rattle.line_text.specs.Columns.{is_residue_number}
use Rattle.line_text.specs.Steps.{◌>>=◌, said}
use Rattle.ring_box.specs.declared.vectors.Place3.{Place3}
use Rattle.state.specs.StateText.{AtomView, head_line, atom_line}
use Rattle.state.specs.declared.versions.Version.{Version}
use Rattle.state.specs.declared.versions.Version.TheVariants.{First, Second}
use Rattle.state.specs.declared.faults.StateFault.{StateFault}
use Rattle.state.specs.declared.faults.StateFault.TheVariants.{BadLine, Truncated}

-- ---- the value of each line, without its LF; None if it isn't the line of a value within its range

-- the version in the first line
abbrev pub head_of : List ℕ → Option Version
head_of line = if bytes_eq line (head_line First) then Some First else if bytes_eq line (head_line Second) then Some Second else None

-- the title in a title line; it must not end in CR (13)
unfoldable pub title_of : List ℕ → Option (List ℕ)
title_of line = after (codes "title ") line |> λ t. if slice_index t (length t - 1) == 13 then None else Some t

-- the step counter in a step line
unfoldable pub step_of : List ℕ → Option ℤ
step_of line = after (codes "step ") line |> integer_of

-- the fraction bits in a `bits` line; the line never has 32, as then it is left out
abbrev pub named_frac : ℕ → Option Frac
named_frac bits = if bits == 24 then Some F24 else if bits == 40 then Some F40 else None

-- the fraction bits in a `bits` line
unfoldable pub frac_of : List ℕ → Option Frac
frac_of line = after (codes "bits ") line |> natural_of 41 |> named_frac

-- the number of atoms in its line, at most 65,536
unfoldable pub count_of : List ℕ → Option ℕ
count_of line = after (codes "atoms ") line |> natural_of 65537

-- the sides in a box line, 1 to 16,000,000
unfoldable pub sides_of : List ℕ → Option (List ℕ)
sides_of line =
    after (codes "box") line |> λ rest.
    three_at 16000001 rest |> λ w.
    if length w.1 == 0 && list_all (λ x. nat_lt 0 x) w.0 then Some w.0 else None

-- grid coordinates from a list of three numbers
abbrev pub place_of : List ℕ → Place3
place_of numbers = record { x = slice_index numbers 0; y = slice_index numbers 1; z = slice_index numbers 2 }

-- the grid coordinates in three words, and the rest of the text
unfoldable pub place_in : List ℕ → Option (Place3 × List ℕ)
place_in text = three_at (2 ^ 32) text |> λ w. Some (place_of w.0, w.1)

-- The atom in an atom line, read by columns and words. The line must equal the atom's line, so each atom has only one.
unfoldable pub atom_of : List ℕ → Option AtomView
atom_of line =
    if nat_lt (length line) 15 then None else (
    integer_of (without_spaces (take 5 line)) |> λ number.
    name_of (without_end_spaces (take 5 (drop 5 line))) |> λ residue.
    name_of (without_spaces (take 5 (drop 5 (drop 5 line)))) |> λ name.
    place_in (drop 5 (drop 5 (drop 5 line))) |> λ previous.
    place_in previous.1 |> λ current.
    if is_residue_number number && bytes_eq line (atom_line (record {
      residue_number = number;
      residue = residue;
      name = name;
      previous = previous.0;
      current = current.0;
    }))
    then Some (record { residue_number = number; residue = residue; name = name; previous = previous.0; current = current.0 }) else None)

-- ---- lines one after another

-- the next line, which must have an LF, and the bytes after it
abbrev pub line_at : List ℕ → Result (List ℕ × List ℕ) StateFault
line_at bytes = said Truncated (split_once 10 bytes)

-- the value of the next line, number n, and the bytes after it
abbrev pub field_at : {X : Type 0} → ℕ → (List ℕ → Option X) → List ℕ → Result (X × List ℕ) StateFault
field_at n read bytes = do
  line ← line_at bytes
  x ← said (BadLine n) (read line.0)
  Ok (x, line.1)

-- the fraction bits: 32 in the first version, which has no line for them; from the fourth line in the second version
abbrev pub frac_at : Version → List ℕ → Result (Frac × List ℕ) StateFault
frac_at First bytes = Ok (F32, bytes)
frac_at Second bytes = field_at 4 frac_of bytes

-- the number of the line with the number of atoms
abbrev pub count_number : Version → ℕ
count_number First = 4
count_number Second = 5
