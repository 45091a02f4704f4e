-- Reading the parts of a line of a GRO file. Each definition gives the value read, or None.
use Rattle.std.specs.Prelude.{◌≡◌, ℕ, ◌+◌, ◌-◌, ◌*◌, ◌^◌, Bool, false, ◌||◌, ◌==◌, ◌⊎◌, ◌<◌, ◌≤◌, nat_lt, slice_index_or, List, [], ◌∷◌, length, drop, Option, Some, None, Result, Ok, Err, if◌then◌else◌, ℤ, pos, negsuc}
use Rattle.std.specs.List.{slice_range}
use Rattle.line_text.specs.Parts.{◌>>=◌ as ◌|>◌, split_once, name_of, trimmed}
use Rattle.line_text.specs.Columns.{digits_of, signed_by, decimal_column_of, is_residue_number}
use Rattle.gro.specs.Frames.{AtomView}
use Rattle.gro.specs.GroText.{are_spaces}
use Rattle.gro.specs.declared.faults.GroFault.{GroFault}
use Rattle.gro.specs.declared.faults.GroFault.TheVariants.{NoSuchFrame}

-- ---- the number of atoms

-- the number that one or more digits denote
abbrev pub whole_of : List ℕ → Option ℕ
whole_of text = if length text == 0 then None else digits_of text

-- ---- an atom

-- the distance of the first two points at or after column 20; None if there are fewer than two
unfoldable pub points_of : List ℕ → Option ℕ
points_of text = if nat_lt (length text) 20 then None else (
    split_once 46 (drop 20 text) |> λ first.
    split_once 46 first.1 |> λ second.
    Some (length second.0 + 1))

-- the residue number in a column
unfoldable pub residue_number_of : List ℕ → Option ℤ
residue_number_of column = signed_by whole_of (trimmed column) |> λ z. if is_residue_number z then Some z else None

-- three numbers with `decimals` decimals, in columns of eight bytes
unfoldable pub three_columns_of : ℕ → List ℕ → Option (List ℤ)
three_columns_of decimals text =
    decimal_column_of decimals (slice_range text 0 8) |> λ x.
    decimal_column_of decimals (slice_range text 8 16) |> λ y.
    decimal_column_of decimals (slice_range text 16 24) |> λ z.
    Some (x ∷ y ∷ z ∷ [])

-- the velocity after the position's columns, zero if there are only spaces
unfoldable pub velocity_of : List ℕ → Option (List ℤ)
velocity_of tail =
    if are_spaces tail then Some (pos 0 ∷ pos 0 ∷ pos 0 ∷ [])
    else if nat_lt (length tail) 24 then None
    else if are_spaces (drop 24 tail) then three_columns_of 4 tail
    else None

-- the atom on a line, without the tests of its bytes and points
unfoldable pub fields_of : List ℕ → Option AtomView
fields_of text = if nat_lt (length text) 44 then None else (
    residue_number_of (slice_range text 0 5) |> λ number.
    name_of (trimmed (slice_range text 5 10)) |> λ residue.
    name_of (trimmed (slice_range text 10 15)) |> λ name.
    three_columns_of 3 (slice_range text 20 44) |> λ at.
    velocity_of (drop 44 text) |> λ velocity.
    Some (record { number = number; residue = residue; name = name; at = at; velocity = velocity }))

-- ---- the box

-- the number that 1 to `most` digits denote
unfoldable pub few_digits_of : ℕ → List ℕ → Option ℕ
few_digits_of most text = if length text == 0 || nat_lt most (length text) then None else digits_of text

-- a length in 10^-5 nm, from its parts before and after a point
abbrev pub length_parts : List ℕ → Option (List ℕ × List ℕ) → Option ℕ
length_parts text None = few_digits_of 12 text |> λ n. Some (n * 10 ^ 5)
length_parts text (Some p) =
    few_digits_of 12 p.0 |> λ n.
    few_digits_of 5 p.1 |> λ part.
    Some (n * 10 ^ 5 + part * 10 ^ (5 - length p.1))

-- an unsigned length in 10^-5 nm
unfoldable pub length_of : List ℕ → Option ℕ
length_of text = length_parts text (split_once 46 text)

-- a length in 10^-5 nm, possibly with a minus
unfoldable pub value_of : List ℕ → Option ℤ
value_of word = signed_by length_of word

-- the values of all words; None if a word isn't a value
unfoldable pub values_of : List (List ℕ) → Option (List ℤ)
values_of [] = Some []
values_of (word ∷ ws) =
    value_of word |> λ v.
    values_of ws |> λ vs.
    Some (v ∷ vs)

-- whether a value is 0
abbrev pub is_zero : ℤ → Bool
is_zero (pos n) = n == 0
is_zero (negsuc n) = false

-- ---- one of the frames

-- the frame with this number, counted from 1, or NoSuchFrame
abbrev pub Picks : {R F : Type 0} → List F → ℕ → (R → F) → Result R GroFault → Type 0
Picks frames number now (Ok r) = (0 < number) × (number ≤ length frames) × (now r ≡ slice_index_or frames (number - 1) (now r))
Picks frames number now (Err fault) = (fault ≡ NoSuchFrame) × ((number ≡ 0) ⊎ (length frames < number))
