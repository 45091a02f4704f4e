-- Numbers with a fixed number of decimals, in C's format %8.3f (GROMACS manual, gro file format). A number is an
-- integer in units of its last decimal.
use Rattle.std.specs.Prelude.{ℕ, suc, ◌+◌, ◌-◌, ◌*◌, ◌/◌, ◌%◌, ◌^◌, List, ◌∷◌, ◌++◌, length, take, drop, replicate, Option, Some, None, ℤ, pos, negsuc, neg_ℤ, int_le, Bool, ◌&&◌, nat_lt, ◌==◌, slice_index, decimal, if◌then◌else◌, option_map}
use Rattle.std.specs.Str.{all_ascii_digits}
use Rattle.std.specs.Str.Parse.{digits_value}
use Rattle.line_text.specs.Parts.{◌>>=◌, without_spaces}

-- the integer that these digits denote, leading zeros allowed; no digits denote 0
unfoldable pub digits_of : List ℕ → Option ℕ
digits_of text = if all_ascii_digits text then Some (digits_value 10 text) else None

-- the number that one or more digits, a point and `decimals` digits denote, in units of the last digit
unfoldable pub decimals_of : ℕ → List ℕ → Option ℕ
decimals_of decimals text = if nat_lt (length text) (decimals + 2) then None else (
    if slice_index text (length text - (decimals + 1)) == 46 then (
    digits_of (take (length text - (decimals + 1)) text) >>= λ whole.
    digits_of (drop (length text - decimals) text) >>= λ part.
    Some (whole * 10 ^ decimals + part)) else None)

-- the number that `read` finds, negated if the text starts with a minus
abbrev pub signed_by : (List ℕ → Option ℕ) → List ℕ → Option ℤ
signed_by read text = if slice_index text 0 == 45 then option_map (λ n. neg_ℤ (pos n)) (read (drop 1 text)) else option_map pos (read text)

-- the number in a column: any spaces, an optional minus, and decimals
unfoldable pub decimal_column_of : ℕ → List ℕ → Option ℤ
decimal_column_of decimals column = signed_by (decimals_of decimals) (without_spaces column)

-- whether z is a residue number, which fits a column of five bytes: -9999 to 99999
abbrev pub is_residue_number : ℤ → Bool
is_residue_number z = int_le (negsuc 9998) z && int_le z (pos 99999)

-- ---- writing

-- the text at the right of a column of this width, filled with zeros
abbrev pub zeros_in : ℕ → List ℕ → List ℕ
zeros_in width text = replicate (width - length text) 48 ++ text

-- n in units of its last decimal, as text: the integer part, a point and `decimals` digits
abbrev pub with_decimals : ℕ → ℕ → List ℕ
with_decimals decimals n = decimal (n / 10 ^ decimals) ++ 46 ∷ zeros_in decimals (decimal (n % 10 ^ decimals))

-- z in units of its last decimal, as text, with a minus if it is below 0
abbrev pub decimals_text : ℕ → ℤ → List ℕ
decimals_text decimals (pos n) = with_decimals decimals n
decimals_text decimals (negsuc n) = 45 ∷ with_decimals decimals (suc n)
