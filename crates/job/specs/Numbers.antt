-- Numbers of a job. A reading is a number, or BadNumber if the word is malformed, or NumberRange if the number is out
-- of range.
use Rattle.std.specs.Prelude.{◌≡◌, ℕ, ℤ, pos, Bool, ◌&&◌, ◌==◌, nat_le, nat_lt, int_le, ◌+◌, ◌-◌, ◌*◌, ◌^◌, List, [], ◌∷◌, length, Option, Some, None, Result, Ok, Err, if◌then◌else◌}
use Rattle.std.specs.Str.{all_ascii_digits}
use Rattle.std.specs.Str.Parse.{digits_value}
use Rattle.fixed.specs.Constants.{negated}
use Rattle.fixed.specs.declared.constants.Constant.{Constant}
use Rattle.fixed.specs.declared.frac.Frac.{Frac}
use Rattle.fixed.specs.declared.frac.Frac.TheVariants.{F24, F32, F40}
use Rattle.fixed.specs.Fractions.{bits_of}
use Rattle.fixed.specs.NumeralParts.{reading_of, constant_reading}
use Rattle.fixed.specs.declared.faults.NumFault.{NumFault}
use Rattle.fixed.specs.declared.faults.NumFault.TheVariants.{BadNumber, NumberRange}
use Rattle.line_text.specs.Parts.{split_once}
use Rattle.line_text.specs.Steps.{◌>>=◌}

-- the result of reading a number
abbrev pub Reading : Type 0 → Type 0
Reading X = Result X NumFault

-- the reading with its value translated
abbrev pub mapped : {X Y : Type 0} → (X → Y) → Reading X → Reading Y
mapped f (Ok x) = Ok (f x)
mapped f (Err e) = Err e

-- both numbers; BadNumber of either comes before NumberRange of either
abbrev pub both : {X Y : Type 0} → Reading X → Reading Y → Reading (X × Y)
both (Err BadNumber) y = Err BadNumber
both (Err NumberRange) (Err BadNumber) = Err BadNumber
both (Err NumberRange) (Err NumberRange) = Err NumberRange
both (Err NumberRange) (Ok y) = Err NumberRange
both (Ok x) (Err e) = Err e
both (Ok x) (Ok y) = Ok (x, y)

-- the only word; BadNumber if there are none or several
abbrev pub only : List (List ℕ) → Reading (List ℕ)
only [] = Err BadNumber
only (w ∷ []) = Ok w
only (w ∷ v ∷ ws) = Err BadNumber

-- the reading of the only word
abbrev pub alone : {X : Type 0} → (List ℕ → Reading X) → List (List ℕ) → Reading X
alone read ws = only ws >>= read

-- the number with these fraction bits that is nearest to a numeral
unfoldable pub numeral_of : Frac → List ℕ → Reading ℤ
numeral_of frac word = reading_of (bits_of frac) word

-- a numeral with its error of reading
unfoldable pub constant_of : Frac → List ℕ → Reading Constant
constant_of frac word = constant_reading (bits_of frac) word

-- a numeral with its error of reading, possibly with a minus; its range is tested without the minus
unfoldable pub signed_of : Frac → List ℕ → Reading Constant
signed_of frac [] = constant_of frac []
signed_of frac (b ∷ bs) = if b == 45 then mapped negated (constant_of frac bs) else constant_of frac (b ∷ bs)

-- numerals with their errors of reading, each possibly with a minus
unfoldable pub values_of : Frac → List (List ℕ) → Reading (List Constant)
values_of frac [] = Ok []
values_of frac (w ∷ ws) = both (signed_of frac w) (values_of frac ws) >>= λ x. Ok (x.0 ∷ x.1)

-- the number as a cutoff: above 0, and at most 80 nm
abbrev pub cutoff_range : Frac → ℤ → Reading ℤ
cutoff_range frac z = if int_le (pos 1) z && int_le z (pos (80 * 2 ^ bits_of frac)) then Ok z else Err NumberRange

-- a cutoff, tested after rounding
unfoldable pub cutoff_of : Frac → List ℕ → Reading ℤ
cutoff_of frac word = numeral_of frac word >>= cutoff_range frac

-- whether the word is one or more digits
abbrev pub is_whole : List ℕ → Bool
is_whole word = nat_lt 0 (length word) && all_ascii_digits word

-- the number, if it is from `least` to `most`
abbrev pub within : ℕ → ℕ → ℕ → Reading ℕ
within least most n = if nat_le least n && nat_le n most then Ok n else Err NumberRange

-- an integer from `least` to `most`; leading zeros are allowed
unfoldable pub whole_of : ℕ → ℕ → List ℕ → Reading ℕ
whole_of least most word = if is_whole word then within least most (digits_value 10 word) else Err BadNumber

-- the number of fraction bits: 24, 32 or 40
abbrev pub frac_with : ℕ → Reading Frac
frac_with n = if n == 24 then Ok F24 else if n == 32 then Ok F32 else if n == 40 then Ok F40 else Err NumberRange

-- a number of fraction bits
unfoldable pub frac_of : List ℕ → Reading Frac
frac_of word = whole_of 24 40 word >>= frac_with

-- a mass in 10^-5 u, 0.00001 to 1000 u, from its digits before and after the point, of which there are at most five
abbrev pub mass_from : List ℕ → List ℕ → Reading ℕ
mass_from whole part =
    if is_whole whole && (all_ascii_digits part && nat_le (length part) 5)
    then within 1 100000000 (digits_value 10 whole * 100000 + digits_value 10 part * 10 ^ (5 - length part)) else Err BadNumber

-- a mass in 10^-5 u, from the parts of the word around a point
abbrev pub mass_parts : List ℕ → Option (List ℕ × List ℕ) → Reading ℕ
mass_parts word None = mass_from word []
mass_parts word (Some parts) = if length parts.1 == 0 then Err BadNumber else mass_from parts.0 parts.1

-- a mass in 10^-5 u: digits, possibly a point and then one to five digits
unfoldable pub mass_of : List ℕ → Reading ℕ
mass_of word = mass_parts word (split_once 46 word)

-- the result of a call agrees with the reading, or memory ran out
abbrev pub HasRead : {X Y E : Type 0} → (X → Y) → Result (Reading X) E → Reading Y → Type 0
HasRead view (Ok r) reading = mapped view r ≡ reading
HasRead view (Err e) reading = Unit {0}
