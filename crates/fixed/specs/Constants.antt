-- Constants: numbers of a text as they were read, with bounds on the error of reading.
use Rattle.std.specs.Prelude.{◌≡◌, ◌≤ℤ◌, ℕ, suc, ℤ, pos, negsuc, neg_ℤ, ◌*◌, ◌^◌, ◌-ℤ◌, ◌*ℤ◌, if◌then◌else◌, List, Result, Ok, Err}
use Rattle.fixed.specs.Arithmetic.{floor_of, in_range}
use Rattle.fixed.specs.Numerals.{Numeral, IsReadingBy, IsFrontReadingBy, mantissa_of, power_of_ten, nearest_fixed}
use Rattle.fixed.specs.Rounding.{IsFloor}
use Rattle.fixed.specs.declared.constants.Constant.{Constant}
use Rattle.fixed.specs.declared.faults.NumFault.{NumFault}
use Rattle.fixed.specs.declared.faults.NumFault.TheVariants.{NumberRange}

-- a constant: the number that was read, and its error rounded down and up
abbrev pub constant : (value low high : ℤ) → Constant
constant value low high = record { value = value; low = low; high = high }

-- a number without an error
abbrev pub exactly : ℤ → Constant
exactly z = constant z (pos 0) (pos 0)

-- the negative
abbrev pub negated : Constant → Constant
negated c = constant (neg_ℤ c.value) (neg_ℤ c.high) (neg_ℤ c.low)

-- the error of z for n / b, in units of 1 / b, 256 to a unit of z
abbrev pub error : (n b : ℕ) → ℤ → ℤ
error n b z = pos 256 *ℤ (z *ℤ pos b -ℤ pos n)

-- The error of the raw value z for the decimal m / 10^k, times 10^k: z less the decimal, in units of 2^-(bits + 8).
abbrev pub error_times : (bits m k : ℕ) → ℤ → ℤ
error_times bits m k z = error (m * 2 ^ bits) (10 ^ k) z

-- The constant is the decimal m times 10^p as it is read: the nearest number, and its error rounded down and up.
abbrev pub IsConstantOf : (bits m : ℕ) → (p : ℤ) → Constant → Type 0
IsConstantOf bits m (pos p) c = c ≡ exactly (nearest_fixed bits m (pos p))
IsConstantOf bits m (negsuc p) c = (c.value ≡ nearest_fixed bits m (negsuc p))
    × IsFloor (error_times bits m (suc p) c.value) (pos (10 ^ suc p)) c.low
    × IsFloor (neg_ℤ (error_times bits m (suc p) c.value)) (pos (10 ^ suc p)) (neg_ℤ c.high)

-- ---- the constant of a decimal, as a function

-- the raw value z, with the error e / d rounded down and up
abbrev pub with_error : (z e d : ℤ) → Constant
with_error z e d = constant z (floor_of e d) (neg_ℤ (floor_of (neg_ℤ e) d))

-- the raw value z as it is read for the decimal m / 10^k
abbrev pub read_as : (bits m k : ℕ) → ℤ → Constant
read_as bits m k z = with_error z (error_times bits m k z) (pos (10 ^ k))

-- the decimal m times 10^p as it is read
abbrev pub constant_of : (bits m : ℕ) → (p : ℤ) → Constant
constant_of bits m (pos p) = exactly (nearest_fixed bits m (pos p))
constant_of bits m (negsuc p) = read_as bits m (suc p) (nearest_fixed bits m (negsuc p))

-- the decimal m times 10^p as it is read, or NumberRange
abbrev pub constant_or_range : (bits m : ℕ) → (p : ℤ) → Result Constant NumFault
constant_or_range bits m p = if in_range (nearest_fixed bits m p) then Ok (constant_of bits m p) else Err NumberRange

-- the decimal of a numeral as it is read, or NumberRange
abbrev pub constant_value : ℕ → Numeral → Result Constant NumFault
constant_value bits n = constant_or_range bits (mantissa_of n) (power_of_ten n)

-- r is the reading of the text as a constant
abbrev pub IsConstantReading : (bits : ℕ) (text : List ℕ) → Result Constant NumFault → Type 0
IsConstantReading bits text r = IsReadingBy (constant_value bits) text r

-- r is the reading of the start of the text as a constant
abbrev pub IsConstantFrontReading : (bits : ℕ) (text : List ℕ) → Result (Constant × List ℕ) NumFault → Type 0
IsConstantFrontReading bits text r = IsFrontReadingBy (constant_value bits) text r

-- a constant that a text can denote: at least 0, with bounds of its error that are at most half a unit
pub record IsRead (c : Constant) : Type 0 where
  pub least : pos 0 ≤ℤ c.value
  pub low : neg_ℤ (pos 128) ≤ℤ c.low
  pub low_most : c.low ≤ℤ pos 128
  pub high : neg_ℤ (pos 128) ≤ℤ c.high
  pub high_most : c.high ≤ℤ pos 128
