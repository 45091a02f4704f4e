-- Numbers of the table as text: values as the nearest decimals, bounds rounded up.
use Rattle.std.specs.Prelude.{◌≡◌, ◌⊎◌, ◌≤◌, ◌<◌, ℕ, nat_lt, if◌then◌else◌, ◌+◌, ◌*◌, ◌^◌, ℤ, pos, ◌-ℤ◌, ◌*ℤ◌, List, ◌++◌, Option, Some, None, codes}
use Rattle.std.specs.Fmt.{signed_decimal}
use Rattle.error_bounds.specs.Approximations.{scale}
use Rattle.fixed.specs.Rounding.{nearest_of}
use Rattle.line_text.specs.Columns.{decimals_text}

-- The number of decimals of a value: 12, or 14 if the unit, 2^-bits, is less than 10^-12. So different values have
-- different texts.
abbrev pub places : (bits : ℕ) → ℕ
places bits = if nat_lt bits 40 then 12 else 14

-- the raw value z as the nearest decimal; a tie rounds up
abbrev pub value_text : (bits : ℕ) → ℤ → List ℕ
value_text bits z = decimals_text (places bits) (nearest_of (z *ℤ pos (10 ^ places bits)) (pos (2 ^ bits)))

-- n / d is rounded up to m times 10^k, for m of three digits and the least k at which m has no more
pub record IsRoundedUp (n d m k : ℕ) : Type 0 where
  pub covered : n ≤ m * (10 ^ k * d)
  pub nearest : m * (10 ^ k * d) < n + 10 ^ k * d
  pub three : 100 ≤ m
  pub digits : m ≤ 999
  pub least : (h : ℕ) → h < k → 999 * (10 ^ h * d) < n

-- m times 10^(k - 17), for m of three digits, as text: a digit, two decimals and an exponent
abbrev pub three_digits : (m k : ℕ) → List ℕ
three_digits m k = decimals_text 2 (pos m) ++ (codes "e" ++ signed_decimal (pos k -ℤ pos 15))

-- The text of a bound in error units, at `bits` fraction bits: `-` if there is no bound, `0` if it is 0, and otherwise the
-- least number with three digits that is at least the bound. (An error unit at 40 bits is 355 times 10^-17.)
abbrev pub IsBoundText : (bits : ℕ) → Option ℕ → List ℕ → Type 0
IsBoundText bits None text = text ≡ codes "-"
IsBoundText bits (Some bound) text = ((bound ≡ 0) × (text ≡ codes "0"))
    ⊎ ((0 < bound) × ((m : ℕ) × (k : ℕ) × IsRoundedUp (bound * 10 ^ 17) (scale bits) m k × (text ≡ three_digits m k)))
