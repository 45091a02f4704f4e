-- Quotients of integers, decided in floating point.
use Rattle.std.specs.Prelude.{ℕ, ℤ, Bool, false, cond, pos, negsuc, T, suc, ◌≡◌, ◌*◌, ◌^◌}
use Rattle.std.specs.Float.Ieee.{Float, fin, binary64, add, sub, mul, div, lt}
use Rattle.float_filters.specs.Floors.{IsInteger, middle, positive_part}

-- a less `shift`, times `one`, over b, each operation rounded
abbrev pub scaled_quotient : Float → Float → Float → Float → Float
scaled_quotient a b shift one = div binary64 (mul binary64 (sub binary64 a shift) one) b

-- 1
abbrev pub unit : Float
unit = fin false 1 (pos 0)

-- t is an integer between 2^52 and 2^53; less 3 * 2^51 it is less than p, and one more is greater than p
pub record IsStrictFloor (p t : Float) : Type 0 where
  pub integer : IsInteger t (positive_part t)
  pub above : T (lt (sub binary64 t middle) p)
  pub below : T (lt p (add binary64 (sub binary64 t middle) unit))

-- b is a positive multiple of 2^bits
abbrev pub IsWhole : ℕ → ℤ → Type 0
IsWhole bits (pos b) = (k : ℕ) × (b ≡ suc k * 2 ^ bits)
IsWhole bits (negsuc b) = ⊥

-- the shift of dividends, in halves
abbrev pub shift_of : Bool → ℕ
shift_of whole = cond whole 1 0
