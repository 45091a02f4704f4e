-- Floats of either sign as exact fractions, and certified floors.
use Rattle.std.specs.Prelude.{ℕ, ℤ, T, true, false, cond, pos, negsuc, List, length, slice_index_or, ◌≡◌, ◌+◌, ◌*◌, ◌^◌, ◌<◌, ◌≤◌}
use Rattle.std.specs.Float.{NotNan}
use Rattle.std.specs.Int.{cast_unsigned, w64}
use Rattle.std.specs.Float.Ieee.{Float, nan, inf, fin, up, binary64, sub, lt, le}
use Rattle.float_filters.specs.Near.{numerator, denominator}

-- a finite float is (positive_part - negative_part) / denominator, and one of the two parts is 0
abbrev pub positive_part : Float → ℕ
positive_part nan = 0
positive_part (inf s) = 0
positive_part (fin s m e) = cond s 0 (m * up e)

abbrev pub negative_part : Float → ℕ
negative_part nan = 0
negative_part (inf s) = 0
negative_part (fin s m e) = cond s (m * up e) 0

-- neither a NaN nor an infinity
abbrev pub IsFinite : Float → Type 0
IsFinite nan = ⊥
IsFinite (inf s) = ⊥
IsFinite (fin s m e) = Unit {0}

-- the float is finite, and its value is (a - b) / c, for a positive c
pub record IsDifference (x : Float) (a b c : ℕ) : Type 0 where
  pub finite : IsFinite x
  pub value : positive_part x * c + b * denominator x ≡ a * denominator x + negative_part x * c

-- (a - b) / c is less than the float, for a positive c
abbrev pub IsLess : ℕ → ℕ → ℕ → Float → Type 0
IsLess a b c nan = ⊥
IsLess a b c (inf s) = s ≡ false
IsLess a b c (fin s m e) =
    a * denominator (fin s m e) + negative_part (fin s m e) * c < positive_part (fin s m e) * c + b * denominator (fin s m e)

-- (a - b) / c is at least the float, for a positive c
abbrev pub IsAtLeast : ℕ → ℕ → ℕ → Float → Type 0
IsAtLeast a b c nan = ⊥
IsAtLeast a b c (inf s) = s ≡ true
IsAtLeast a b c (fin s m e) =
    positive_part (fin s m e) * c + b * denominator (fin s m e) ≤ a * denominator (fin s m e) + negative_part (fin s m e) * c

-- ---- lanes

-- lane k of a vector of floats
abbrev pub lane : List Float → ℕ → Float
lane v k = slice_index_or v k nan

-- v has four lanes, and lane k holds f k
pub record HasFloats (v : List Float) (f : ℕ → Float) : Type 0 where
  pub long : length v ≡ 4
  pub each : (k : ℕ) → k < 4 → lane v k ≡ f k

-- lane k of a mask is set: its highest bit is 1
abbrev pub IsSet : List ℤ → ℕ → Type 0
IsSet mask k = 2 ^ 63 ≤ cast_unsigned w64 (slice_index_or mask k (pos 0))

-- the mask has four lanes, and all bits of lane k are 1
pub record IsFull (mask : List ℤ) (k : ℕ) : Type 0 where
  pub long : length mask ≡ 4
  pub bits : slice_index_or mask k (pos 0) ≡ negsuc 0

-- ---- certified floors

-- the float is the integer n, which is between 2^52 and 2^53
pub record IsInteger (t : Float) (n : ℕ) : Type 0 where
  pub finite : IsFinite t
  pub size : positive_part t ≡ n
  pub whole : denominator t ≡ 1
  pub from_zero : negative_part t ≡ 0
  pub low : 2 ^ 52 ≤ n
  pub high : n < 2 ^ 53

-- 1/2
abbrev pub half : Float
half = fin false 1 (negsuc 0)

-- -1/2
abbrev pub minus_half : Float
minus_half = fin true 1 (negsuc 0)

-- 0, with either sign
pub record IsZero (x : Float) : Type 0 where
  pub finite : IsFinite x
  pub none : numerator x ≡ 0

-- 3 * 2^51, in the middle of the floats between 2^52 and 2^53
abbrev pub middle : Float
middle = fin false 3 (pos 51)

-- p - 1/2, rounded
abbrev pub halved : Float → Float
halved p = sub binary64 p half

-- for the integer n = t - 3 * 2^51 and u, which is p - 1/2 rounded, u - n is at least `least` and less than `room`
pub record IsCertified (p room least t : Float) : Type 0 where
  pub integer : IsInteger t (positive_part t)
  pub finite : IsFinite (halved p)
  pub less : IsLess (positive_part (halved p) + 3 * 2 ^ 51 * denominator (halved p))
      (negative_part (halved p) + positive_part t * denominator (halved p)) (denominator (halved p)) room
  pub at_least : IsAtLeast (positive_part (halved p) + 3 * 2 ^ 51 * denominator (halved p))
      (negative_part (halved p) + positive_part t * denominator (halved p)) (denominator (halved p)) least

-- In a lane that is set, t is a number, `least` is less than `room`, and t is certified if p is finite and at most 2^50
-- in magnitude.
pub record AreCertified (p room least t : List Float) (mask : List ℤ) : Type 0 where
  pub number : (k : ℕ) → k < 4 → IsSet mask k → NotNan (lane t k)
  pub ordered : (k : ℕ) → k < 4 → IsSet mask k → T (lt (lane least k) (lane room k))
  pub each : (k : ℕ) → k < 4 → IsSet mask k → IsFinite (lane p k) → positive_part (lane p k) ≤ 2 ^ 50 * denominator (lane p k)
      → negative_part (lane p k) ≤ 2 ^ 50 * denominator (lane p k) → IsCertified (lane p k) (lane room k) (lane least k) (lane t k)

-- A lane is set if p is 0, and -1/2 is at least `least` and less than `room`.
pub record AreZerosSure (p room least : List Float) (mask : List ℤ) : Type 0 where
  pub each : (k : ℕ) → k < 4 → IsZero (lane p k) → T (lt minus_half (lane room k)) → T (le (lane least k) minus_half) → IsFull mask k
