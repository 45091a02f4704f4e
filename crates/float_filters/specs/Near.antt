-- Floats near exact numbers, in factors of 1 - 2^-53 and 1 + 2^-53. Rounding once to the nearest float adds one factor
-- (N. J. Higham, Accuracy and Stability of Numerical Algorithms, 2002, chapter 2).
use Rattle.std.specs.Prelude.{ℕ, ℤ, pos, negsuc, suc, Bool, true, false, ◌≡◌, ◌+◌, ◌-◌, ◌*◌, ◌^◌, ◌≤◌}
use Rattle.std.specs.Float.Ieee.{Float, nan, inf, fin, up, down}

-- ---- fractions

-- n / d is at least a / c times (1 - 2^-53)^k, and at most a / c times (1 + 2^-53)^k; c and d are positive
pub record IsFractionNear (k n d a c : ℕ) : Type 0 where
  pub low : a * (2 ^ 53 - 1) ^ k * d ≤ n * c * (2 ^ 53) ^ k
  pub high : n * c * (2 ^ 53) ^ k ≤ a * (2 ^ 53 + 1) ^ k * d

-- ---- floats

-- the magnitude of a finite float is this over the denominator
abbrev pub numerator : Float → ℕ
numerator nan = 0
numerator (inf s) = 0
numerator (fin s m e) = m * up e

abbrev pub denominator : Float → ℕ
denominator nan = 1
denominator (inf s) = 1
denominator (fin s m e) = down e

-- the float is finite, and has this sign: true for a minus
abbrev pub HasSign : Bool → Float → Type 0
HasSign s nan = ⊥
HasSign s (inf t) = ⊥
HasSign s (fin t m e) = t ≡ s

-- the float is finite, has the sign s, and its magnitude is near a / c
pub record IsNearSigned (k : ℕ) (s : Bool) (x : Float) (a c : ℕ) : Type 0 where
  pub sign : HasSign s x
  pub near : IsFractionNear k (numerator x) (denominator x) a c

-- the float is finite, isn't negative, and is near a / c
abbrev pub IsNear : ℕ → Float → ℕ → ℕ → Type 0
IsNear k x a c = IsNearSigned k false x a c

-- the float is finite and near the integer a, and has its sign
abbrev pub IsNearInteger : ℕ → Float → ℤ → Type 0
IsNearInteger k x (pos n) = IsNearSigned k false x n 1
IsNearInteger k x (negsuc n) = IsNearSigned k true x (suc n) 1

-- the float is finite, isn't negative, and its square is near a / c, so that the float is near the root of a / c
pub record IsNearRoot (k : ℕ) (x : Float) (a c : ℕ) : Type 0 where
  pub sign : HasSign false x
  pub near : IsFractionNear k (numerator x * numerator x) (denominator x * denominator x) a c
