-- Exact fractions of integers, not reduced, and the decimals nearest to them.
use Rattle.std.specs.Prelude.{◌≡◌, ℕ, ◌*◌, ◌^◌, ◌≤◌, ℤ, pos, ◌+ℤ◌, ◌*ℤ◌, unsigned_abs}
use Rattle.fixed.specs.Rounding.{nearest_of}

-- a fraction of integers; the denominator isn't 0
pub record Ratio : Type 0 where
  pub numerator : ℤ
  pub denominator : ℕ

-- the fraction n / d
abbrev pub ratio : ℤ → ℕ → Ratio
ratio n d = record { numerator = n; denominator = d }

-- two fractions are equal: crosswise, the products of numerator and denominator are
abbrev pub AreEqual : Ratio → Ratio → Type 0
AreEqual x y = x.numerator *ℤ pos y.denominator ≡ y.numerator *ℤ pos x.denominator

-- the sum of two fractions
abbrev pub plus : Ratio → Ratio → Ratio
plus x y = record {
  numerator = x.numerator *ℤ pos y.denominator +ℤ y.numerator *ℤ pos x.denominator;
  denominator = x.denominator * y.denominator;
}

-- the product of a fraction and a number
abbrev pub times : Ratio → ℕ → Ratio
times x k = record { numerator = x.numerator *ℤ pos k; denominator = x.denominator }

-- the quotient of a fraction and a number
abbrev pub over : Ratio → ℕ → Ratio
over x k = record { numerator = x.numerator; denominator = x.denominator * k }

-- the decimal with `decimals` decimals that is nearest to a fraction, in units of its last decimal; a tie rounds up
abbrev pub decimal_of : ℕ → Ratio → ℤ
decimal_of decimals x = nearest_of (x.numerator *ℤ pos (10 ^ decimals)) (pos x.denominator)

-- the fraction x is from -k to k
pub record IsWithin (k : ℕ) (x : Ratio) : Type 0 where
  pub within : unsigned_abs x.numerator ≤ k * x.denominator
