-- Approximations: the range of the values that the program computes, and the range of their errors.
use Rattle.std.specs.Prelude.{ℕ, ℤ, pos, ◌*◌, ◌^◌, ◌-ℤ◌, ◌*ℤ◌}
use Rattle.derivative.specs.Exact.{Numbers}
use Rattle.error_bounds.specs.Ordered.{IsBetween}
use Rattle.interval_domain.specs.Ranges.{IsIn, Range, less, scaled}

-- The error units in the number 1. An error is the computed value less the exact value, in units of 2^-(bits + 8): 256
-- to a unit of the computed value.
abbrev pub scale : (bits : ℕ) → ℕ
scale bits = 256 * 2 ^ bits

-- the raw values that may be computed, and the errors that they may have
pub record Approximation : Type 0 where
  pub computed : Range
  pub error : Range

abbrev pub approximation : (computed error : Range) → Approximation
approximation computed error = record { computed = computed; error = error }

-- The raw value z and the exact number x agree with the approximation: z is in its range, and the error, z less x, is
-- in the range of errors.
pub record Agrees {V : Type 0} (k : Numbers V) (bits : ℕ) (p : Approximation) (z : ℤ) (x : V) : Type 0 where
  pub computed : IsIn z p.computed
  pub near : IsBetween k (scale bits) (pos 256 *ℤ z -ℤ p.error.high) (pos 256 *ℤ z -ℤ p.error.low) x

-- the exact values, in error units, of all values in the range
abbrev pub exact_range : Approximation → Range
exact_range p = less (scaled p.computed (pos 256)) p.error

-- The raw values that may be computed, and the exact values that they may meet, in error units: any of the first may meet
-- any of the second.
pub record Outcomes : Type 0 where
  pub computed : Range
  pub exact : Range

abbrev pub outcomes : (computed exact : Range) → Outcomes
outcomes computed exact = record { computed = computed; exact = exact }

-- those of an approximation
abbrev pub outcomes_of : Approximation → Outcomes
outcomes_of p = outcomes p.computed (exact_range p)
