-- The meaning of an approximation for a computed and an exact value.
use Rattle.std.specs.Prelude.{◌≡◌, ℕ, suc, ℤ, pos, negsuc, ◌*◌, ◌^◌, ◌+ℤ◌, ◌-ℤ◌, ◌*ℤ◌, Option, Some, IfSome}
use Rattle.derivative.specs.Exact.{Numbers, whole}
use Rattle.fixed.specs.declared.constants.Constant.{Constant}
use Rattle.error_bounds.specs.Approximations.{Agrees, Approximation, scale}
use Rattle.error_bounds.specs.Ordered.{IsBetween}
use Rattle.interval_domain.specs.Ranges.{IsIn}

-- the number x is the decimal m times 10^p
abbrev pub IsDecimal : {V : Type 0} → Numbers V → (m : ℕ) → (p : ℤ) → V → Type 0
IsDecimal k m (pos p) x = x ≡ whole k.ring (m * 10 ^ p)
IsDecimal k m (negsuc p) x = k.ring.times (whole k.ring (10 ^ suc p)) x ≡ whole k.ring m

module _ {V : Type 0} (k : Numbers V) (bits : ℕ) where
  -- the exact number x was read as this constant: the value less x is between the bounds of the constant's error
  abbrev pub WasRead : Constant → V → Type 0
  WasRead c x = IsBetween k (scale bits) (pos 256 *ℤ c.value -ℤ c.high) (pos 256 *ℤ c.value -ℤ c.low) x

  -- the exact distance x is computed as z: x is from z to the next raw value
  abbrev pub WasRoundedDown : ℤ → V → Type 0
  WasRoundedDown z x = IsBetween k (2 ^ bits) z (z +ℤ pos 1) x

  -- The computed value is there and in the range of the approximation, and an exact value, if there is one, agrees
  -- with it.
  abbrev pub Approximates : Approximation → Option ℤ → Option V → Type 0
  Approximates p computed exact =
      (z : ℤ) × (computed ≡ Some z) × IsIn z p.computed × ((x : V) → exact ≡ Some x → Agrees k bits p z x)

  -- if there is an approximation, it is one of the computed and the exact value
  abbrev pub ApproximatesIfThere : Option Approximation → Option ℤ → Option V → Type 0
  ApproximatesIfThere approximated computed exact = IfSome approximated (λ p. Approximates p computed exact)
