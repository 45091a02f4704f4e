-- A bound on the part of a slope's error that no spelling of the formula avoids: the program rounds a distance down to the
-- grid of raw distances, and the slope changes by up to the second derivative times the grid's spacing.
use Rattle.std.specs.Prelude.{ℕ, ◌+◌, ◌-◌, ◌*◌, ◌/◌, ◌^◌, ℤ, pos, neg_ℤ, List, ◌∷◌, Option, Some, None, IfSome}
use Rattle.energy_program.specs.Programs.{Trees}
use Rattle.energy_program.specs.Tree.{substituted}
use Rattle.derivative.specs.Derive.{with_all}
use Rattle.derivative.specs.DualNumbers.{IsNear}
use Rattle.derivative.specs.Exact.{Numbers}
use Rattle.fixed.specs.declared.constants.Constant.{Constant}
use Rattle.interval_domain.specs.Ranges.{range}
use Rattle.error_bounds.specs.Approximations.{Approximation}
use Rattle.error_bounds.specs.Meanings.{WasRoundedDown}
use Rattle.error_bounds.specs.Ordered.{IsBetween}
use Rattle.error_bounds.specs.Rules.{magnitude}
use Rattle.formula_bounds.specs.Entries.{entry_of_program}
use Rattle.formula_bounds.specs.Written.{HaveNumbers, IsWrittenProgram}
use Rattle.curves.specs.Slices.{inputs_on}

-- the most that an exact value is in magnitude, in error units: an exact value is 256 c - e
abbrev pub exact_bound : Approximation → ℕ
exact_bound p = 256 * magnitude p.computed + magnitude p.error

-- n / d, rounded up
abbrev pub up_over : (n d : ℕ) → ℕ
up_over n d = (n + (d - 1)) / d

-- the change of a value over a distance of 2^-bits, in error units, if this is the approximation of its derivative
abbrev pub change_of : (bits : ℕ) → Option Approximation → Option ℕ
change_of bits None = None
change_of bits (Some p) = Some (up_over (exact_bound p) (2 ^ bits))

-- The change of a slope from the distance z to one unit above it, if `derived` is the program of the slope: by the
-- approximation of its derivative in one walk. The distance's error, from -256 to 0, stands for all exact distances up to
-- the next unit.
abbrev pub grid_at : (bits : ℕ) → (derived : Trees) → (others : List Constant) → (z : ℤ) → Option ℕ
grid_at bits derived others z = change_of bits (entry_of_program bits (inputs_on others (range z z)) derived).slope

-- ---- the meaning

-- the change s times 2^-bits, which is 256 s error units, is at most the bound in magnitude, if there is one
abbrev pub IsChangeBound : {V : Type 0} → Numbers V → (bound : Option ℕ) → (s : V) → Type 0
IsChangeBound k bound s = IfSome bound (λ b. IsBetween k 256 (neg_ℤ (pos b)) (pos b) s)

module _ {V : Type 0} (k : Numbers V) (bits : ℕ) where
  -- At the distance of these inputs the first number is the formula's derivative, and the second one its second
  -- derivative: in dual numbers, the program of the derivative is v + s e there.
  abbrev pub AreDerivatives : (inputs : List V) → (formula : Trees) → V × V → Type 0
  AreDerivatives inputs formula x = IsNear k inputs (substituted (with_all bits formula).0 (with_all bits formula).1) x

  -- The bound is right for the second derivative of the program, as it was written, at each exact distance that is
  -- computed as z: times 2^-bits, it is at most the bound. The other inputs have the first numbers of xs.
  abbrev pub BoundsSecond : (program : Trees) (others : List Constant) (z : ℤ) → Option ℕ → Type 0
  BoundsSecond program others z bound =
      (d : V) (xs : List V) (written : Trees) → WasRoundedDown k bits z d → HaveNumbers k bits (d ∷ xs) 0 others
      → IsWrittenProgram k bits (d ∷ xs) program written → (v s : V) → AreDerivatives (d ∷ xs) written (v, s) → IsChangeBound k bound s
