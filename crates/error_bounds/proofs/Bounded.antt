-- Results and errors of rules that give an approximation.
use Rattle.std.proofs.Common.{◌≡◌, ℕ, ◌<◌, ℤ, pos, ◌-ℤ◌, ◌*ℤ◌, ◌≤ℤ◌, Bool, true, false, Option, Some, None, Result, Ok, Err, if◌then◌else◌, refl, subst, arith}
use Rattle.std.proofs.lemmas.Int.{ints}
use Rattle.fixed.specs.declared.faults.Fault.{Fault}
use Rattle.fixed.proofs.FloorLemmas.{two_pos}
use Rattle.derivative.specs.Exact.{Numbers}
use Rattle.error_bounds.specs.Approximations.{Agrees, Approximation, approximation, scale}
use Rattle.error_bounds.specs.Ordered.{AreOrdered, IsBetween}
use Rattle.interval_domain.specs.Ranges.{Range}
use Rattle.error_bounds.specs.Rules.{bounded, is_small, within_limits}
use Rattle.error_bounds.proofs.Between as between

-- ---- limits

-- the approximation has these results, and the errors that follow from them
pub record IsBounded (results : Result Range Fault) (errors : Range → Option Range) (r : Approximation) : Type 0 where
  pub computed : results ≡ Ok r.computed
  pub error : errors r.computed ≡ Some r.error

-- an approximation within the limits has the range and the errors that it was given
pub within_limits_of : (x : Range) (errors : Option Range) (r : Approximation) → within_limits x errors ≡ Some r
    → (x ≡ r.computed) × (errors ≡ Some r.error)
within_limits_of x None r rule = absurd (cc)
within_limits_of x (Some e) r rule = by_test (is_small e) rule
  where
    by_test : (small : Bool) → (if small then Some (approximation x e) else None) ≡ Some r → (x ≡ r.computed) × (Some e ≡ Some r.error)
    by_test true rule = (cc, cc)
    by_test false rule = absurd (cc)

-- an approximation that a rule gives has the range of the results and their errors
pub bounded_of : (results : Result Range Fault) (errors : Range → Option Range) (r : Approximation) → bounded results errors ≡ Some r
    → IsBounded results errors r
bounded_of (Err fault) errors r rule = absurd (cc)
bounded_of (Ok x) errors r rule =
    let w = within_limits_of x (errors x) r rule in
    record { computed = cc (w.0); error = subst (λ (c : Range). errors c ≡ Some r.error) w.0 w.1 }

-- errors that are there only if a test is passed are those without the test
pub if_passed : (passed : Bool) (found : Option Range) (e : Range) → (if passed then found else None) ≡ Some e → found ≡ Some e
if_passed true found e rule = rule
if_passed false found e rule = absurd (cc)

-- and the test is passed
pub not_refused : (refused : Bool) (found : Option Range) (e : Range) → (if refused then None else found) ≡ Some e
    → (refused ≡ false) × (found ≡ Some e)
not_refused true found e rule = absurd (cc)
not_refused false found e rule = (refl, rule)

-- ---- agreement

-- there are error units in the number 1
pub scale_above_zero : (bits : ℕ) → 0 < scale bits
scale_above_zero bits = omega (arith, two_pos bits)

module _ {V : Type 0} (k : Numbers V) (h : AreOrdered k) (bits : ℕ) where
  -- the exact value x is as near to the computed value z as such errors say
  abbrev pub IsNear : Range → ℤ → V → Type 0
  IsNear e z x = IsBetween k (scale bits) (pos 256 *ℤ z -ℤ e.high) (pos 256 *ℤ z -ℤ e.low) x

  -- the errors of an approximation with which two values agree are in order
  pub errors_in_order : (p : Approximation) (z : ℤ) (x : V) → Agrees k bits p z x → p.error.low ≤ℤ p.error.high
  errors_in_order p z x a =
      let o = between.ordered k h (scale bits) (pos 256 *ℤ z -ℤ p.error.high) (pos 256 *ℤ z -ℤ p.error.low) x a.near in
      omega (arith, ints)
