-- If a rule of choices gives an approximation, the computed value is in its range.
use Rattle.std.proofs.Common.{◌≡◌, ℤ, true, false, Some, ap, subst, ⊎_elim, ◌&&◌, ◌⊎◌}
use Rattle.std.proofs.lemmas.Bool.{and_parts}
use Rattle.fixed.specs.Arithmetic.{is_zero}
use Rattle.error_bounds.specs.Approximations.{Approximation, exact_range}
use Rattle.interval_domain.specs.Ranges.{IsIn, has_zero, hull}
use Rattle.interval_domain.proofs.QuotientLemmas.{member_not_zero}
use Rattle.interval_domain.proofs.RangeLemmas.{in_first, in_second}
use Rattle.error_bounds.specs.Rules.{apart, either, is_not_zero, is_only_zero}
use Rattle.error_bounds.proofs.Bounded.{within_limits_of}
use Rattle.error_bounds.proofs.Tests.{no_twice, not_zero, only_zero_in}

-- if the rule finds that an operand isn't 0, the test of each member for 0 is false
pub not_zero_computes : (p : Approximation) (z : ℤ) → IsIn z p.computed → is_not_zero p ≡ true → is_zero z ≡ false
not_zero_computes p z m e =
    let off = (no_twice (has_zero p.computed) (has_zero (exact_range p)) e).0 in
    not_zero z (member_not_zero p.computed z m off)

-- if the rule finds that an operand is 0, the test of each member for 0 is true
pub only_zero_computes : (p : Approximation) (z : ℤ) → IsIn z p.computed → is_only_zero p ≡ true → is_zero z ≡ true
only_zero_computes p z m e =
    let both = and_parts (is_zero p.computed.low && is_zero p.computed.high) (is_zero p.error.low && is_zero p.error.high) e in
    ap is_zero (only_zero_in p.computed z m both.0)

-- a choice between members of two ranges is in the rule's range
pub either_computes : (p q r : Approximation) (c : ℤ) → either p q ≡ Some r → (IsIn c p.computed) ⊎ (IsIn c q.computed) → IsIn c r.computed
either_computes p q r c e inside =
    let all = hull p.computed q.computed in
    let b = within_limits_of all (Some (apart all (hull (exact_range p) (exact_range q)))) r e in
    subst (IsIn c) b.0
    (⊎_elim
    (λ (m : IsIn c p.computed). in_first p.computed q.computed c m)
    (λ (m : IsIn c q.computed). in_second p.computed q.computed c m)
    inside)
