-- Approximations of powers by squaring, as a recursion on the exponent.
use Rattle.std.proofs.Common.{◌≡◌, ◌≢◌, ℕ, zero, suc, ◌/◌, ◌%◌, ◌<◌, ◌≤◌, arith, refl, Some}
use Rattle.fixed.proofs.PowerLemmas.{at_even, at_odd}
use Rattle.derivative.specs.Exact.{on_one}
use Rattle.error_bounds.specs.Approximations.{Approximation}
use Rattle.error_bounds.specs.Approximate.{power_within}
use Rattle.error_bounds.specs.Rules.{operator_rule, unary_rule}
use Rattle.fixed.specs.declared.operations.Operator.TheVariants as op
use Rattle.fixed.specs.declared.operations.UnaryOperator.TheVariants as unary

-- the powers 0 and 1 are the number itself
pub power_one : (bits : ℕ) (x : Approximation) (n : ℕ) → n ≤ 1 → power_within n bits x n ≡ Some x
unfolding power_within
power_one bits x zero p = refl
power_one bits x (suc zero) p = refl
power_one bits x (suc (suc n)) p = absurd (omega arith)

-- an even power is the square of the power with half the exponent
pub power_even : (bits : ℕ) (x : Approximation) (n : ℕ) → 1 < n → n % 2 ≡ 0
    → power_within n bits x n ≡ on_one (unary_rule bits unary.Square) (power_within (n / 2) bits x (n / 2))
unfolding power_within
power_even bits x =
    at_even (Some x) (on_one (unary_rule bits unary.Square)) (λ r. on_one (λ y. operator_rule bits op.Multiply y x) (on_one (unary_rule bits unary.Square) r)) (λ f n. power_within f bits x n) (λ halvings n. refl)

-- an odd power is that square times the number
pub power_odd : (bits : ℕ) (x : Approximation) (n : ℕ) → 1 < n → n % 2 ≢ 0
    → power_within n bits x n ≡ on_one (λ y. operator_rule bits op.Multiply y x) (on_one (unary_rule bits unary.Square) (power_within (n / 2) bits x (n / 2)))
unfolding power_within
power_odd bits x =
    at_odd (Some x) (on_one (unary_rule bits unary.Square)) (λ r. on_one (λ y. operator_rule bits op.Multiply y x) (on_one (unary_rule bits unary.Square) r)) (λ f n. power_within f bits x n) (λ halvings n. refl)
