-- The power rule for negative exponents.
use Rattle.std.proofs.Common.{◌≡◌, suc, ◌+◌, ℤ, pos, negsuc, unsigned_abs, ◌<ℤ◌, Option, ap, ◌∙◌, arith}
use Rattle.std.proofs.lemmas.Int.{ints}
use Rattle.derivative.specs.Slope.{Operations, power_row}
use Rattle.formula_bounds.specs.Entries.{reciprocal_row}

-- the power rule for a negative exponent is the rule for one over the power with its magnitude
pub row_below : {V : Type 0} (on : Operations V) (u : Option V) (n : ℤ) (du : Option V) → n <ℤ pos 0 → power_row on u n du ≡ reciprocal_row on u (unsigned_abs n) du
row_below on u (pos n) du p = absurd (omega (arith, ints))
row_below on u (negsuc m) du p =
    let e : m + 1 ≡ suc m = omega arith in
    let f : m + 2 ≡ suc m + 1 = omega arith in
    ap (λ n. on.negative (on.quotient (on.product (on.whole n) du) (on.power u (pos (m + 2))))) e
    ∙ ap (λ n. on.negative (on.quotient (on.product (on.whole (suc m)) du) (on.power u (pos n)))) f
