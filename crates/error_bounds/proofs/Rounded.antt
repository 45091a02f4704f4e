-- Errors after rounding down.
use Rattle.std.proofs.Common.{ℕ, ◌+◌, pos, arith}
use Rattle.interval_domain.specs.Ranges.{IsWithin, Range}
use Rattle.interval_domain.proofs.RangeLemmas.{difference_magnitude}
use Rattle.error_bounds.specs.Rules.{rounded_down}

-- small errors are small after rounding down
pub rounded_small : (n : ℕ) (e : Range) → IsWithin n e → IsWithin (n + 256) (rounded_down e)
rounded_small n e p =
    let a = p.low in
    let b = p.high in
    record { low = omega (arith, difference_magnitude e.low (pos 256)); high = omega arith }
