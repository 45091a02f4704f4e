-- Powers by squaring, as a relation with one case for each line of the table 1, 2k, 2k + 1.
use Rattle.std.specs.Prelude.{ℕ, suc, ℤ, pos, negsuc, ◌≡◌, ◌+◌, ◌*◌, ◌<◌, Result, Ok}
use Rattle.fixed.specs.declared.faults.Fault.{Fault}
use Rattle.fixed.specs.Arithmetic.{one, product_of, quotient_of, square_of, then_apply}

-- r is x to the power n, or the first fault in the sequence of products
pub data IsPowerBySquaring (bits : ℕ) (x : ℤ) : ℕ → Result ℤ Fault → Type 0 where
  once : IsPowerBySquaring bits x 1 (Ok x)
  even : (k : ℕ) (r : Result ℤ Fault) → 0 < k → IsPowerBySquaring bits x k r
      → IsPowerBySquaring bits x (2 * k) (then_apply r (square_of bits))
  odd : (k : ℕ) (r : Result ℤ Fault) → 0 < k → IsPowerBySquaring bits x (2 * k) r
      → IsPowerBySquaring bits x (2 * k + 1) (then_apply r (λ y. product_of bits y x))

-- r is x to the power n for any n except 0, or the first fault; for negative n it is one divided by the power -n
abbrev pub IsSignedPower : ℕ → ℤ → ℤ → Result ℤ Fault → Type 0
IsSignedPower bits x (pos n) r = IsPowerBySquaring bits x n r
IsSignedPower bits x (negsuc n) r =
    (p : Result ℤ Fault) × (IsPowerBySquaring bits x (suc n) p × (r ≡ then_apply p (quotient_of bits (one bits))))
