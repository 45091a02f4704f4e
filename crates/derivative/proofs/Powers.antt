-- The rows of powers, by the exponent's sign.
use Rattle.std.proofs.Common.{◌≡◌, ◌≢◌, ℕ, ◌+◌, ◌-◌, ◌≤◌, zero, suc, ℤ, pos, negsuc, ◌-ℤ◌, ◌<ℤ◌, int_lt, false, unsigned_abs, IsTrue, refl, ap, arith, ne_eqb}
use Rattle.std.proofs.lemmas.Int.{ints}
use Rattle.fixed.specs.declared.operations.Operator.TheVariants as op
use Rattle.energy_program.specs.Tree.{Tree, Negated, Binary, Power, is_exponent}
use Rattle.derivative.specs.Written.{whole_number, power_tree}

-- The tree written for the derivative of a power with exponent 2 or more is the tree `power_tree`.
pub raised : (bits n : ℕ) (k : ℤ) (u du : Tree) → pos 0 <ℤ k → k ≢ pos 1 → n ≡ unsigned_abs k
    → Binary op.Multiply (Binary op.Multiply (whole_number bits n) (Power u (k -ℤ pos 1))) du ≡ power_tree bits k u du
raised bits n (pos m) u du above other is =
    let some : 1 ≤ m = omega (arith, ints) in
    let lower : pos m -ℤ pos 1 ≡ pos (m - 1) = omega (arith, ints) in
    rw (lower, ne_eqb m 1 (λ (e : m ≡ 1). other (ap pos e)), is) refl
raised bits n (negsuc m) u du above other is = absurd (omega (arith, ints))

-- The tree written for the derivative of a power with an exponent below 0 is the tree `power_tree`.
pub lowered : (bits n : ℕ) (k : ℤ) (u du : Tree) → int_lt (pos 0) k ≡ false → IsTrue (is_exponent k) → n ≡ unsigned_abs k
    → Negated (Binary op.Divide (Binary op.Multiply (whole_number bits n) du) (Power u (pos 1 -ℤ k))) ≡ power_tree bits k u du
lowered bits n (pos zero) u du below possible is = absurd (grind arith)
lowered bits n (pos (suc m)) u du below possible is = absurd (grind arith)
lowered bits n (negsuc m) u du below possible is =
    let higher : pos 1 -ℤ negsuc m ≡ pos (m + 2) = omega (arith, ints) in
    let same : n ≡ m + 1 = omega arith in
    rw (higher, same) refl
