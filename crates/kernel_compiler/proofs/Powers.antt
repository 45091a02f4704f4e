-- The codes of powers.
use Rattle.std.proofs.Common.{◌≡◌, ◌≢◌, ℕ, ◌+◌, ◌/◌, ◌%◌, ◌<◌, [], ◌∷◌, ◌++◌, length, refl, ap, ◌∙◌, length-append}
use Rattle.fixed.proofs.PowerLemmas.{at_even, at_odd}
use Rattle.fixed.specs.declared.operations.Operator.TheVariants.{Multiply}
use Rattle.fixed.specs.declared.operations.UnaryOperator.TheVariants.{Square}
use Rattle.kernel_code.specs.declared.instructions.Instr.TheVariants.{Get, Binary, Unary}
use Rattle.kernel_compiler.specs.Code.{base, power_code_within, power_code}

-- the code of the power 1 is the base
pub power_one : (n : ℕ) → n ≡ 1 → power_code n ≡ Get base ∷ []
unfolding power_code_within
power_one n e = rw e refl

-- the code of an even power from 2 on is the code of half the power, then a squaring
pub power_even : (n : ℕ) → 1 < n → n % 2 ≡ 0 → power_code n ≡ power_code (n / 2) ++ (Unary Square ∷ [])
unfolding power_code_within
power_even = at_even (Get base ∷ []) (λ is. is ++ (Unary Square ∷ [])) (λ is. is ++ (Unary Square ∷ Get base ∷ Binary Multiply ∷ [])) power_code_within (λ halvings n. refl)

-- the code of an odd power above 1 is the code of half of it, rounded down, then a squaring and a product with the base
pub power_odd : (n : ℕ) → 1 < n → n % 2 ≢ 0 → power_code n ≡ power_code (n / 2) ++ (Unary Square ∷ Get base ∷ Binary Multiply ∷ [])
unfolding power_code_within
power_odd = at_odd (Get base ∷ []) (λ is. is ++ (Unary Square ∷ [])) (λ is. is ++ (Unary Square ∷ Get base ∷ Binary Multiply ∷ [])) power_code_within (λ halvings n. refl)

-- the code of the power 1 is one instruction
pub size_one : (n : ℕ) → n ≡ 1 → length (power_code n) ≡ 1
size_one n e = ap length (power_one n e)

-- the code of an even power from 2 on is one instruction longer than the code of half the power
pub size_even : (n : ℕ) → 1 < n → n % 2 ≡ 0 → length (power_code n) ≡ length (power_code (n / 2)) + 1
size_even n p e = ap length (power_even n p e) ∙ length-append (power_code (n / 2)) (Unary Square ∷ [])

-- the code of an odd power above 1 is three instructions longer than the code of half the power, rounded down
pub size_odd : (n : ℕ) → 1 < n → n % 2 ≢ 0 → length (power_code n) ≡ length (power_code (n / 2)) + 3
size_odd n p e = ap length (power_odd n p e) ∙ length-append (power_code (n / 2)) (Unary Square ∷ Get base ∷ Binary Multiply ∷ [])

-- how long the codes of powers are
pub ruleset sizes = (size_one, size_even, size_odd)

-- the codes of powers, and how long they are
pub ruleset powers = (power_one, power_even, power_odd, size_one, size_even, size_odd)
