-- Code generation, as functions from trees and programs to lists of instructions.
use Rattle.std.specs.Prelude.{ℕ, zero, suc, ◌+◌, ◌/◌, ◌%◌, ◌==◌, min, max, nat_lt, nat_le, ℤ, pos, negsuc, List, [], ◌∷◌, ◌++◌, length, Bool, true, false, if◌then◌else◌, Result, Ok, Err}
use Rattle.fixed.specs.Arithmetic.{one}
use Rattle.fixed.specs.declared.operations.Operator.{Operator}
use Rattle.fixed.specs.declared.operations.Operator.TheVariants as op
use Rattle.fixed.specs.declared.operations.UnaryOperator.TheVariants as unary
use Rattle.kernel_code.specs.declared.instructions.Instr.{Instr}
use Rattle.kernel_code.specs.declared.instructions.Instr.TheVariants.{Push, Input, Keep, Get, Binary, Unary, JumpIfZero, Jump}
use Rattle.energy_program.specs.Faults.{Refusal, TooLarge}
use Rattle.energy_program.specs.Tree.{Tree}
use Rattle.energy_program.specs.Tree as t
use Rattle.energy_program.specs.Uses.{is_marked, marks_of}

-- ---- registers (the machine's locals)

-- the local of a power's base
abbrev pub base : ℕ
base = 0

-- the local that helps to exchange two values
abbrev pub spare : ℕ
spare = 1

-- the local of the definition with this number
abbrev pub local_of : ℕ → ℕ
local_of j = j + 2

-- ---- powers of the base, by binary exponentiation

-- the code for exponent n, with at most `halvings` recursive halvings
unfoldable pub power_code_within : ℕ → ℕ → List Instr
power_code_within zero n = Get base ∷ []
power_code_within (suc halvings) n =
    if n == 1 then Get base ∷ []
    else if n % 2 == 0 then power_code_within halvings (n / 2) ++ (Unary unary.Square ∷ [])
    else power_code_within halvings (n / 2) ++ (Unary unary.Square ∷ Get base ∷ Binary op.Multiply ∷ [])

-- the code for exponent n; n halvings are enough
abbrev pub power_code : ℕ → List Instr
power_code n = power_code_within n n

-- raises the value on top of the stack, which becomes the base
abbrev pub raised_code : ℕ → ℤ → List Instr
raised_code bits (pos n) = Keep base ∷ power_code n
raised_code bits (negsuc n) = Keep base ∷ Push (one bits) ∷ (power_code (suc n) ++ (Binary op.Divide ∷ []))

-- ---- stack depth

abbrev pub raised_need : ℤ → ℕ
raised_need (pos n) = 2
raised_need (negsuc n) = 3

-- Operands are computed in their order, unless the second needs more stack than 47 values and than the first. The order
-- changes the stack depth only, never the value.
abbrev pub is_second_first : ℕ → ℕ → Bool
is_second_first first second = nat_lt (max 47 first) second

abbrev pub pair_need : Bool → ℕ → ℕ → ℕ
pair_need false first second = max first (second + 1)
pair_need true first second = max second (first + 1)

-- the stack depth of a tree's code, saturating at 65
abbrev pub stack_depth : Tree → ℕ
stack_depth (t.Negated a) = stack_depth a
stack_depth (t.Binary o a b) = min 65 (pair_need (is_second_first (stack_depth a) (stack_depth b)) (stack_depth a) (stack_depth b))
stack_depth (t.Applied g a) = stack_depth a
stack_depth (t.Power a n) = max (stack_depth a) (raised_need n)
stack_depth (t.Select x a b) = max (stack_depth x) (max (stack_depth a) (stack_depth b))
stack_depth _ = 1

-- ---- trees

-- exchanges two values whose second was computed first
abbrev pub exchange_code : List Instr
exchange_code = Keep spare ∷ Keep base ∷ Get spare ∷ Get base ∷ []

-- The code of an operation on two operands. Each operand's code is a function of the instruction index where it begins.
abbrev pub pair_code : Bool → Operator → ℕ → (ℕ → List Instr) → (ℕ → List Instr) → List Instr
pair_code false o at first second = let one = first at in one ++ (second (at + length one) ++ (Binary o ∷ []))
pair_code true o at first second = let two = second at in two ++ (first (at + length two) ++ (exchange_code ++ (Binary o ∷ [])))

-- The code of a choice: if the condition is 0 its jump skips the first branch; the first branch jumps over the second.
abbrev pub choice_code : ℕ → List Instr → (ℕ → List Instr) → (ℕ → List Instr) → List Instr
choice_code at condition first second =
    let one = at + length condition + 1 in
    let two = one + length (first one) + 1 in
    condition ++ (JumpIfZero two ∷ (first one ++ (Jump (two + length (second two)) ∷ second two)))

-- the code of a tree with `bits` fraction bits that begins at this instruction index
abbrev pub tree_code : (bits at : ℕ) → Tree → List Instr
tree_code bits at (t.Number c) = Push c.value ∷ []
tree_code bits at (t.Input i) = Input i ∷ []
tree_code bits at (t.Definition j) = Get (local_of j) ∷ []
tree_code bits at (t.Negated a) = tree_code bits at a ++ (Unary unary.Negate ∷ [])
tree_code bits at (t.Binary o a b) =
    pair_code (is_second_first (stack_depth a) (stack_depth b)) o at (λ p. tree_code bits p a) (λ p. tree_code bits p b)
tree_code bits at (t.Applied g a) = tree_code bits at a ++ (Unary (unary.Apply g) ∷ [])
tree_code bits at (t.Power a n) = tree_code bits at a ++ raised_code bits n
tree_code bits at (t.Select x a b) = choice_code at (tree_code bits at x) (λ p. tree_code bits p a) (λ p. tree_code bits p b)

-- ---- programs

abbrev pub kept_code : Bool → (bits at j : ℕ) → Tree → List Instr
kept_code true bits at j d = tree_code bits at d ++ (Keep (local_of j) ∷ [])
kept_code false bits at j d = []

-- the code of the marked definitions among these, which are numbered from j: the last first, each kept in its local
abbrev pub definitions_code : (bits j : ℕ) → List Bool → List Tree → List Instr
definitions_code bits j marks [] = []
definitions_code bits j marks (d ∷ ds) =
    let later = definitions_code bits (j + 1) marks ds in
    later ++ kept_code (is_marked marks j) bits (length later) j d

-- the code of the definitions that the body needs, then of the body
unfoldable pub program_code : ℕ → Tree → List Tree → List Instr
program_code bits body definitions =
    let first = definitions_code bits 0 (marks_of body definitions) definitions in
    first ++ tree_code bits (length first) body

-- ---- limits

-- At most 16,384 instructions. Locals are never too few: a program has at most 128 definitions, and there are 256.
unfoldable pub is_within_limits : List Instr → Bool
is_within_limits code = nat_le (length code) 16384

-- the program's code, or `TooLarge` if it exceeds the limit
abbrev pub compiled : ℕ → Tree → List Tree → Result (List Instr) Refusal
compiled bits body definitions =
    if is_within_limits (program_code bits body definitions) then Ok (program_code bits body definitions) else Err TooLarge
