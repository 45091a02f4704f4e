-- Compiled slope code: each value that the code returns is the derivative of the energy, and each trap comes from an
-- operation.
use Rattle.std.specs.Prelude.{◌≡◌, ℕ, ◌⊎◌, ℤ, Bool, true, false, List, Some, None, IsSome, Result, Ok, Err}
use Rattle.derivative.specs.Slope.{slope_of}
use Rattle.energy_program.specs.Tree.{Tree, meaning}
use Rattle.energy_program.specs.Value.{value_of}
use Rattle.kernel_code.specs.declared.instructions.Instr.{Instr}
use Rattle.kernel_code.specs.declared.traps.Trap.{Trap}
use Rattle.kernel_code.specs.declared.traps.TrapKind.{TrapKind}
use Rattle.kernel_code.specs.declared.traps.TrapKind.TheVariants.{Operation, MissingOperand, MissingLocal, MissingInput, StackFull, BadEnd}
use Rattle.kernel_code.specs.Code.{JumpsForward}
use Rattle.kernel_code.specs.Machine.{Ends, IsOperation}
use Rattle.kernel_compiler.specs.Compiled.{LacksDefinition}
use Rattle.energy_program.specs.Uses.{Needs}
use Rattle.energy_program.specs.Programs.{Trees}

-- the trap comes from an operation, not from malformed code
abbrev pub is_operation : TrapKind → Bool
is_operation (Operation fault) = true
is_operation MissingOperand = false
is_operation MissingLocal = false
is_operation MissingInput = false
is_operation StackFull = false
is_operation BadEnd = false

-- Jumps of the code go forward. On these inputs a returned value is the derivative of the energy, and a trap is the
-- trap of an operation.
pub record GivesSlope (bits : ℕ) (energy : Tree) (code : List Instr) (inputs : List ℤ) : Type 0 where
  pub forward : JumpsForward code
  pub value : (n : ℕ) (v : ℤ) → Ends bits code inputs n (Ok v) → slope_of bits inputs energy ≡ Some v
  pub operation : (n : ℕ) (trap : Trap) → Ends bits code inputs n (Err trap) → is_operation trap.kind ≡ true

-- The code computes the derivative of the energy on these inputs. `slope` is the derivative's program, a body and its
-- definitions.
pub record ComputesSlope (bits : ℕ) (energy : Tree) (slope : Trees) (code : List Instr) (inputs : List ℤ) : Type 0 where
  pub forward : JumpsForward code
  -- a returned value is the energy's derivative
  pub value : (n : ℕ) (v : ℤ) → Ends bits code inputs n (Ok v) → slope_of bits inputs energy ≡ Some v
  -- if the derivative has a value, and each definition that its program uses has one, the run returns the derivative
  pub comes : (v : ℤ) → slope_of bits inputs energy ≡ Some v
      → ((k : ℕ) → Needs slope.0 slope.1 k → IsSome (value_of bits inputs (meaning 0 slope.1 k)))
      → (n : ℕ) × Ends bits code inputs n (Ok v)
  -- a trap comes from an operation, and only if the derivative or such a definition has no value
  pub fault : (n : ℕ) (trap : Trap) → Ends bits code inputs n (Err trap)
      → IsOperation trap.kind × ((slope_of bits inputs energy ≡ None) ⊎ LacksDefinition bits slope.0 slope.1 inputs)
  -- every run ends
  pub ends : (n : ℕ) × (outcome : Result ℤ Trap) × Ends bits code inputs n outcome
