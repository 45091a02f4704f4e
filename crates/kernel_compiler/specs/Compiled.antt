-- The correctness of compiled code: its runs compute the value of the program's tree.
use Rattle.std.specs.Prelude.{◌≡◌, ℕ, ◌⊎◌, ℤ, List, Some, None, IsSome, Result, Ok, Err}
use Rattle.kernel_code.specs.declared.instructions.Instr.{Instr}
use Rattle.kernel_code.specs.declared.traps.Trap.{Trap}
use Rattle.kernel_code.specs.Machine.{Ends, IsOperation}
use Rattle.fallible.specs.declared.failure.Failure.{Failure}
use Rattle.fallible.specs.declared.failure.Failure.TheVariants.{Refused}
use Rattle.energy_program.specs.declared.faults.ExprFault.{ExprFault}
use Rattle.energy_program.specs.declared.faults.ExprFault.TheVariants as fault
use Rattle.energy_program.specs.Tree.{Tree, meaning, substituted}
use Rattle.energy_program.specs.Value.{value_of}
use Rattle.energy_program.specs.Uses.{Needs}

-- a definition that the body uses, directly or through another, has no value on these inputs
pub record LacksDefinition (bits : ℕ) (body : Tree) (definitions : List Tree) (inputs : List ℤ) : Type 0 where
  pub number : ℕ
  pub needed : Needs body definitions number
  pub lacking : value_of bits inputs (meaning 0 definitions number) ≡ None

-- the code computes the program's value on these inputs, with `bits` fraction bits
pub record Computes (bits : ℕ) (body : Tree) (definitions : List Tree) (code : List Instr) (inputs : List ℤ) : Type 0 where
  -- a run's value is the tree's
  pub value : (n : ℕ) (v : ℤ) → Ends bits code inputs n (Ok v) → value_of bits inputs (substituted body definitions) ≡ Some v
  -- if the tree and each definition that the body uses have values, the run ends with the tree's value
  pub comes : (v : ℤ) → value_of bits inputs (substituted body definitions) ≡ Some v
      → ((k : ℕ) → Needs body definitions k → IsSome (value_of bits inputs (meaning 0 definitions k)))
      → (n : ℕ) × Ends bits code inputs n (Ok v)
  -- a trap is an operation's fault, and then the tree or a definition that the body uses has no value
  pub fault : (n : ℕ) (trap : Trap) → Ends bits code inputs n (Err trap)
      → IsOperation trap.kind × ((value_of bits inputs (substituted body definitions) ≡ None)
      ⊎ LacksDefinition bits body definitions inputs)
  -- every run ends
  pub ends : (n : ℕ) × (outcome : Result ℤ Trap) × Ends bits code inputs n outcome

-- ---- errors

abbrev pub IsTooLarge : {A X : Type 0} → Result X (Failure (ExprFault A)) → Type 0
IsTooLarge result = result ≡ Err (Refused fault.TooLarge)
