-- The outcome of code on the tested machine, and its consequence for the derivative that the code was compiled from.
use Rattle.std.specs.Prelude.{◌≡◌, ℕ, zero, suc, ◌+◌, ℤ, List, length, Option, Some, None, Result, Ok, Err}
use Rattle.std.specs.Option.{option_and_then}
use Rattle.kernel_code.specs.declared.instructions.Instr.{Instr}
use Rattle.kernel_code.specs.declared.traps.Trap.{Trap}
use Rattle.kernel_code.specs.declared.traps.TrapKind.{TrapKind}
use Rattle.kernel_code.specs.declared.traps.TrapKind.TheVariants.{Operation, MissingOperand, MissingLocal, MissingInput, StackFull, BadEnd}
use Rattle.kernel_code.specs.Code.{JumpsForward}
use Rattle.kernel_code.specs.Machine.{Ends, after, end_of, transition_at}
use Rattle.run_laws.specs.declared.tested_run.slope_faults.SlopeFault.{SlopeFault}

-- ---- the end of a run

-- the end of the code's run on these inputs after n instructions, if the run ends there
abbrev pub end_after : ℕ → List Instr → List ℤ → ℕ → Option (Result ℤ Trap)
end_after bits code inputs n = option_and_then (λ s. end_of s (transition_at bits code inputs s)) (after bits code inputs n)

abbrev pub or_else : {X : Type 0} → Option X → Option X → Option X
or_else (Some x) other = Some x
or_else None other = other

-- the first value among the `count` of f n, f (n + 1), ..
unfoldable pub first_from : {X : Type 0} → (ℕ → Option X) → (count n : ℕ) → Option X
first_from f zero n = None
first_from f (suc count) n = or_else (f n) (first_from f count (suc n))

-- The end of the run: a value or a trap. As every jump is forward, a run executes each instruction of the code at most
-- once.
unfoldable pub outcome_of : ℕ → List Instr → List ℤ → Option (Result ℤ Trap)
outcome_of bits code inputs = first_from (end_after bits code inputs) (length code + 1) 0

-- If all jumps of the code go forward, its outcome is the end of its run after some number of instructions, and no
-- other.
abbrev pub OutcomesAreEnds : Type 0
OutcomesAreEnds = (bits : ℕ) (code : List Instr) (inputs : List ℤ) (outcome : Result ℤ Trap) → JumpsForward code
    → (outcome_of bits code inputs ≡ Some outcome → (n : ℕ) × Ends bits code inputs n outcome)
    × ((n : ℕ) → Ends bits code inputs n outcome → outcome_of bits code inputs ≡ Some outcome)

-- ---- derivatives

-- the derivative if the run returns a value, and none if it traps
abbrev pub where_given : Option (Result ℤ Trap) → Option ℤ → Option ℤ
where_given None slope = None
where_given (Some (Ok v)) slope = slope
where_given (Some (Err trap)) slope = None

-- the instruction index and the fault of an operation's trap
abbrev pub operation_fault : ℕ → TrapKind → Option SlopeFault
operation_fault pc (Operation fault) = Some (record { pc = pc; fault = fault })
operation_fault pc MissingOperand = None
operation_fault pc MissingLocal = None
operation_fault pc MissingInput = None
operation_fault pc StackFull = None
operation_fault pc BadEnd = None

-- why the run returns no value
abbrev pub fault_of : Option (Result ℤ Trap) → Option SlopeFault
fault_of None = None
fault_of (Some (Ok v)) = None
fault_of (Some (Err trap)) = operation_fault trap.pc trap.kind
