-- Code that computes a derivative gives it, and a pair of types has enough inputs for the code.
use Rattle.std.proofs.Common.{◌≡◌, ℕ, ◌<◌, ◌≤◌, ◌++◌, [], length-append, true, List, length, ℤ, arith, refl, sym, ◌∙◌, ⊎_elim, inl, inr}
use Rattle.std.specs.List.{All}
use Rattle.derivative.specs.Slope.{slope_of}
use Rattle.energy_program.specs.Tree.{Tree, substituted}
use Rattle.energy_program.specs.Tree as trees
use Rattle.energy_program.specs.Value.{value_of}
use Rattle.kernel_code.specs.declared.instructions.Instr.{Instr}
use Rattle.kernel_code.specs.declared.traps.TrapKind.{TrapKind}
use Rattle.kernel_code.specs.declared.traps.TrapKind.TheVariants.{Operation, MissingOperand, MissingLocal, MissingInput, StackFull, BadEnd}
use Rattle.kernel_code.specs.Code.{JumpsForward}
use Rattle.kernel_code.specs.Machine.{IsOperation}
use Rattle.kernel_code.specs.Tables.{Table, inputs_of, row_of}
use Rattle.kernel_compiler.specs.Compiled.{Computes}
use Rattle.energy_program.specs.Programs.{Trees}
use Rattle.potential.specs.CodeSlopes.{ComputesSlope, GivesSlope, is_operation}

-- ---- code of slopes

operation_is : (kind : TrapKind) → IsOperation kind → is_operation kind ≡ true
operation_is (Operation f) h = refl
operation_is MissingOperand h = absurd h
operation_is MissingLocal h = absurd h
operation_is MissingInput h = absurd h
operation_is StackFull h = absurd h
operation_is BadEnd h = absurd h

-- if code computes the derivative of an energy, the code's values are the derivative
pub gives : (bits : ℕ) (energy : Tree) (slope : Trees) (code : List Instr) (inputs : List ℤ) → ComputesSlope bits energy slope code inputs → GivesSlope bits energy code inputs
gives bits energy slope code inputs h = record {
  forward = h.forward;
  value = h.value;
  operation = λ n trap e. operation_is trap.kind (h.fault n trap e).0;
}

-- code that computes the slope's program computes the slope
pub computes : (bits : ℕ) (energy body : Tree) (definitions : List Tree) (code : List Instr) (inputs : List ℤ) → JumpsForward code
    → value_of bits inputs (substituted body definitions) ≡ slope_of bits inputs energy → Computes bits body definitions code inputs → ComputesSlope bits energy (body, definitions) code inputs
computes bits energy body definitions code inputs forward same h = record {
  forward = forward;
  value = λ n v e. sym same ∙ h.value n v e;
  comes = λ v e needed. h.comes v (same ∙ e) needed;
  fault = λ n trap e. let f = h.fault n trap e in (f.0, ⊎_elim (λ none. inl (sym same ∙ none)) (λ lacks. inr lacks) f.1);
  ends = h.ends;
}

-- ---- inputs

-- a pair of a table's types has at least one input for each variable of the energy
pub enough : (t : Table) (a b : ℕ) (r : ℤ) → All (λ row. length row ≡ t.parameters) t.rows → a < length t.rows → b < length t.rows
    → trees.variable_count t.parameters (length t.globals) ≤ length (inputs_of t a b r)
enough t a b r whole first second =
    omega (arith, length-append (row_of t a) (row_of t b ++ t.globals), length-append (row_of t b) t.globals, whole a [] first, whole b [] second)
