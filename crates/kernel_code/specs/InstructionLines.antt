-- The instruction of a line: the line's mnemonic, up to the first space, decides which operand the line has.
use Rattle.std.specs.Prelude.{ℕ, ◌^◌, List, codes, Option, Some, None, option_map, bytes_eq, if◌then◌else◌}
use Rattle.line_text.specs.Parts.{split_once, natural_of, integer_of}
use Rattle.fixed.specs.Operations.{operator_of_word, unary_of_word}
use Rattle.fixed.specs.declared.operations.Operator.{Operator}
use Rattle.fixed.specs.declared.operations.UnaryOperator.{UnaryOperator}
use Rattle.kernel_code.specs.declared.instructions.Instr.{Instr}
use Rattle.kernel_code.specs.declared.instructions.Instr.TheVariants.{Push, Input, Keep, Get, Binary, Unary, JumpIfZero, Jump}

-- the instruction of a line without an operand
abbrev pub operation_or : Option Operator → Option UnaryOperator → Option Instr
operation_or (Some op) u = Some (Binary op)
operation_or None (Some op) = Some (Unary op)
operation_or None None = None

abbrev pub operation_of : List ℕ → Option Instr
operation_of word = operation_or (operator_of_word word) (unary_of_word word)

-- the instruction with this mnemonic and operand
unfoldable pub instruction_with : List ℕ → List ℕ → Option Instr
instruction_with name operand =
    if bytes_eq name (codes "push") then option_map Push (integer_of operand)
    else if bytes_eq name (codes "input") then option_map Input (natural_of 33 operand)
    else if bytes_eq name (codes "keep") then option_map Keep (natural_of 256 operand)
    else if bytes_eq name (codes "get") then option_map Get (natural_of 256 operand)
    else if bytes_eq name (codes "jumpifzero") then option_map JumpIfZero (natural_of (2 ^ 32) operand)
    else if bytes_eq name (codes "jump") then option_map Jump (natural_of (2 ^ 32) operand)
    else None

-- the instruction of a line; the mnemonic ends at the first space
abbrev pub instruction_cut : List ℕ → Option (List ℕ × List ℕ) → Option Instr
instruction_cut line None = operation_of line
instruction_cut line (Some x) = instruction_with x.0 x.1

unfoldable pub instruction_of : List ℕ → Option Instr
instruction_of line = instruction_cut line (split_once 32 line)
