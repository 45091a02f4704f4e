-- Listings: the text of code, one line per instruction. Every code has exactly one listing, and every text parses in
-- exactly one way.
use Rattle.std.specs.Prelude.{◌≡◌, ◌↔◌, ℕ, ◌+◌, ◌<◌, ◌^◌, List, [], ◌∷◌, ◌++◌, length, codes, decimal, Result, Ok, Err}
use Rattle.std.specs.Fmt.{signed_decimal}
use Rattle.std.specs.List.{flat_map, AllByRecursion}
use lib.Signed.{mag}
use Rattle.line_text.specs.Parts.{ended}
use Rattle.fixed.specs.Operations.{operator_word, unary_word}
use Rattle.kernel_code.specs.declared.instructions.Instr.{Instr}
use Rattle.kernel_code.specs.declared.instructions.Instr.TheVariants.{Push, Input, Keep, Get, Binary, Unary, JumpIfZero, Jump}
use Rattle.kernel_code.specs.declared.faults.CodeFault.{CodeFault}
use Rattle.kernel_code.specs.declared.faults.CodeFault.TheVariants.{BadLine}
use Rattle.kernel_code.specs.Code.{IsCode, ChecksAs}

-- the first line, without its LF
abbrev pub head_line : List ℕ
head_line = codes "pairmd code 1"

-- the line of an instruction, without its LF
abbrev pub instruction_line : Instr → List ℕ
instruction_line (Push v) = codes "push " ++ signed_decimal v
instruction_line (Input i) = codes "input " ++ decimal i
instruction_line (Keep k) = codes "keep " ++ decimal k
instruction_line (Get k) = codes "get " ++ decimal k
instruction_line (Binary op) = operator_word op
instruction_line (Unary op) = unary_word op
instruction_line (JumpIfZero to) = codes "jumpifzero " ++ decimal to
instruction_line (Jump to) = codes "jump " ++ decimal to

abbrev pub instruction_lines : List Instr → List ℕ
instruction_lines code = flat_map (λ i. ended (instruction_line i)) code

-- the listing of code
unfoldable pub listing_of : List Instr → List ℕ
listing_of code = ended head_line ++ instruction_lines code

-- each operand is in its range
abbrev pub HasOperands : Instr → Type 0
HasOperands (Push v) = mag v < 2 ^ 63
HasOperands (Input i) = i < 33
HasOperands (Keep k) = k < 256
HasOperands (Get k) = k < 256
HasOperands (Binary op) = Unit {0}
HasOperands (Unary op) = Unit {0}
HasOperands (JumpIfZero to) = to < 2 ^ 32
HasOperands (Jump to) = to < 2 ^ 32

-- code whose operands are in range, so that it has a listing
pub record IsListed (code : List Instr) : Type 0 where
  pub code' : IsCode code
  pub operands : AllByRecursion HasOperands code

-- ---- parsing

-- the text begins with this line and its LF
abbrev pub BeginsWithLine : (line text : List ℕ) → Type 0
BeginsWithLine line text = (rest : List ℕ) × (text ≡ ended line ++ rest)

-- the text doesn't begin with the line of an instruction whose operands are in range
abbrev pub BeginsWithNoInstruction : List ℕ → Type 0
BeginsWithNoInstruction text = (i : Instr) → HasOperands i → BeginsWithLine (instruction_line i) text → ⊥

-- the text has the lines of these instructions, and then a rest that doesn't begin with an instruction's line
pub record AreLines (text : List ℕ) (is : List Instr) (rest : List ℕ) : Type 0 where
  pub operands : AllByRecursion HasOperands is
  pub split : text ≡ instruction_lines is ++ rest
  pub stops : BeginsWithNoInstruction rest

-- The result of parsing if these are the instructions before the rest. If no rest is left, every line is good, and the
-- instructions are code or not. Otherwise the line after the instructions' lines is bad.
abbrev pub EndsAs : List Instr → (rest : List ℕ) → Result (List Instr) CodeFault → Type 0
EndsAs is [] result = ChecksAs is result
EndsAs is (x ∷ xs) result = result ≡ Err (BadLine (length is + 2))

-- the result of parsing the lines below the first
abbrev pub LinesParseAs : (text : List ℕ) → Result (List Instr) CodeFault → Type 0
LinesParseAs text result = (is : List Instr) × (rest : List ℕ) × AreLines text is rest × EndsAs is rest result

-- the result of parsing a text: its code, or the first error
pub data ParsesAs (text : List ℕ) (result : Result (List Instr) CodeFault) : Type 0 where
  bad_head : (BeginsWithLine head_line text → ⊥) → result ≡ Err (BadLine 1) → ParsesAs text result
  lines : (rest : List ℕ) → text ≡ ended head_line ++ rest → LinesParseAs rest result → ParsesAs text result

-- a text has at most one result
abbrev pub ParsesOnce : Type 0
ParsesOnce = (text : List ℕ) (r s : Result (List Instr) CodeFault) → ParsesAs text r → ParsesAs text s → r ≡ s

-- each text has a result
abbrev pub ParsesAlways : Type 0
ParsesAlways = (text : List ℕ) → (r : Result (List Instr) CodeFault) × ParsesAs text r

-- A text parses as code if and only if it is that code's listing.
abbrev pub OneListing : Type 0
OneListing = (text : List ℕ) (code : List Instr) → ParsesAs text (Ok code) ↔ (IsListed code × (text ≡ listing_of code))
