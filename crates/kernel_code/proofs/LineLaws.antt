-- The lines of a listing, one after another.
use Rattle.std.proofs.Common.{◌≡◌, ℕ, ◌<◌, List, [], ◌∷◌, ◌++◌, length, Option, Some, None, Result, refl, sym, ap, subst, ◌∙◌, append_assoc, arith, length-append}
use Rattle.line_text.specs.Parts.{split_once, ended}
use Rattle.line_text.proofs.LineLaws.{pair_is, cut_found, cut_shorter, line_cut, ended_then}
use Rattle.line_text.proofs.StepLaws.{none_is_no_some}
use Rattle.kernel_code.specs.declared.instructions.Instr.{Instr}
use Rattle.kernel_code.specs.declared.faults.CodeFault.{CodeFault}
use Rattle.kernel_code.specs.Listing.{instruction_line, instruction_lines, HasOperands, BeginsWithNoInstruction, AreLines, EndsAs, LinesParseAs}
use Rattle.kernel_code.specs.InstructionLines.{instruction_of}
use Rattle.kernel_code.proofs.CodeLaws.{checks_once}
use Rattle.kernel_code.proofs.InstructionLaws.{instruction_found, instruction_again, instruction_lacks}

-- ---- the first line

cut_line : (i : Instr) (rest : List ℕ) → HasOperands i → split_once 10 (ended (instruction_line i) ++ rest) ≡ Some (instruction_line i, rest)
cut_line i rest h = line_cut (instruction_line i) rest (instruction_lacks i h)

-- if the first line is parsed as an instruction, it is this instruction's line, and the rest is shorter
pub line_found : (text line rest : List ℕ) (i : Instr) → split_once 10 text ≡ Some (line, rest) → instruction_of line ≡ Some i
    → HasOperands i × (text ≡ ended (instruction_line i) ++ rest) × (length rest < length text)
line_found text line rest i c e =
    let f = instruction_found line i e in (
      f.0,
      (cut_found 10 text line rest c).0 ∙ ap (λ (l : List ℕ). l ++ 10 ∷ rest) f.1 ∙ sym (ended_then (instruction_line i) rest),
      omega (arith, cut_shorter 10 text line rest c),
    )

-- a text without a line feed begins with no instruction's line
pub no_line : (text : List ℕ) → split_once 10 text ≡ None → BeginsWithNoInstruction text
no_line text c = λ i h b. none_is_no_some (instruction_line i, b.0) (sym c ∙ ap (split_once 10) b.1 ∙ cut_line i b.0 h)

-- if the first line is parsed as no instruction, the text begins with no instruction's line
pub no_instruction : (text line rest : List ℕ) → split_once 10 text ≡ Some (line, rest) → instruction_of line ≡ None → BeginsWithNoInstruction text
no_instruction text line rest c e = λ i h b.
    let p = pair_is line (instruction_line i) rest b.0 (sym c ∙ ap (split_once 10) b.1 ∙ cut_line i b.0 h) in
    none_is_no_some i (sym e ∙ ap instruction_of p.0 ∙ instruction_again i h)

-- the empty text begins with no instruction's line
pub nothing_begins : BeginsWithNoInstruction []
nothing_begins = λ i h b. omega (arith, ap length b.1, length-append (ended (instruction_line i)) b.0, length-append (instruction_line i) (10 ∷ []))

first_line : (i j : Instr) (r s : List ℕ) → HasOperands i → HasOperands j → ended (instruction_line i) ++ r ≡ ended (instruction_line j) ++ s → (i ≡ j) × (r ≡ s)
first_line i j r s h k e =
    let p = pair_is (instruction_line i) (instruction_line j) r s (sym (cut_line i r h) ∙ ap (split_once 10) e ∙ cut_line j s k) in
    let same : ◌≡◌ {A = Option Instr} (Some i) (Some j) = sym (instruction_again i h) ∙ ap instruction_of p.0 ∙ instruction_again j k in
    (cc, p.1)

-- ---- one result

same_lines : (xs ys : List Instr) (text r s : List ℕ) → AreLines text xs r → AreLines text ys s → (xs ≡ ys) × (r ≡ s)
same_lines [] [] text r s p q = (refl, sym p.split ∙ q.split)
same_lines [] (j ∷ ys) text r s p q =
    absurd (p.stops j q.operands.0 (instruction_lines ys ++ s, sym p.split ∙ q.split ∙ append_assoc (ended (instruction_line j)) (instruction_lines ys) s))
same_lines (i ∷ xs) [] text r s p q =
    absurd (q.stops i p.operands.0 (instruction_lines xs ++ r, sym q.split ∙ p.split ∙ append_assoc (ended (instruction_line i)) (instruction_lines xs) r))
same_lines (i ∷ xs) (j ∷ ys) text r s p q =
    let left : List ℕ = instruction_lines xs ++ r in
    let first = first_line i j left (instruction_lines ys ++ s) p.operands.0 q.operands.0
    (sym (append_assoc (ended (instruction_line i)) (instruction_lines xs) r) ∙ sym p.split ∙ q.split ∙ append_assoc (ended (instruction_line j)) (instruction_lines ys) s) in
    let later = same_lines xs ys left r s (record { operands = p.operands.1; split = refl; stops = p.stops }) (record { operands = q.operands.1; split = first.1; stops = q.stops }) in
    (cc (first.0, later.0), later.1)

ends_once : (is : List Instr) (rest : List ℕ) (r s : Result (List Instr) CodeFault) → EndsAs is rest r → EndsAs is rest s → r ≡ s
ends_once is [] r s a b = checks_once is r s a b
ends_once is (x ∷ xs) r s a b = a ∙ sym b

-- the lines have at most one result
pub lines_once : (text : List ℕ) (r s : Result (List Instr) CodeFault) → LinesParseAs text r → LinesParseAs text s → r ≡ s
lines_once text r s a b =
    let same = same_lines a.0 b.0 text a.1 b.1 a.2 b.2 in
    ends_once b.0 b.1 r s (subst (λ (is : List Instr). EndsAs is b.1 r) same.0 (subst (λ (t : List ℕ). EndsAs a.0 t r) same.1 a.3)) b.3
