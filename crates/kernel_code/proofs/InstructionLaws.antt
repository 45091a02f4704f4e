-- The line of an instruction: a line is parsed as an instruction exactly if it is this instruction's line.
use Rattle.std.proofs.Common.{◌≡◌, ◌==◌, ℕ, ◌^◌, ◌<◌, Bool, true, false, not, List, [], ◌∷◌, ◌++◌, Option, Some, None, option_map, codes, decimal, bytes_eq, if◌then◌else◌, refl, sym, ap, subst, ◌∙◌, true≢false, arith, lit<}
use Rattle.std.specs.Fmt.{signed_decimal}
use Rattle.line_text.specs.Parts.{lacks, split_once, natural_of, integer_of}
use Rattle.line_text.proofs.PartLaws.{same_bytes, natural_found, natural_again, integer_found, integer_again}
use Rattle.line_text.proofs.LineLaws.{lacks_append, decimal_lacks, signed_lacks, cut_found, cut_again, uncut}
use Rattle.std.specs.List.{list_all}
use Rattle.std.proofs.lemmas.Bool.{and_parts, and_from, ne_eqb}
use Rattle.fixed.specs.Operations.{operator_of_word, operator_word, unary_of_word, unary_word}
use Rattle.fixed.proofs.WordLaws.{is_lower_case, operator_again, operator_found, operator_letters, unary_again, unary_found, unary_letters}
use Rattle.fixed.specs.declared.operations.Operator.{Operator}
use Rattle.fixed.specs.declared.operations.UnaryOperator.{UnaryOperator}
use Rattle.kernel_code.specs.declared.instructions.Instr.{Instr}
use Rattle.kernel_code.specs.declared.instructions.Instr.TheVariants.{Push, Input, Keep, Get, Binary, Unary, JumpIfZero, Jump}
use Rattle.kernel_code.specs.Listing.{instruction_line, HasOperands}
use Rattle.kernel_code.specs.InstructionLines.{operation_or, operation_of, instruction_with, instruction_cut, instruction_of}

-- if a conditional gives y, then y is its first value and the test is true, or y is its second value
choose : {A : Type 0} (b : Bool) (o rest : Option A) (y : A) {P : Type 0} → (if b then o else rest) ≡ Some y → (b ≡ true → o ≡ Some y → P) → (rest ≡ Some y → P) → P
choose true o rest y e f g = f refl e
choose false o rest y e f g = g e

-- ---- words hold no space and no line feed

letters_lack : (c : ℕ) (word : List ℕ) → is_lower_case c ≡ false → list_all is_lower_case word ≡ true → lacks c word ≡ true
letters_lack c [] h all = refl
letters_lack c (x ∷ word) h all =
    let s = and_parts (is_lower_case x) (list_all is_lower_case word) all in
    let other : not (x == c) ≡ true = ap not (ne_eqb x c (λ same. true≢false (sym s.0 ∙ ap is_lower_case same ∙ h))) in
    and_from (not (x == c)) (lacks c word) other (letters_lack c word h s.1)

operator_lacks : (c : ℕ) (op : Operator) → is_lower_case c ≡ false → lacks c (operator_word op) ≡ true
operator_lacks c op h = letters_lack c (operator_word op) h (operator_letters op)

unary_lacks : (c : ℕ) (op : UnaryOperator) → is_lower_case c ≡ false → lacks c (unary_word op) ≡ true
unary_lacks c op h = letters_lack c (unary_word op) h (unary_letters op)

numbered_lacks : (name : List ℕ) (n : ℕ) → lacks 10 name ≡ true → n < 2 ^ 64 → lacks 10 (name ++ decimal n) ≡ true
numbered_lacks name n l h = lacks_append 10 name (decimal n) l (decimal_lacks 10 n (lit< tt) h)

-- an instruction's line has no line feed
pub instruction_lacks : (i : Instr) → HasOperands i → lacks 10 (instruction_line i) ≡ true
instruction_lacks (Push v) h = lacks_append 10 (codes "push ") (signed_decimal v) refl (signed_lacks 10 v (lit< tt) h)
instruction_lacks (Input k) h = numbered_lacks (codes "input ") k refl (omega arith)
instruction_lacks (Keep k) h = numbered_lacks (codes "keep ") k refl (omega arith)
instruction_lacks (Get k) h = numbered_lacks (codes "get ") k refl (omega arith)
instruction_lacks (Binary op) h = operator_lacks 10 op refl
instruction_lacks (Unary op) h = unary_lacks 10 op refl
instruction_lacks (JumpIfZero to) h = numbered_lacks (codes "jumpifzero ") to refl (omega arith)
instruction_lacks (Jump to) h = numbered_lacks (codes "jump ") to refl (omega arith)

-- ---- the line of an instruction is parsed as this instruction

cut_again_with : (name operand : List ℕ) → lacks 32 name ≡ true → instruction_of (name ++ 32 ∷ operand) ≡ instruction_with name operand
unfolding instruction_of
cut_again_with name operand l = ap (instruction_cut (name ++ 32 ∷ operand)) (cut_again 32 name operand l)

cut_again_alone : (name : List ℕ) → lacks 32 name ≡ true → instruction_of name ≡ operation_of name
unfolding instruction_of
cut_again_alone name l = ap (instruction_cut name) (uncut 32 name l)

-- the line of an instruction is parsed as this instruction
pub instruction_again : (i : Instr) → HasOperands i → instruction_of (instruction_line i) ≡ Some i
unfolding instruction_with
instruction_again (Push v) h = cut_again_with (codes "push") (signed_decimal v) refl ∙ ap (λ o. option_map Push o) (integer_again v h)
instruction_again (Input k) h = cut_again_with (codes "input") (decimal k) refl ∙ ap (λ o. option_map Input o) (natural_again 33 k h (omega arith))
instruction_again (Keep k) h = cut_again_with (codes "keep") (decimal k) refl ∙ ap (λ o. option_map Keep o) (natural_again 256 k h (omega arith))
instruction_again (Get k) h = cut_again_with (codes "get") (decimal k) refl ∙ ap (λ o. option_map Get o) (natural_again 256 k h (omega arith))
instruction_again (Binary op) h =
    cut_again_alone (operator_word op) (operator_lacks 32 op refl) ∙ ap (λ o. operation_or o (unary_of_word (operator_word op))) (operator_again op)
instruction_again (Unary op) h =
    cut_again_alone (unary_word op) (unary_lacks 32 op refl)
    ∙ ap (λ o. operation_or o (unary_of_word (unary_word op))) (unary_again op).0 ∙ ap (λ o. operation_or None o) (unary_again op).1
instruction_again (JumpIfZero to) h = cut_again_with (codes "jumpifzero") (decimal to) refl ∙ ap (λ o. option_map JumpIfZero o) (natural_again (2 ^ 32) to h (omega arith))
instruction_again (Jump to) h = cut_again_with (codes "jump") (decimal to) refl ∙ ap (λ o. option_map Jump o) (natural_again (2 ^ 32) to h (omega arith))

-- ---- a line that is parsed as an instruction is this instruction's line

abbrev Spelled : List ℕ → Instr → Type 0
Spelled line i = HasOperands i × (line ≡ instruction_line i)

mapped : {X : Type 0} (f : X → Instr) (o : Option X) (i : Instr) → option_map f o ≡ Some i → (x : X) × (o ≡ Some x) × (f x ≡ i)
mapped f None i e = absurd cc
mapped f (Some x) i e = (x, refl, cc)

-- an instruction with a natural number
numbered : (f : ℕ → Instr) (word : List ℕ) (limit : ℕ) → ((n : ℕ) → instruction_line (f n) ≡ word ++ 32 ∷ decimal n) → ((n : ℕ) → n < limit → HasOperands (f n))
    → (name operand : List ℕ) (i : Instr) → bytes_eq name word ≡ true → option_map f (natural_of limit operand) ≡ Some i → Spelled (name ++ 32 ∷ operand) i
numbered f word limit line fits name operand i b e =
    let m = mapped f (natural_of limit operand) i e in
    let n = natural_found limit operand m.0 m.1 in
    subst (Spelled (name ++ 32 ∷ operand)) m.2
    (fits m.0 n.1, ap (λ (w : List ℕ). w ++ 32 ∷ operand) (same_bytes name word b) ∙ ap (λ (t : List ℕ). word ++ 32 ∷ t) n.0 ∙ sym (line m.0))

pushed : (name operand : List ℕ) (i : Instr) → bytes_eq name (codes "push") ≡ true → option_map Push (integer_of operand) ≡ Some i → Spelled (name ++ 32 ∷ operand) i
pushed name operand i b e =
    let m = mapped Push (integer_of operand) i e in
    let z = integer_found operand m.0 m.1 in
    subst (Spelled (name ++ 32 ∷ operand)) m.2
    (z.1, ap (λ (w : List ℕ). w ++ 32 ∷ operand) (same_bytes name (codes "push") b) ∙ ap (λ (t : List ℕ). codes "push" ++ 32 ∷ t) z.0)

with_found : (name operand : List ℕ) (i : Instr) → instruction_with name operand ≡ Some i → Spelled (name ++ 32 ∷ operand) i
unfolding instruction_with
with_found name operand i e =
    choose (bytes_eq name (codes "push")) _ _ i e (pushed name operand i) (λ e.
    choose (bytes_eq name (codes "input")) _ _ i e (numbered Input (codes "input") 33 (λ n. refl) (λ n h. h) name operand i) (λ e.
    choose (bytes_eq name (codes "keep")) _ _ i e (numbered Keep (codes "keep") 256 (λ n. refl) (λ n h. h) name operand i) (λ e.
    choose (bytes_eq name (codes "get")) _ _ i e (numbered Get (codes "get") 256 (λ n. refl) (λ n h. h) name operand i) (λ e.
    choose (bytes_eq name (codes "jumpifzero")) _ _ i e (numbered JumpIfZero (codes "jumpifzero") (2 ^ 32) (λ n. refl) (λ n h. h) name operand i) (λ e.
    choose (bytes_eq name (codes "jump")) _ _ i e (numbered Jump (codes "jump") (2 ^ 32) (λ n. refl) (λ n h. h) name operand i) (λ e. absurd cc))))))

alone_found : (line : List ℕ) (i : Instr) (b : Option Operator) (u : Option UnaryOperator) → operator_of_word line ≡ b → unary_of_word line ≡ u
    → operation_or b u ≡ Some i → Spelled line i
alone_found line i (Some op) u eb eu e = let same : Binary op ≡ i = cc in subst (Spelled line) same (tt, operator_found line op eb)
alone_found line i None (Some op) eb eu e = let same : Unary op ≡ i = cc in subst (Spelled line) same (tt, unary_found line op eu)
alone_found line i None None eb eu e = absurd cc

-- if a line is parsed as an instruction, it is this instruction's line
pub instruction_found : (line : List ℕ) (i : Instr) → instruction_of line ≡ Some i → HasOperands i × (line ≡ instruction_line i)
unfolding instruction_of
instruction_found line i e = at (split_once 32 line) refl e
  where
    at : (o : Option (List ℕ × List ℕ)) → split_once 32 line ≡ o → instruction_cut line o ≡ Some i → Spelled line i
    at None c d = alone_found line i (operator_of_word line) (unary_of_word line) refl refl d
    at (Some p) c d =
        let s = with_found p.0 p.1 i d in
        (s.0, (cut_found 32 line p.0 p.1 c).0 ∙ s.1)
