-- A text has a result: its lines are instructions up to the end or to a bad line, and instructions are code or not.
use Rattle.std.proofs.Common.{◌≡◌, ◌⊎◌, ℕ, zero, suc, ◌+◌, ◌<◌, ◌≤◌, Bool, true, false, List, [], ◌∷◌, ◌++◌, length, Option, Some, None, Result, Ok, Err, inl, inr, refl, sym, ap, subst, ◌∙◌, append_assoc, arith, slice_get}
use Rattle.std.proofs.lemmas.Bool.{cases_eq, cases_lt}
use Rattle.line_text.specs.Parts.{after, split_once, ended}
use Rattle.line_text.proofs.LineLaws.{after_found}
use Rattle.kernel_code.specs.declared.instructions.Instr.{Instr}
use Rattle.kernel_code.specs.declared.faults.CodeFault.{CodeFault}
use Rattle.kernel_code.specs.declared.faults.CodeFault.TheVariants.{BadLine, BadTarget, TooLong}
use Rattle.kernel_code.specs.Code.{ChecksAs, IsLowestBadJump, goes_forward}
use Rattle.kernel_code.specs.InstructionLines.{instruction_of}
use Rattle.kernel_code.specs.Listing.{AreLines, EndsAs, LinesParseAs, ParsesAlways, ParsesAs, bad_head, head_line, instruction_line, instruction_lines, lines}
use Rattle.kernel_code.proofs.CodeLaws.{GoForwardBefore, all_forward}
use Rattle.kernel_code.proofs.LineLaws.{line_found, no_instruction, no_line}
use Rattle.kernel_code.proofs.ListingLaws.{no_head}

-- ---- code

module _ (is : List Instr) where
  one_more : (pc : ℕ) → GoForwardBefore is pc → ((i : Instr) → slice_get is pc ≡ Some i → goes_forward (length is) pc i ≡ true) → GoForwardBefore is (suc pc)
  one_more pc before here k within i e = at (cases_eq k pc)
    where
      at : (k ≡ pc) ⊎ (k ≡ pc → ⊥) → goes_forward (length is) k i ≡ true
      at (inl same) = subst (λ (j : ℕ). goes_forward (length is) j i ≡ true) (sym same) (here i (ap (slice_get is) (sym same) ∙ e))
      at (inr other) =
          let lower : k < pc = grind (arith, within, other) in
          before k lower i e

  -- the jumps before an index go forwards, or one of them is the first bad jump
  jumps_give : (pc : ℕ) → GoForwardBefore is pc ⊎ ((k : ℕ) × IsLowestBadJump is k)
  jumps_give zero = inl (λ k within. absurd (omega (arith, within)))
  jumps_give (suc pc) = from (jumps_give pc)
    where
      good : GoForwardBefore is pc → (x : Instr) → slice_get is pc ≡ Some x → (b : Bool) → goes_forward (length is) pc x ≡ b → GoForwardBefore is (suc pc) ⊎ ((k : ℕ) × IsLowestBadJump is k)
      good before x there true g = inl (one_more pc before (λ i e. let same : x ≡ i = cc in subst (λ (y : Instr). goes_forward (length is) pc y ≡ true) same g))
      good before x there false g = inr (pc, record { jump = x; there = there; bad = g; lowest = before })

      at : GoForwardBefore is pc → (o : Option Instr) → slice_get is pc ≡ o → GoForwardBefore is (suc pc) ⊎ ((k : ℕ) × IsLowestBadJump is k)
      at before None none = inl (one_more pc before (λ i e. absurd cc))
      at before (Some x) there = good before x there (goes_forward (length is) pc x) refl

      from : GoForwardBefore is pc ⊎ ((k : ℕ) × IsLowestBadJump is k) → GoForwardBefore is (suc pc) ⊎ ((k : ℕ) × IsLowestBadJump is k)
      from (inl before) = at before (slice_get is pc) refl
      from (inr bad) = inr bad

  -- the instructions are code, or no code for a reason
  checks_give : (r : Result (List Instr) CodeFault) × ChecksAs is r
  checks_give = at (cases_lt 16384 (length is)) (jumps_give (length is))
    where
      at : (16384 < length is) ⊎ (length is ≤ 16384) → GoForwardBefore is (length is) ⊎ ((k : ℕ) × IsLowestBadJump is k) → (r : Result (List Instr) CodeFault) × ChecksAs is r
      at (inl long) jumps = (Err TooLong, long)
      at (inr short) (inl forward) = (Ok is, (refl, record { short = short; forward = all_forward is (length is) (omega arith) forward }))
      at (inr short) (inr (k, bad)) = (Err (BadTarget (k + 2)), record { short = short; pc = k; lowest = bad; line' = refl })

-- ---- lines

-- the text has the lines of some instructions, and then no line of an instruction
abbrev HasLines : List ℕ → Type 0
HasLines text = (is : List Instr) × (rest : List ℕ) × AreLines text is rest

has_lines : (size : ℕ) (text : List ℕ) → length text < size → HasLines text
has_lines zero text less = absurd (omega (arith, less))
has_lines (suc size) text less = at (split_once 10 text) refl (λ rest fewer. has_lines size rest (omega (arith, less, fewer)))
  where
    by_value : (p : List ℕ × List ℕ) → split_once 10 text ≡ Some p → (o : Option Instr) → instruction_of p.0 ≡ o → ((rest : List ℕ) → length rest < length text → HasLines rest) → HasLines text
    by_value p c None e later = ([], text, record { operands = tt; split = refl; stops = no_instruction text p.0 p.1 c e })
    by_value p c (Some i) e later =
        let first = line_found text p.0 p.1 i c e in
        let others = later p.1 first.2 in
        let split : text ≡ (ended (instruction_line i) ++ instruction_lines others.0) ++ others.1 =
        first.1 ∙ ap (λ (t : List ℕ). ended (instruction_line i) ++ t) others.2.split ∙ sym (append_assoc (ended (instruction_line i)) (instruction_lines others.0) others.1) in
        (i ∷ others.0, others.1, record { operands = (first.0, others.2.operands); split = split; stops = others.2.stops })

    at : (o : Option (List ℕ × List ℕ)) → split_once 10 text ≡ o → ((rest : List ℕ) → length rest < length text → HasLines rest) → HasLines text
    at None c later = ([], text, record { operands = tt; split = refl; stops = no_line text c })
    at (Some p) c later = by_value p c (instruction_of p.0) refl later

lines_give : (text : List ℕ) → (r : Result (List Instr) CodeFault) × LinesParseAs text r
lines_give text = from (has_lines (suc (length text)) text (omega arith))
  where
    ends : (is : List Instr) (rest : List ℕ) → (r : Result (List Instr) CodeFault) × EndsAs is rest r
    ends is [] = checks_give is
    ends is (x ∷ xs) = (Err (BadLine (length is + 2)), refl)

    from : HasLines text → (r : Result (List Instr) CodeFault) × LinesParseAs text r
    from (is, rest, are) = let end = ends is rest in (end.0, (is, rest, are, end.1))

-- each text has a result
pub parses_always : ParsesAlways
parses_always text = at (after (ended head_line) text) refl
  where
    at : (o : Option (List ℕ)) → after (ended head_line) text ≡ o → (r : Result (List Instr) CodeFault) × ParsesAs text r
    at None e = (Err (BadLine 1), bad_head (no_head text e) refl)
    at (Some rest) e = let below = lines_give rest in (below.0, lines rest (after_found (ended head_line) text rest e) below.1)
