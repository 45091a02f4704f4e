-- Listings: a text parses in one way, and exactly the listing of code parses as this code.
use Rattle.std.proofs.Common.{◌≡◌, ℕ, ◌≤◌, List, [], ◌∷◌, ◌++◌, length, take, Option, Some, None, Ok, refl, sym, ap, subst, ◌∙◌, append-nil, take_all}
use Rattle.std.specs.List.{AllByRecursion}
use Rattle.line_text.specs.Parts.{after, ended}
use Rattle.line_text.proofs.LineLaws.{after_again}
use Rattle.line_text.proofs.StepLaws.{none_is_no_some}
use Rattle.kernel_code.specs.declared.instructions.Instr.{Instr}
use Rattle.kernel_code.specs.Code.{IsCode}
use Rattle.kernel_code.specs.Listing.{head_line, instruction_lines, BeginsWithLine, HasOperands, IsListed, listing_of, AreLines, EndsAs, LinesParseAs, ParsesAs, bad_head, lines, ParsesOnce, OneListing}
use Rattle.kernel_code.proofs.LineLaws.{nothing_begins, lines_once}

-- ---- the first line

-- a text that isn't cut after a listing's first line doesn't begin with that line
pub no_head : (text : List ℕ) → after (ended head_line) text ≡ None → BeginsWithLine head_line text → ⊥
no_head text e b = none_is_no_some b.0 (sym e ∙ ap (after (ended head_line)) b.1 ∙ after_again (ended head_line) b.0)

-- ---- one result

-- the lines below the first are the same however they are found
same_rest : (text a b : List ℕ) → text ≡ ended head_line ++ a → text ≡ ended head_line ++ b → a ≡ b
same_rest text a b p q =
    let same : ◌≡◌ {A = Option (List ℕ)} (Some a) (Some b) = sym (after_again (ended head_line) a) ∙ ap (after (ended head_line)) (sym p ∙ q) ∙ after_again (ended head_line) b in
    cc

-- a text has at most one result
pub parses_once : ParsesOnce
parses_once text r s (bad_head none e) (bad_head other f) = e ∙ sym f
parses_once text r s (bad_head none e) (lines b q k) = absurd (none (b, q))
parses_once text r s (lines a p h) (bad_head none f) = absurd (none (a, p))
parses_once text r s (lines a p h) (lines b q k) = lines_once b r s (subst (λ (t : List ℕ). LinesParseAs t r) (same_rest text a b p q) h) k

-- ---- listings

found : (text : List ℕ) (code : List Instr) → ParsesAs text (Ok code) → IsListed code × (text ≡ listing_of code)
unfolding listing_of
found text code (bad_head none e) = absurd cc
found text code (lines rest split h) = ends h.0 h.1 h.2 h.3
  where
    ends : (is : List Instr) (left : List ℕ) → AreLines rest is left → EndsAs is left (Ok code) → IsListed code × (text ≡ listing_of code)
    ends is [] l c = (
      record { code' = c.1; operands = subst (AllByRecursion HasOperands) (sym c.0) l.operands },
      split ∙ ap (λ (t : List ℕ). ended head_line ++ t) (l.split ∙ append-nil (instruction_lines is) ∙ ap instruction_lines (sym c.0)),
    )
    ends is (x ∷ xs) l c = absurd cc

parsed : (text : List ℕ) (code : List Instr) → IsListed code → text ≡ listing_of code → ParsesAs text (Ok code)
unfolding listing_of
parsed text code h e = lines (instruction_lines code) e
    (code, [], record { operands = h.operands; split = sym (append-nil (instruction_lines code)); stops = nothing_begins }, (refl, h.code'))

-- exactly the listing of code parses as this code
pub one_listing : OneListing
one_listing text code = (found text code, λ h. parsed text code h.0 h.1)

-- ---- line by line, as a loop prints

-- once all lines are printed, the text is the listing
pub printed : (xs : List Instr) (k : ℕ) (text : List ℕ) → length xs ≤ k → text ≡ ended head_line ++ instruction_lines (take k xs) → text ≡ listing_of xs
unfolding listing_of
printed xs k text past e = e ∙ ap (λ (l : List Instr). ended head_line ++ instruction_lines l) (take_all k xs past)

-- a code whose instructions were all seen to have operands in range has a listing
pub is_listed : (xs : List Instr) (k : ℕ) → length xs ≤ k → IsCode xs → AllByRecursion HasOperands (take k xs) → IsListed xs
is_listed xs k past c h = record { code' = c; operands = subst (AllByRecursion HasOperands) (take_all k xs past) h }
