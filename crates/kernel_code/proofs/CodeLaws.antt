-- Lists of instructions: which of them are code, and what is wrong with the others.
use Rattle.std.proofs.Common.{◌≡◌, ℕ, ◌+◌, ◌<◌, ◌≤◌, true, false, List, length, get_or, Some, Result, Ok, Err, inl, inr, refl, sym, ap, subst, ◌∙◌, arith, slice_get}
use Rattle.std.proofs.lemmas.Bool.{cases_order}
use Rattle.std.proofs.lemmas.Option.{slice_get_read, slice_get_within}
use Rattle.kernel_code.specs.declared.instructions.Instr.{Instr}
use Rattle.kernel_code.specs.declared.faults.CodeFault.{CodeFault}
use Rattle.kernel_code.specs.declared.faults.CodeFault.TheVariants.{BadLine, BadTarget, TooLong}
use Rattle.kernel_code.specs.Code.{goes_forward, JumpsForward, IsCode, IsLowestBadJump, ChecksAs}

-- ---- index by index, as a loop does

-- the jumps before this index go forwards
abbrev pub GoForwardBefore : List Instr → ℕ → Type 0
GoForwardBefore is pc = (k : ℕ) → k < pc → (i : Instr) → slice_get is k ≡ Some i → goes_forward (length is) k i ≡ true

-- if the instruction at an index goes forwards, each instruction that is found there does
pub forward_here : (is : List Instr) (pc : ℕ) (x : Instr) → pc < length is → x ≡ get_or is pc x → goes_forward (length is) pc x ≡ true
    → (i : Instr) → slice_get is pc ≡ Some i → goes_forward (length is) pc i ≡ true
forward_here is pc x within here forward i e =
    let read = slice_get_read is (length is) pc x refl within here in
    let same : x ≡ i = cc in
    subst (λ (y : Instr). goes_forward (length is) pc y ≡ true) same forward

-- if the jumps before an index go forwards, and the instruction there doesn't, it is the first bad jump
pub bad_target : (is : List Instr) (pc : ℕ) (x : Instr) → length is ≤ 16384 → pc < length is → x ≡ get_or is pc x → goes_forward (length is) pc x ≡ false
    → GoForwardBefore is pc → ChecksAs is (Err (BadTarget (pc + 2)))
bad_target is pc x short within here bad before = record {
  short = short;
  pc = pc;
  lowest = record { jump = x; there = slice_get_read is (length is) pc x refl within here; bad = bad; lowest = before };
  line' = refl;
}

-- if the jumps before the end go forwards, all jumps do
pub all_forward : (is : List Instr) (pc : ℕ) → length is ≤ pc → GoForwardBefore is pc → JumpsForward is
all_forward is pc past before = λ k i e. before k (omega (arith, slice_get_within is k i e)) i e

-- ---- one result

lower : (is : List Instr) (p q : ℕ) → IsLowestBadJump is p → IsLowestBadJump is q → p < q → ⊥
lower is p q a b lt =
    let good : goes_forward (length is) p a.jump ≡ true = b.lowest p lt a.jump a.there in
    let bad = a.bad in
    cc

same_jump : (is : List Instr) (p q : ℕ) → IsLowestBadJump is p → IsLowestBadJump is q → p ≡ q
same_jump is p q a b =
    elim (cases_order p q) [
      | inl e ↦ e
      | inr o ↦ elim o [ inl lt ↦ absurd (lower is p q a b lt) | inr gt ↦ absurd (lower is q p b a gt) ]
    ]

-- code has no fault
pub code_has_no_fault : (is : List Instr) (fault : CodeFault) → IsCode is → ChecksAs is (Err fault) → ⊥
code_has_no_fault is (BadLine n) c h = h
code_has_no_fault is (BadTarget n) c h =
    let good : goes_forward (length is) h.pc h.lowest.jump ≡ true = c.forward h.pc h.lowest.jump h.lowest.there in
    let bad = h.lowest.bad in
    cc
code_has_no_fault is TooLong c h = omega (arith, c.short, h)

one_fault : (is : List Instr) (f g : CodeFault) → ChecksAs is (Err f) → ChecksAs is (Err g) → f ≡ g
one_fault is (BadTarget m) (BadTarget n) a b = ap (λ (k : ℕ). BadTarget k) (a.line' ∙ ap (λ (k : ℕ). k + 2) (same_jump is a.pc b.pc a.lowest b.lowest) ∙ sym b.line')
one_fault is (BadTarget m) TooLong a b = absurd (omega (arith, a.short, b))
one_fault is TooLong (BadTarget n) a b = absurd (omega (arith, b.short, a))
one_fault is TooLong TooLong a b = refl
one_fault is (BadLine m) g a b = absurd a
one_fault is f (BadLine n) a b = absurd b

-- a list of instructions has at most one result
pub checks_once : (is : List Instr) (r s : Result (List Instr) CodeFault) → ChecksAs is r → ChecksAs is s → r ≡ s
checks_once is (Ok c) (Ok d) a b = ap (λ (x : List Instr). Ok x) (a.0 ∙ sym b.0)
checks_once is (Ok c) (Err g) a b = absurd (code_has_no_fault is g (subst IsCode a.0 a.1) b)
checks_once is (Err f) (Ok d) a b = absurd (code_has_no_fault is f (subst IsCode b.0 b.1) a)
checks_once is (Err f) (Err g) a b = ap (λ (x : CodeFault). Err x) (one_fault is f g a b)
