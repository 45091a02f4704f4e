-- Searches of pieces, of slices and of pairs, one after another.
use Rattle.std.proofs.Common.{◌≡◌, ◌≢◌, ℕ, zero, suc, ◌+◌, ◌-◌, ◌<◌, ◌≤◌, List, Result, Ok, Err, refl, sym, ◌∙◌, subst, arith, ⊎_elim, inl, inr, ◌<ℤ◌, max, below_more, ◌⊎◌}
use Rattle.std.proofs.lemmas.Bool.{cases_lt}
use Rattle.fallible.specs.Failures.{IfRefused}
use Rattle.fallible.specs.declared.failure.Failure.{Failure}
use Rattle.fallible.specs.declared.failure.Failure.TheVariants.{Refused, Memory}
use Rattle.fixed.specs.declared.faults.Fault.{Fault}
use Rattle.interval_domain.specs.declared.span.Span.{Span}
use Rattle.interval_domain.specs.Spans.{AreHalves}
use Rattle.kernel_code.specs.declared.instructions.Instr.{Instr}
use Rattle.kernel_code.specs.Code.{IsCode}
use Rattle.kernel_code.specs.Paths.{MissesNothing}
use Rattle.kernel_code.specs.Tables.{Table}
use Rattle.verifier.specs.declared.faults.VerifyFault.{VerifyFault}
use Rattle.verifier.specs.declared.faults.VerifyFault.TheVariants as fault
use Rattle.verifier.specs.Safety.{input_count}
use Rattle.verifier.specs.Verdicts.{Answer, IsAtEnds, IsFirstRefused, IsFoundOf, IsGreatest, IsInTurn, IsPieceAnswer, IsRest, IsStopped, IsVerdict, Range, UnlessMemory, stopped}
use Rattle.verifier.proofs.Soundness.{all_found}

-- ---- out of memory

-- a consequence of an answer's meaning
pub unless_weaker : (P Q : Answer → Type 0) (r : Result ℕ (Failure VerifyFault)) → ((x : Answer) → P x → Q x) → UnlessMemory P r → UnlessMemory Q r
unless_weaker P Q (Ok bound) g h = g (Ok bound) h
unless_weaker P Q (Err (Refused f)) g h = g (Err f) h
unless_weaker P Q (Err Memory) g h = tt

-- a consequence of a failure's meaning, which need hold only for refusals
pub unless_err : (P Q : Answer → Type 0) (failure : Failure VerifyFault) → ((f : VerifyFault) → P (Err f) → Q (Err f)) → UnlessMemory P (Err failure) → UnlessMemory Q (Err failure)
unless_err P Q (Refused f) g h = g f h
unless_err P Q Memory g h = tt

-- ---- answers in their order

-- the greater of two magnitudes, of the answers so far and of the next one, is the greatest of them all
pub greatest_more : (A : ℕ → Answer → Type 0) (n x y z : ℕ) → IsGreatest A n x → A n (Ok y) → z ≡ max x y → IsGreatest A (n + 1) z
greatest_more A n x y z g h e = record {
  each = below_more (λ i. (w : ℕ) × A i (Ok w) × (w ≤ z)) n
      (λ i lt. let b = g.each i lt in let le = b.2 in (b.0, b.1, (omega (arith, e, le))))
      (y, h, (omega (arith, e)));
  attained = attained;
}
  where
    attained : (z ≡ 0) ⊎ ((i : ℕ) × (i < n + 1) × A i (Ok z))
    attained =
        ⊎_elim
        (λ (lt : x < y).
        let same : y ≡ z = omega (arith, e, lt) in
        inr (n, (omega arith), subst (λ (w : ℕ). A n (Ok w)) same h))
        (λ (le : y ≤ x).
        let same : x ≡ z = omega (arith, e, le) in
        ⊎_elim
        (λ (none : x ≡ 0). inl (sym same ∙ none))
        (λ (b : (i : ℕ) × (i < n) × A i (Ok x)). let lt = b.1 in inr (b.0, (omega (arith, lt)), subst (λ (w : ℕ). A b.0 (Ok w)) same b.2))
        g.attained)
        (cases_lt x y)

-- the greatest of no magnitudes
pub greatest_none : (A : ℕ → Answer → Type 0) → IsGreatest A 0 0
greatest_none A = record { each = λ i lt. absurd (omega (arith, lt)); attained = inl refl }

-- an answer that is the magnitude of an earlier one changes no greatest magnitude
pub greatest_again : (A : ℕ → Answer → Type 0) (n x j : ℕ)
    → IsGreatest A n x → j < n → ((y : ℕ) → A j (Ok y) → A n (Ok y)) → IsGreatest A (n + 1) x
greatest_again A n x j g lt h = let e = g.each j lt in let le = e.2 in greatest_more A n x e.0 x g (h e.0 e.1) (omega (arith, le))

-- if each magnitude is one of other answers, the greatest is theirs
pub greatest_too : (A B : ℕ → Answer → Type 0) (n x : ℕ) → ((i y : ℕ) → A i (Ok y) → B i (Ok y)) → IsGreatest A n x → IsGreatest B n x
greatest_too A B n x h g = record {
  each = λ i lt. let e = g.each i lt in (e.0, h i e.0 e.1, e.2);
  attained = ⊎_elim (λ (none : x ≡ 0). inl none) (λ (b : (i : ℕ) × (i < n) × A i (Ok x)). inr (b.0, b.1, h b.0 x b.2)) g.attained;
}

-- a refusal after answers that are all magnitudes is the first refusal
pub first_refused : (A : ℕ → Answer → Type 0) (i n x : ℕ) (f : VerifyFault) → IsGreatest A i x → i < n → A i (Err f) → IsFirstRefused A n f
first_refused A i n x f g lt h = record { at = i; within = lt; refuses = h; before = λ j below. let b = g.each j below in (b.0, b.1) }

-- ---- pieces

-- for an interval with a possible fault that isn't bisected further, the ends' answer is the interval's answer
pub at_ends : (code : List Instr) (t : Table) (a b : ℕ) (s : Span) (pc : ℕ) (kind : Fault) (answer : Answer) → s.lo <ℤ s.hi → IsStopped code t a b s pc kind → IsAtEnds code t a b s pc kind answer → IsPieceAnswer code t a b 0 s answer
unfolding IsRest
at_ends code t a b s pc kind answer lt p h = stopped lt p h

-- for an interval with a possible fault that is bisected, the halves' answer, lower first, is the interval's answer
pub of_halves : (code : List Instr) (t : Table) (a b depth : ℕ) (s l u : Span) (pc : ℕ) (kind : Fault) (answer : Answer) → depth ≢ 0 → s.lo <ℤ s.hi → IsStopped code t a b s pc kind → AreHalves s l u
    → IsInTurn (IsPieceAnswer code t a b (depth - 1) l) (IsPieceAnswer code t a b (depth - 1) u) (λ x y. Ok (max x y)) answer → IsPieceAnswer code t a b depth s answer
unfolding IsRest
of_halves code t a b zero s l u pc kind answer n lt p h both = absurd (n refl)
of_halves code t a b (suc d) s l u pc kind answer n lt p h both =
    let e : suc d - 1 ≡ d = omega arith in
    stopped lt p (record { lower = l; upper = u; halves = h; both = subst (λ (k : ℕ). IsInTurn (IsPieceAnswer code t a b k l) (IsPieceAnswer code t a b k u) (λ x y. Ok (max x y)) answer) e both })

-- ---- the verdict

-- if no path of the code misses anything, a refusal by the search is the verdict
pub refused_verdict : (code : List Instr) (t : Table) (g : Range) (failure : Failure VerifyFault) → IsCode code → MissesNothing code (input_count t) → 0 < g.slices → UnlessMemory (IsFoundOf code t g) (Err failure) → IfRefused failure (λ f. IsVerdict code t g (Err f))
refused_verdict code t g (Refused (fault.Malformed pc)) is misses some h =
    absurd (all_found code t g is.forward some (fault.Malformed pc) h)
refused_verdict code t g (Refused (fault.DepthOver64 pc)) is misses some h =
    absurd (all_found code t g is.forward some (fault.DepthOver64 pc) h)
refused_verdict code t g (Refused _) is misses some h = record { is_code = is; misses = misses; found = h }
refused_verdict code t g Memory is misses some h = tt
