-- The result of the path analysis is unique.
use Rattle.std.proofs.Common.{◌≡◌, ◌≢◌, ℕ, ◌<◌, ◌≤◌, ◌⊎◌, inl, inr, List, length, Result, Ok, Err, sym, ap, subst, arith, ⊎_elim}
use Rattle.std.proofs.lemmas.Bool.{cases_lt}
use Rattle.std.proofs.lemmas.Option.{slice_get_within}
use Rattle.kernel_code.specs.declared.instructions.Instr.{Instr}
use Rattle.kernel_code.specs.Code.{JumpsForward}
use Rattle.kernel_code.proofs.PathLaws.{path_within}
use Rattle.verifier.proofs.Refusals.{no_misfit}
use Rattle.verifier.specs.declared.faults.VerifyFault.{VerifyFault}
use Rattle.verifier.specs.declared.faults.VerifyFault.TheVariants.{Malformed, DepthOver64}
use Rattle.verifier.specs.Misfits.{AreSupplied, Fits, IsFirstMalformed, IsFirstOverfull, IsLevel, IsMalformedAt, IsPathResult, IsWellFormed, Overfills}

-- an index before the end isn't malformed if all paths to it have the same height and supply its instruction
well_formed : (code : List Instr) (inputs pc : ℕ) → IsLevel code pc → AreSupplied code inputs pc → pc ≢ length code → IsMalformedAt code inputs pc → ⊥
well_formed code inputs pc level supplied on (inl l) = l.fails (supplied l.n l.height l.set l.instr l.path l.there)
well_formed code inputs pc level supplied on (inr (inl u)) = u.different (level u.n u.n' u.height u.height' u.set u.set' u.one u.other)
well_formed code inputs pc level supplied on (inr (inr e)) = on e.last

roomy : (code : List Instr) (inputs pc : ℕ) → Fits code inputs pc → Overfills code pc → ⊥
roomy code inputs pc f o = o.fails (f.room o.n o.height o.set o.instr o.path o.there)

-- the length of the longest path is unique
one_length : (code : List Instr) (inputs m n : ℕ) → IsWellFormed code inputs m → IsWellFormed code inputs n → m ≡ n
one_length code inputs m n a b =
    let p = a.longest.taken in
    let q = b.longest.taken in
    let le = a.longest.most n q.0 q.1 q.2 in
    let ge = b.longest.most m p.0 p.1 p.2 in
    omega arith

-- ---- two refusals

-- an index with an error is at most the code's length
wrong_within : (code : List Instr) (inputs pc : ℕ) → JumpsForward code → IsMalformedAt code inputs pc ⊎ Overfills code pc
    → pc ≤ length code
wrong_within code inputs pc forward (inl (inl l)) = path_within code forward l.path
wrong_within code inputs pc forward (inl (inr (inl u))) = path_within code forward u.one
wrong_within code inputs pc forward (inl (inr (inr e))) = path_within code forward e.path
wrong_within code inputs pc forward (inr o) = path_within code forward o.path

-- if no index below q has an error and p has one, q is at most p
not_above : (code : List Instr) (inputs p q : ℕ) → ((k : ℕ) → k < q → Fits code inputs k) → q ≤ length code
    → IsMalformedAt code inputs p ⊎ Overfills code p → q ≤ p
not_above code inputs p q below within wrong =
    ⊎_elim
    (λ (lt : p < q).
    let f = below p lt in
    let on : p ≢ length code = omega arith in
    absurd (⊎_elim (well_formed code inputs p f.level f.supplied on) (roomy code inputs p f) wrong))
    (λ le. le)
    (cases_lt p q)

-- two indices with errors, below which no index has an error, are equal
same_index : (code : List Instr) (inputs p q : ℕ) → JumpsForward code → ((k : ℕ) → k < p → Fits code inputs k)
    → ((k : ℕ) → k < q → Fits code inputs k) → IsMalformedAt code inputs p ⊎ Overfills code p
    → IsMalformedAt code inputs q ⊎ Overfills code q → p ≡ q
same_index code inputs p q forward below below' wrong wrong' =
    let le = not_above code inputs p q below' (wrong_within code inputs q forward wrong') wrong in
    let ge = not_above code inputs q p below (wrong_within code inputs p forward wrong) wrong' in
    omega arith

not_both : (code : List Instr) (inputs p q : ℕ) → JumpsForward code → IsFirstMalformed code inputs p → IsFirstOverfull code inputs q → ⊥
not_both code inputs p q forward a b =
    let within = slice_get_within code q b.overfills.instr b.overfills.there in
    let on : q ≢ length code = omega arith in
    let same = same_index code inputs p q forward a.below b.below (inl a.wrong) (inr b.overfills) in
    well_formed code inputs q b.level b.supplied on (subst (λ (k : ℕ). IsMalformedAt code inputs k) same a.wrong)

-- ---- all

-- the result of the path analysis is unique
pub one_judgement : (code : List Instr) (inputs : ℕ) (r answer : Result ℕ VerifyFault) → JumpsForward code → IsPathResult code inputs r → IsPathResult code inputs answer → answer ≡ r
one_judgement code inputs (Ok m) (Ok n) forward a b = ap (λ (k : ℕ). Ok k) (sym (one_length code inputs m n a b))
one_judgement code inputs (Ok m) (Err q) forward a b = absurd (no_misfit code inputs q forward a.misses b)
one_judgement code inputs (Err p) (Ok n) forward a b = absurd (no_misfit code inputs p forward b.misses a)
one_judgement code inputs (Err (Malformed p)) (Err (Malformed q)) forward a b = ap (λ (k : ℕ). Err (Malformed k)) (sym (same_index code inputs p q forward a.below b.below (inl a.wrong) (inl b.wrong)))
one_judgement code inputs (Err (Malformed p)) (Err (DepthOver64 q)) forward a b = absurd (not_both code inputs p q forward a b)
one_judgement code inputs (Err (DepthOver64 p)) (Err (Malformed q)) forward a b = absurd (not_both code inputs q p forward b a)
one_judgement code inputs (Err (DepthOver64 p)) (Err (DepthOver64 q)) forward a b = ap (λ (k : ℕ). Err (DepthOver64 k)) (sym (same_index code inputs p q forward a.below b.below (inr a.overfills) (inr b.overfills)))
one_judgement code inputs (Err (Malformed p)) (Err _) forward a b = absurd b
one_judgement code inputs (Err (DepthOver64 p)) (Err _) forward a b = absurd b
one_judgement code inputs (Err _) (Err _) forward a b = absurd a
