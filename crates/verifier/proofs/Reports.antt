-- The slices that are reported before a failure.
use Rattle.std.proofs.Common.{◌≡◌, ℕ, ◌+◌, ◌*◌, ◌/◌, ◌%◌, ◌<◌, ◌≤◌, List, length, Ok, Err, refl, ap, subst, arith, ⊎_elim}
use Rattle.std.proofs.lemmas.Bool.{cases_lt}
use Rattle.std.proofs.lemmas.Nat.{div-add-mod', div-mul-add, div_below, mod_below, mod-mul-add, mul-le}
use Rattle.fallible.specs.Failures.{IfRefused}
use Rattle.fallible.specs.declared.failure.Failure.{Failure}
use Rattle.fallible.specs.declared.failure.Failure.TheVariants.{Refused, Memory}
use Rattle.kernel_code.specs.declared.instructions.Instr.{Instr}
use Rattle.kernel_code.specs.Code.{JumpsForward}
use Rattle.kernel_code.specs.Tables.{Table}
use Rattle.verifier.specs.declared.faults.VerifyFault.{VerifyFault}
use Rattle.verifier.specs.declared.faults.VerifyFault.TheVariants as fault
use Rattle.verifier.specs.Progress.{PassedBefore, StopsAfter, slice_answer, slice_count}
use Rattle.verifier.specs.Misfits.{IsFirst, IsFirstMalformed, IsFirstOverfull}
use Rattle.verifier.specs.Safety.{input_count}
use Rattle.verifier.specs.Verdicts.{Answer, IsFirstRefused, IsFoundOf, IsGreatest, IsSliceAnswer, IsVerdict, Range, UnlessMemory, pair_answer}
use Rattle.verifier.proofs.Soundness.{all_found}

-- a failure after answers that are all magnitudes
pub stops_after : (A : ℕ → Answer → Type 0) (i n x : ℕ) (failure : Failure VerifyFault) → IsGreatest A i x → i < n
    → UnlessMemory (A i) (Err failure) → StopsAfter A n i failure
stops_after A i n x (Refused f) g lt h = (
  record { at = i; within = lt; refuses = h; before = λ j below. let b = g.each j below in (b.0, b.1) },
  refl,
)
stops_after A i n x Memory g lt h = omega (arith, lt)

-- a number of a pair's slices, after all slices of earlier pairs, is one of all slices
all_slices : (pair pairs slices : ℕ) → pair < pairs → pair * slices + slices ≤ pairs * slices
all_slices pair pairs slices lt = omega (arith, mul-le (pair + 1) slices pairs slices (omega (arith, lt)) (omega arith))

module _ (code : List Instr) (t : Table) (g : Range) where
  -- the number of a slice among those of all pairs, from the number of its pair and its own
  renumbered : (i pair k : ℕ) (x : Answer) → i / g.slices ≡ pair → i % g.slices ≡ k
      → IsSliceAnswer code t g (pair / length t.rows) (pair % length t.rows) k x → slice_answer code t g i x
  renumbered i pair k x p q h = rw (p, q) h

  -- each slice before a rejected one has a magnitude
  before : (pair x i : ℕ) (f : VerifyFault) → 0 < g.slices → IsGreatest (pair_answer code t g) pair x
      → (first : IsFirstRefused (IsSliceAnswer code t g (pair / length t.rows) (pair % length t.rows)) g.slices f)
      → i < pair * g.slices + first.at → (y : ℕ) × slice_answer code t g i (Ok y)
  before pair x i f some h first lt =
      let n = g.slices in
      let whole = div-add-mod' i n in
      let within = first.within in
      ⊎_elim
      (λ (earlier : i / n < pair). let e = (h.each (i / n) earlier).1.each (i % n) (mod_below i n some) in (e.0, e.1))
      (λ (le : pair ≤ i / n).
      let less : i / n < pair + 1 = div_below i n (pair + 1) some (omega (arith, lt, within)) in
      let same : i / n ≡ pair = omega (arith, le, less) in
      let rest : i % n < first.at = omega (arith, lt, subst (λ (q : ℕ). q * n + i % n ≡ i) same whole) in
      let e = first.before (i % n) rest in
      (e.0, renumbered i pair (i % n) (Ok e.0) same refl e.1))
      (cases_lt (i / n) pair)

  -- a failure within a pair, after magnitudes of all earlier pairs
  pub pair_stops : (pair n x : ℕ) (failure : Failure VerifyFault) → 0 < g.slices → IsGreatest (pair_answer code t g) pair x
      → pair < length t.rows * length t.rows
      → StopsAfter (IsSliceAnswer code t g (pair / length t.rows) (pair % length t.rows)) g.slices n failure
      → StopsAfter (slice_answer code t g) (slice_count t g.slices) (pair * g.slices + n) failure
  pair_stops pair n x (Refused f) some h lt s =
      let first = s.0 in
      let within = first.within in (
        record {
          at = pair * g.slices + first.at;
          within = omega (arith, within, all_slices pair (length t.rows * length t.rows) g.slices lt);
          refuses = renumbered (pair * g.slices + first.at) pair first.at (Err f) (div-mul-add pair g.slices first.at within)
              (mod-mul-add pair g.slices first.at within) first.refuses;
          before = λ i less. before pair x i f some h first less;
        },
        ap (λ (k : ℕ). pair * g.slices + k) s.1,
      )
  pair_stops pair n x Memory some h lt s = omega (arith, s, all_slices pair (length t.rows * length t.rows) g.slices lt)

  -- a failure of the search is reported after the slices before it
  pub passed_before : (n : ℕ) (failure : Failure VerifyFault) → JumpsForward code → 0 < g.slices
      → UnlessMemory (IsFoundOf code t g) (Err failure) → StopsAfter (slice_answer code t g) (slice_count t g.slices) n failure
      → PassedBefore code t g n failure
  passed_before n (Refused (fault.Malformed pc)) forward some found s =
      absurd (all_found code t g forward some (fault.Malformed pc) found)
  passed_before n (Refused (fault.DepthOver64 pc)) forward some found s =
      absurd (all_found code t g forward some (fault.DepthOver64 pc) found)
  passed_before n failure forward some found s = s

  -- an error of the path analysis is the verdict, and no slice is reported before it
  pub first_verdict : (inputs : ℕ) (failure : Failure VerifyFault) → inputs ≡ input_count t
      → IfRefused failure (IsFirst code inputs) → IfRefused failure (λ f. IsVerdict code t g (Err f)) × PassedBefore code t g 0 failure
  first_verdict inputs (Refused (fault.Malformed pc)) same first = (subst (λ (n : ℕ). IsFirstMalformed code n pc) same first, refl)
  first_verdict inputs (Refused (fault.DepthOver64 pc)) same first = (subst (λ (n : ℕ). IsFirstOverfull code n pc) same first, refl)
  first_verdict inputs (Refused _) same first = absurd first
  first_verdict inputs Memory same first = (tt, omega arith)

  -- the slices that are reported before a failure are among all
  pub passed_few : (n : ℕ) (failure : Failure VerifyFault) → PassedBefore code t g n failure → n ≤ slice_count t g.slices
  passed_few n (Refused (fault.Malformed pc)) h = omega (arith, h)
  passed_few n (Refused (fault.DepthOver64 pc)) h = omega (arith, h)
  passed_few n Memory h = h
  passed_few n _ h = let within = h.0.within in omega (arith, within, h.1)
