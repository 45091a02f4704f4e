use Rattle.std.proofs.Common.{◌≡◌, ◌∙◌, ◌∷◌, [], ℕ, List, true, false, bytes_eq, Result, Ok, Err, IfErr, IfOk, ap, inl, inr, refl, subst, sym}
use Rattle.std.proofs.lemmas.Result.{err_from_is_err_and}
use Rattle.std.proofs.lemmas.Slice.Eq.{bytes_eq-Decides}
use Rattle.fallible.specs.Failures.{IfRefused}
use Rattle.fallible.specs.declared.failure.Failure.{Failure}
use Rattle.fallible.proofs.FailureLaws.{refused_weaker}
use Rattle.fixed.specs.declared.frac.Frac.{Frac}
use Rattle.job.specs.Bits.{frac_in}
use Rattle.job.specs.Drafts.{GivesJob}
use Rattle.job.specs.Faults.{AreFaultless, Said, bad_line, summary}
use Rattle.job.specs.JobFaults.{HasNoHeader, IsJobFault, LacksPart}
use Rattle.job.specs.JobLines.{header}
use Rattle.job.specs.JobText.{IsJobText, limits}
use Rattle.job.specs.Values.{Counts}
use Rattle.job.specs.Views.{job_value, refusal_of, said_of}
use Rattle.job.specs.Words.{lines_of}
use Rattle.job.specs.declared.faults.JobFault.{JobFault}
use Rattle.job.specs.declared.jobs.Job.{Job}
use Rattle.job.proofs.SayLemmas.{text_of_read}
use Rattle.job.proofs.jobs.Job.read.Goals as goal

-- what a call gives of lines without a fault, whose draft is s
module _ {A : Type 0} (most : Counts) (text : List ℕ) (lines : List (List ℕ)) (frac : Frac) (s : Said) (first : lines_of text ≡ header ∷ lines) (found : frac ≡ frac_in lines) (good : AreFaultless most frac [] lines) (is : s ≡ summary frac lines) where
  job_given : (result : Result (Job A) (Failure (JobFault A))) → IfOk result (λ job. GivesJob s (job_value job)) → IfOk result (λ job. IsJobText most text (job_value job))
  job_given (Ok job) t = text_of_read most text lines frac s (job_value job) first found good is t
  job_given (Err e) t = tt

  fault_given : (result : Result (Job A) (Failure (JobFault A))) → IfErr result (λ failure. IfRefused failure (λ fault. LacksPart s (refusal_of fault)))
      → IfErr result (λ failure. IfRefused failure (λ fault. IsJobFault most text (refusal_of fault)))
  fault_given (Ok job) l = tt
  fault_given (Err failure) l =
      refused_weaker _ _ failure (λ f h. inr (
        lines,
        first,
        inr (
          subst (λ (z : Frac). AreFaultless most z [] lines) found good,
          subst (λ (x : Said). LacksPart x (refusal_of f)) (is ∙ ap (λ (z : Frac). summary z lines) found) h,
        ),
      )) l

header_is : (text line : List ℕ) (lines : List (List ℕ)) → lines_of text ≡ line ∷ lines → bytes_eq line header ≡ true → lines_of text ≡ header ∷ lines
header_is text line lines e is = e ∙ ap (λ (l : List ℕ). l ∷ lines) ((bytes_eq-Decides line header).0 is)

no_header : (text line : List ℕ) (others : List (List ℕ)) → lines_of text ≡ line ∷ others → bytes_eq line header ≡ false → HasNoHeader text (bad_line 1)
no_header text line others e is = (λ lines h. (let same : line ≡ header = cc in let yes = (bytes_eq-Decides line header).1 same in absurd cc), refl)

pub returns-then-not-is_header-clause-fault : goal.returns-then-not-is_header-clause-fault
returns-then-not-is_header-clause-fault g c = inl (no_header c.args.bytes.now _ _ c.next_line.ensures.lines (sym c.is_header.ensures ∙ c.if-not-is_header.true))

pub returns-in_err-draft-clause-fault : goal.returns-in_err-draft-clause-fault
returns-in_err-draft-clause-fault g c =
    let p = err_from_is_err_and c.from_residual.result c.from_residual.ensures.1 in
    let first = header_is c.args.bytes.now _ _ c.next_line.ensures.lines (sym c.is_header.ensures ∙ c.if-not-is_header.false) in
    rw (p.1, p.2) (refused_weaker _ _ c.in_err-draft.field-0.0 (λ f h. inr (_, first, inl (rw c.frac_in.ensures at h))) c.in_err-draft.ensures.fault)

pub returns-clause-job : goal.returns-clause-job
returns-clause-job g c =
    let first = header_is c.args.bytes.now _ _ c.next_line.ensures.lines (sym c.is_header.ensures ∙ c.if-not-is_header.false) in
    job_given limits c.args.bytes.now _ c.frac_in.result (said_of c.in_ok-draft.draft) first c.frac_in.ensures c.in_ok-draft.ensures.good c.in_ok-draft.ensures.draft c.finish.result c.finish.ensures.job

pub returns-clause-fault : goal.returns-clause-fault
returns-clause-fault g c =
    let first = header_is c.args.bytes.now _ _ c.next_line.ensures.lines (sym c.is_header.ensures ∙ c.if-not-is_header.false) in
    fault_given limits c.args.bytes.now _ c.frac_in.result (said_of c.in_ok-draft.draft) first c.frac_in.ensures c.in_ok-draft.ensures.good c.in_ok-draft.ensures.draft c.finish.result c.finish.ensures.fault
