-- If texts have a run and the slope code is accepted, the only possible errors are that memory ran out and that the
-- output failed.
use Rattle.std.proofs.Common.{◌≡◌, ℕ, ◌-◌, ◌*◌, ◌^◌, ◌≤◌, List, length, Option, Ok, Err, arith, subst, sym, ◌∙◌}
use Rattle.job.specs.JobText.{limits}
use Rattle.job.specs.Values.{JobValue}
use Rattle.job.proofs.OneResult.{job_reads_once}
use Rattle.kernel_code.specs.declared.instructions.Instr.{Instr}
use Rattle.state.specs.StateText.{StateView}
use Rattle.state.proofs.StateLaws.{reads_once}
use Rattle.verifier.specs.Verdicts.{range}
use Rattle.verifier.proofs.OneVerdict.{accepted_alone}
use Rattle.line_text.proofs.StepLaws.{err_is_no_ok, same_ok}
use Rattle.potential.specs.Energies.{Energy}
use Rattle.integrator.specs.Starts.{Refusal, energy_refused, system_of}
use Rattle.potential.specs.Tables.{table_of}
use Rattle.job.specs.Views as jobs
use Rattle.integrator.specs.StartViews.{system_refusal}
use Rattle.energy_program.specs.Faults as energies
use Rattle.potential.specs.declared.faults.EnergyFault.TheVariants as energy
use Rattle.engine.specs.declared.faults.InputFault.{InputFault}
use Rattle.engine.specs.declared.faults.InputFault.TheVariants as input
use Rattle.line_text.specs.declared.name.Name.{Name}
use Rattle.verifier.specs.declared.faults.VerifyFault.{VerifyFault}
use Rattle.engine.specs.Engines.{AreSafe, HasNoEngineOfTexts, OfSlope, OfTexts}
use Rattle.potential.specs.Verdicts.{IsRefused}
use Rattle.engine.specs.Ranges.{IsSafeFor, PassesRange}
use Rattle.engine.proofs.SpecifiedTexts.{one_job, one_state}

-- ---- of one job and one state

same_slope : (j : JobValue) (s : StateView) (holds : List Instr → Type 0) (a : OfSlope j s (λ code. IsSafeFor j code (length s.atoms))) → OfSlope j s holds → holds a.system.0.code
same_slope j s holds a b =
    let same : b.system ≡ a.system = same_ok b.system a.system (sym b.made ∙ a.made) in
    subst (λ (x : Energy × List ℕ). holds x.0.code) same b.it

not_refused : (j : JobValue) (s : StateView) (f : VerifyFault) (types : Option (Name × Name)) → OfSlope j s (λ code. IsSafeFor j code (length s.atoms))
    → OfSlope j s (λ code. IsRefused j code f types) → ⊥
not_refused j s f types a b =
    let refused : IsRefused j a.system.0.code f types = same_slope j s (λ code. IsRefused j code f types) a b in
    err_is_no_ok f a.it.bound (accepted_alone a.system.0.code (table_of j) (range j.core j.cutoff j.slices 24) a.it.bound (Err f) a.it.judged refused.judged)

not_passed : (j : JobValue) (s : StateView) → OfSlope j s (λ code. IsSafeFor j code (length s.atoms)) → OfSlope j s (λ code. PassesRange j code (length s.atoms)) → ⊥
not_passed j s a b =
    let passes : PassesRange j a.system.0.code (length s.atoms) = same_slope j s (λ code. PassesRange j code (length s.atoms)) a b in
    let same : passes.bound ≡ a.it.bound = same_ok passes.bound a.it.bound
    (accepted_alone a.system.0.code (table_of j) (range j.core j.cutoff j.slices 24) a.it.bound (Ok passes.bound) a.it.judged passes.judged) in
    let far : 2 ^ 63 ≤ a.it.bound * (length s.atoms - 1) = rw same at passes.far in
    absurd (omega arith)

-- ---- of one pair of texts

same_texts : (job state : List ℕ) (holds : JobValue → StateView → Type 0) (a : AreSafe job state) → OfTexts job state holds → holds a.j a.s
same_texts job state holds a b =
    rw (one_job job b.j a.j b.job_text a.job_text, one_state state b.s a.s b.state_text' a.state_text') at b.it

-- texts whose code is accepted have atoms that can be run
has_system : (job state : List ℕ) (refusal : Refusal) → AreSafe job state → OfTexts job state (λ j s. system_of j s ≡ Err refusal) → ⊥
has_system job state refusal a h = err_is_no_ok refusal a.it.system (sym (same_texts job state (λ j s. system_of j s ≡ Err refusal) a h) ∙ a.it.made)

-- and so an engine
pub has_engine : {A : Type 0} (job state : List ℕ) (f : InputFault A) → AreSafe job state → HasNoEngineOfTexts job state f → ⊥
has_engine job state (input.Job f) a h = err_is_no_ok (jobs.refusal_of f) a.j (job_reads_once limits job (Err (jobs.refusal_of f)) (Ok a.j) h a.job_text)
has_engine job state (input.State f) a h = err_is_no_ok f a.s (reads_once state (Err f) (Ok a.s) h.2 (a.state_text'.fits, a.state_text'.is))
has_engine job state (input.Energy (energy.Energy f)) a h = has_system job state (energy_refused (energies.refusal_of f)) a h
has_engine job state (input.Energy (energy.Kernel f types)) a h =
    not_refused a.j a.s f types a.it (same_texts job state (λ j s. OfSlope j s (λ code. IsRefused j code f types)) a h)
has_engine job state (input.System f) a h = has_system job state (system_refusal f) a h
has_engine job state input.ForceRange a h = not_passed a.j a.s a.it (same_texts job state (λ j s. OfSlope j s (λ code. PassesRange j code (length s.atoms))) a h)
