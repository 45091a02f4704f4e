-- How the program fails, by its status: from the fault that a command ended with.
use Rattle.std.proofs.Common.{◌≡◌, ◌≢◌, ◌⊎◌, ◌∙◌, ◌<◌, ◌-◌, length, ℕ, Bool, List, [], ◌∷◌, Option, Some, None, Ok, Err, ap, arith, inl, inr, refl, subst, sym}
use Rattle.std.proofs.lemmas.List.{get_or_default}
use Rattle.std.specs.Borrow.{Bor}
use Rattle.command_line.specs.Commands.{CommandView, CurveView, RunView, VisitsView}
use Rattle.command_line.specs.CommandLine.{IsCommand, IsMisuse}
use Rattle.command_line.specs.Commands as command
use Rattle.curves.specs.Tables.{HasNoCurve}
use Rattle.curves.proofs.WritingLaws.{curve_failed}
use Rattle.energy_program.specs.Faults as energies
use Rattle.fallible.specs.Out.{AppendsBeginning, Output}
use Rattle.fallible.specs.declared.output.OutFault.{OutFault}
use Rattle.integrator.specs.declared.faults.StepFault.TheVariants as step
use Rattle.job.specs.JobFaults.{JobReadsAs}
use Rattle.job.specs.JobText.{IsJobText, limits}
use Rattle.job.specs.Values.{JobValue}
use Rattle.job.specs.Views as jobs
use Rattle.job.specs.declared.faults.JobFault.{JobFault}
use Rattle.job.proofs.OneResult.{job_reads_once}
use Rattle.gro.specs.Frames.{FrameView}
use Rattle.gro.proofs.OneResult.{reads_once}
use Rattle.ring_box.specs.declared.faults.BoxFault.{BoxFault}
use Rattle.state.specs.Starts.{start_of_frame}
use Rattle.state.specs.StateFaults.{ReadsAs}
use Rattle.state.specs.declared.faults.StateFault.{StateFault}
use Rattle.state.proofs.StateLaws as state_laws
use Rattle.engine.proofs.SpecifiedTexts.{one_job}
use Rattle.kernel_code.proofs.ListingLaws.{parses_once, one_listing}
use Rattle.line_text.proofs.StepLaws.{err_is_no_ok, same_ok}
use Rattle.potential.specs.EnergyKernels.{HasNoEnergyKernel}
use Rattle.potential.specs.Verdicts.{HasNoSlopeKernel}
use Rattle.potential.specs.declared.faults.EnergyFault.{EnergyFault}
use Rattle.potential.specs.declared.faults.EnergyFault.TheVariants as energy
use Rattle.engine.specs.Engines.{AreSafe, HasNoEngine, HasNoEngineOfTexts, IsOfEnergy, IsOfState, OfTexts}
use Rattle.engine.specs.EngineEnergies.{HasNoEnergyOfTexts}
use Rattle.engine.specs.declared.faults.InputFault.{InputFault}
use Rattle.engine.specs.declared.faults.InputFault.TheVariants as input
use Rattle.runs.specs.declared.faults.RunFault.{RunFault}
use Rattle.runs.specs.declared.faults.RunFault.TheVariants as run
use Rattle.engine.proofs.EngineLaws.{safe_texts}
use Rattle.runs.specs.Shown.{IsUnshown}
use Rattle.runs.specs.Unwritten.{IsRunUnwritten}
use Rattle.runs.specs.Visits.{Showing}
use Rattle.runs.proofs.RunLaws.{run_unwritten, run_wants}
use Rattle.cli.specs.Actions.{CodeText, Contents, EndOfRun, Explanation, FrameText, Held, ListingVerdict, OfJob, OfKnownFiles, OfKnownTask, OfTask, OneText, Paths, QuantityText, SlopeVerdict, StartText, StatesOfRun, StatesOfStream, TablesOfJob, Task, Text, UpTo, action_of, also_requested, requested_by, check_action, files_of, work_of}
use Rattle.cli.specs.Command.{Any, HasOutput, HasText, IsKept, IsSaid, PrintsBefore, PrintsIfCounted, plan_of}
use Rattle.cli.specs.CommandFailure.{BeginsOutput, DoNotFit, HasNoCode, HasNoEnergyCode, HasNoSlope, HaveNoEngine, IsCodeRejected, IsFailure, IsFileFailed, IsListingRejected, IsMisused, IsNoJob, IsNoListing, IsNoState, IsNotOneRun, IsOutOfMemory, IsOutputFailed, IsRejected, IsUnreadable, LackCode, LackSlope, LacksCode, LacksData, LacksFile, LacksTextCode, LeavesTexts, LosesStream, RejectsCode, RejectsData, RejectsNext, ReportsMemory}
use Rattle.cli.specs.Conversions.{IsFrameOf, IsStartText}
use Rattle.cli.specs.CurveTexts.{HasPair, IsFirstLacking, LacksPair, LacksType, Names, OfTables}
use Rattle.cli.specs.Failures.{fault_of_run, fault_of_stream}
use Rattle.cli.specs.Performed.{EndsIn}
use Rattle.cli.specs.Progress.{ReportsBefore}
use Rattle.cli.specs.Refusals.{AreTablesUnwritten, HasNoBox, HasNoFrame, IsTaskUndone, IsTextUnwritten, IsUnread, IsUnreadOf, RefusesCode, RefusesCurve, RefusesFrame, RefusesListing, RefusesQuantity, RefusesSlope, RefusesState, RefusesText, RefusesUnder, unread}
use Rattle.cli.specs.Reports.{IsReported}
use Rattle.cli.specs.Statuses.{status_number, status_of}
use Rattle.cli.specs.StreamTexts.{StreamPart, plan_of_replay, shows_of}
use Rattle.cli.specs.declared.faults.CommandFault.{CommandFault}
use Rattle.cli.specs.declared.faults.CommandFault.TheVariants as fault
use Rattle.cli.specs.declared.faults.Status.{Status}
use Rattle.cli.specs.declared.faults.Status.TheVariants as status
use Rattle.command_line.specs.declared.commands.Quantity.{Quantity}
use Rattle.command_line.specs.declared.commands.Quantity.TheVariants as quantity
use Rattle.state.specs.declared.sources.ReadFault.{ReadFault}
use Rattle.state.specs.declared.sources.ReadFault.TheVariants as read
use Rattle.cli.proofs.AcceptLaws.{code_given, code_of_texts_given, counter_given, engine_given, tables_code_given, tables_given, text_code_given, text_given}
use Rattle.cli.proofs.FileLaws.{AreHeld, gather, known_also, known_lacks, of_known, of_task}
use Rattle.cli.proofs.LeftLaws.{MayLeave, lost, lost_left, rejected, stream_before, texts_left, texts_told}
use Rattle.cli.proofs.ProgressLaws.{IsOnWay, data_memory, read_memory, told_code, told_data}
use Rattle.cli.proofs.StatusLaws.{one_number}
use Rattle.cli.proofs.StreamLaws.{IsSound, none_printed, sound_replayed, sound_shown, states_given, stream_code_given, stream_read}
use Rattle.cli.proofs.WorkLines.{IsUnbegun, orderly, unbegun}
use Rattle.state.proofs.StateLaws.{faults_start_none}
use Rattle.streams.specs.Streams.{Breaks, OfFirst, RejectsJob, StreamOutput}
use Rattle.streams.specs.declared.faults.StreamFault.{StreamFault}
use Rattle.streams.specs.declared.faults.StreamFault.TheVariants as stream

-- ---- causes

-- the fault rejects data, or code, or memory ran out
abbrev Cause : {A : Type 0} → CommandFault A → (Data Code : Type 0) → Type 0
Cause f Data Code = ((status_of f ≡ status.RefusedData) × Data) ⊎ ((status_of f ≡ status.RefusedKernel) × Code) ⊎ (f ≡ fault.Memory)

-- the cause of a fault is one of wider statements
cause_also : {A : Type 0} (f : CommandFault A) (Data Code Data' Code' : Type 0) → (Data → Data') → (Code → Code')
    → Cause f Data Code → Cause f Data' Code'
cause_also f Data Code Data' Code' data' code' (inl h) = inl (h.0, data' h.1)
cause_also f Data Code Data' Code' data' code' (inr (inl h)) = inr (inl (h.0, code' h.1))
cause_also f Data Code Data' Code' data' code' (inr (inr h)) = inr (inr h)

-- If a job's text is rejected, it is no job's.
no_job : {A : Type 0} (job : List ℕ) (f : JobFault A) → JobReadsAs limits job (Err (jobs.refusal_of f)) → IsNoJob job
no_job job f failed j read = err_is_no_ok _ j (job_reads_once limits job (Err _) (Ok j) failed read)

-- likewise for a state
no_state : (state : List ℕ) (f : StateFault) → ReadsAs state (Err f) → IsNoState state
no_state state f failed s is = err_is_no_ok f s (state_laws.reads_once state (Err f) (Ok s) failed (is.fits, is.is))

same_frame : (frames : List FrameView) (number : ℕ) (f g : FrameView) → IsFrameOf frames number f
    → IsFrameOf frames number g → f ≡ g
same_frame frames number f g p q =
    let some = p.some in
    let within = p.within in
    p.there ∙ (get_or_default frames (number - 1) f g (omega (arith, some, within)) ∙ sym q.there)

-- no state starts at a frame that isn't there
no_frame : (job gro : List ℕ) (number : ℕ) → HasNoFrame gro number → IsStartText job gro number Any → ⊥
no_frame job gro number h is = out h.none
  where
    same : h.frames ≡ is.started.frames
    same = same_ok h.frames is.started.frames (reads_once gro (Ok h.frames) (Ok is.started.frames) h.gro_text is.started.gro_text)

    out : (number ≡ 0) ⊎ (length h.frames < number) → ⊥
    out (inl zero) = let some = is.started.picked.some in omega (arith, zero, some)
    out (inr few) =
        let within = is.started.picked.within in
        let count : length h.frames ≡ length is.started.frames = ap length same in
        omega (arith, few, within, count)

-- nor at a frame with such a box
no_box : (job gro : List ℕ) (number : ℕ) (j : JobValue) (f : BoxFault) → IsJobText limits job j → HasNoBox gro number j f
    → IsStartText job gro number Any → ⊥
no_box job gro number j f read h is =
    let s = is.started in
    let k = is.said in
    let same : h.frames ≡ s.frames = same_ok h.frames s.frames (reads_once gro (Ok h.frames) (Ok s.frames) h.gro_text s.gro_text) in
    let also = subst (λ (x : List FrameView). IsFrameOf x number h.frame) same h.picked in
    let one = same_frame s.frames number h.frame s.frame also s.picked in
    let refused = subst (λ x. start_of_frame x.frac x.time_step h.frame ≡ Err f) (one_job job j k read is.job_text) h.refused in
    err_is_no_ok f is.state (sym refused ∙ (ap (start_of_frame k.frac k.time_step) one ∙ s.started))

start_cause : {A : Type 0} (job gro : List ℕ) (n : ℕ) (f : CommandFault A) → RefusesUnder job (RefusesFrame gro n) f
    → Cause f (IsStartText job gro n Any → ⊥) ⊥
start_cause job gro n (fault.Rejected (input.Job f)) (inl h) = inl (refl, λ is. no_job job f h is.said is.job_text)
start_cause job gro n (fault.Gro f) (inr (j, read, inl h)) = inl (
  refl,
  λ is. err_is_no_ok f is.started.frames (reads_once gro (Err f) (Ok is.started.frames) h is.started.gro_text),
)
start_cause job gro n (fault.Gro f) (inr (j, read, inr h)) = inl (refl, no_frame job gro n h.1)
start_cause job gro n (fault.Box f) (inr (j, read, h)) = inl (refl, no_box job gro n j f read h)
start_cause job gro n fault.Memory h = inr (inr refl)
start_cause job gro n _ (inl h) = absurd h
start_cause job gro n _ (inr h) = absurd h.2

state_cause : {A : Type 0} (state : List ℕ) (f : CommandFault A) → RefusesState state f → Cause f (IsNoState state) ⊥
state_cause state (fault.Rejected (input.State f)) h = inl (refl, no_state state f h)
state_cause state fault.Memory h = inr (inr refl)
state_cause state _ h = absurd h

code_cause : {A : Type 0} (job : List ℕ) (of_energy : Bool) (f : CommandFault A) → RefusesUnder job (RefusesCode of_energy) f
    → Cause f (IsNoJob job) (OfJob job (HasNoCode of_energy))
code_cause job of_energy (fault.Rejected (input.Job f)) (inl h) = inl (refl, no_job job f h)
code_cause job of_energy (fault.Rejected (input.Energy (energy.Energy f))) (inr (said, read, h)) =
    inr (inl (refl, (said, read, (energies.refusal_of f, h))))
code_cause job of_energy fault.Memory h = inr (inr refl)
code_cause job of_energy _ (inl h) = absurd h
code_cause job of_energy _ (inr (said, read, h)) = absurd h

no_slope : {A : Type 0} (j : JobValue) (f : EnergyFault A) → HasNoSlopeKernel j f → HasNoSlope j
no_slope j (energy.Energy f) h = inl (energies.refusal_of f, h)
no_slope j (energy.Kernel f types) h = inr (f, types, h)

slope_cause : {A : Type 0} (job : List ℕ) (f : CommandFault A) → RefusesUnder job RefusesSlope f
    → Cause f (IsNoJob job) (OfJob job HasNoSlope)
slope_cause job (fault.Rejected (input.Job f)) (inl h) = inl (refl, no_job job f h)
slope_cause job (fault.Rejected (input.Energy f)) (inr (said, read, h)) = inr (inl (refl, (said, read, no_slope said f h)))
slope_cause job fault.Memory h = inr (inr refl)
slope_cause job _ (inl h) = absurd h
slope_cause job _ (inr (said, read, h)) = absurd h

listing_cause : {A : Type 0} (job listing : List ℕ) (f : CommandFault A) → RefusesUnder job (RefusesListing listing) f
    → Cause f (IsNoJob job ⊎ IsNoListing listing) (OfJob job (IsListingRejected listing))
listing_cause job listing (fault.Rejected (input.Job f)) (inl h) = inl (refl, inl (no_job job f h))
listing_cause job listing (fault.Listing f) (inr (said, read, h)) =
    inl (refl, inr (λ code listed is. err_is_no_ok f code (parses_once listing (Err f) (Ok code) h ((one_listing listing code).1 (listed, is)))))
listing_cause job listing (fault.Rejected (input.Energy (energy.Energy f))) (inr (said, read, h)) = absurd h.2
listing_cause job listing (fault.Rejected (input.Energy (energy.Kernel f types))) (inr (said, read, h)) =
    let is = (one_listing listing h.0).0 h.1 in
    inr (inl (refl, (said, read, (h.0, is.0, is.1, (f, types, h.2)))))
listing_cause job listing fault.Memory h = inr (inr refl)
listing_cause job listing _ (inl h) = absurd h
listing_cause job listing _ (inr (said, read, h)) = absurd h

-- ---- engines

-- the slope code is rejected
lacks_slope : {A : Type 0} (job state : List ℕ) (f : EnergyFault A) → OfTexts job state (λ j s. HasNoEngine j s (input.Energy f))
    → LackSlope job state
lacks_slope job state (energy.Energy f) h =
    record { j = h.j; s = h.s; job_text = h.job_text; state_text' = h.state_text'; it = inl (energies.refusal_of f, h.it) }
lacks_slope job state (energy.Kernel f types) h = record {
  j = h.j;
  s = h.s;
  job_text = h.job_text;
  state_text' = h.state_text';
  it = inr (record { system = h.it.system; made = h.it.made; it = (f, types, h.it.it) });
}

-- the state doesn't fit the job
misfit : {A : Type 0} (job state : List ℕ) (f : InputFault A) → IsOfState f → OfTexts job state (λ j s. HasNoEngine j s f)
    → OfTexts job state DoNotFit
misfit job state (input.Job f) of_state h = absurd of_state
misfit job state (input.State f) of_state h = absurd h.it
misfit job state (input.Energy f) of_state h = absurd of_state
misfit job state (input.System f) of_state h =
    record { j = h.j; s = h.s; job_text = h.job_text; state_text' = h.state_text'; it = inl (f, h.it) }
misfit job state input.ForceRange of_state h =
    record { j = h.j; s = h.s; job_text = h.job_text; state_text' = h.state_text'; it = inr h.it }

engine_cause : {A : Type 0} (job state : List ℕ) (f : InputFault A) → HasNoEngineOfTexts job state f
    → Cause (fault.Rejected f) (HaveNoEngine job state) (LackSlope job state)
engine_cause {A} job state (input.Job f) h = inl (refl, inl (no_job job f h))
engine_cause {A} job state (input.State f) h = inl (refl, inr (inl (no_state state f h.2)))
engine_cause {A} job state (input.Energy f) h = inr (inl (refl, lacks_slope job state f h))
engine_cause {A} job state (input.System f) h = inl (refl, inr (inr (misfit {A = A} job state (input.System f) tt h)))
engine_cause {A} job state input.ForceRange h = inl (refl, inr (inr (misfit {A = A} job state input.ForceRange tt h)))

energy_code : {A : Type 0} (j : JobValue) (f : EnergyFault A) → HasNoEnergyKernel j f → HasNoEnergyCode j
energy_code j (energy.Energy f) h = record { program = h.program; its = h.its; it = inl (energies.refusal_of f, h.it) }
energy_code j (energy.Kernel f types) h = record { program = h.program; its = h.its; it = inr (f, types, h.it) }

lacks_code : {A : Type 0} (j : JobValue) (f : EnergyFault A) → HasNoCurve j f → LacksCode j
lacks_code j f (inl h) = inl (no_slope j f h)
lacks_code j f (inr (k, is, h)) = inr ((k, is), energy_code j f h)

lacks_pair : (j : JobValue) (names : Names) (name : List ℕ) → IsFirstLacking j names name → LacksPair j names
lacks_pair j None name h = h
lacks_pair j (Some two) name (inl (lacks, same)) = inl (subst (LacksType j) same lacks)
lacks_pair j (Some two) name (inr (first, lacks, same)) = inr (subst (LacksType j) same lacks)

curve_cause : {A : Type 0} (job : List ℕ) (c : CurveView) (f : CommandFault A) → RefusesUnder job (RefusesCurve c) f
    → Cause f (IsNoJob job ⊎ OfJob job (λ j. LacksPair j c.types)) (OfJob job (λ j. HasPair j c.types × LacksCode j))
curve_cause job c (fault.Rejected (input.Job f)) (inl h) = inl (refl, inl (no_job job f h))
curve_cause job c (fault.NoSuchType name) (inr (said, read, h)) =
    inl (refl, inr (said, read, lacks_pair said c.types name.now h))
curve_cause job c (fault.Rejected (input.Energy f)) (inr (said, read, h)) = inr (inl (refl, (said, read, (h.0, lacks_code said f h.1))))
curve_cause job c fault.Memory h = inr (inr refl)
curve_cause job c _ (inl h) = absurd h
curve_cause job c _ (inr (said, read, h)) = absurd h

-- the slope code is accepted, and the code of the energy itself is rejected
lack_energy : {A : Type 0} (job state : List ℕ) (f : EnergyFault A) → HasNoEnergyOfTexts job state f
    → AreSafe job state × OfTexts job state (λ j s. HasNoEnergyCode j)
lack_energy job state f h =
    let o = h.opens in
    let code = energy_code o.j f (subst (λ j. HasNoEnergyKernel j f) (ap (λ e. e.job) o.it.is) h.why) in
    (safe_texts job state h.engine o, record { j = o.j; s = o.s; job_text = o.job_text; state_text' = o.state_text'; it = code })

-- texts have no engine, or the energy itself has no accepted code
code_or_engine : {A : Type 0} (job state : List ℕ) (Energies : Type 0) (f : InputFault A)
    → HasNoEngineOfTexts job state f ⊎ IsOfEnergy (λ g. Energies × HasNoEnergyOfTexts job state g) f
    → Cause (fault.Rejected f) (HaveNoEngine job state) (LackCode Energies job state)
code_or_engine job state Energies f (inl h) = cause_also (fault.Rejected f) _ _ _ _ (λ x. x) inl (engine_cause job state f h)
code_or_engine job state Energies (input.Energy f) (inr (energies, h)) =
    let lacks = lack_energy job state f h in inr (inl (refl, inr (energies, lacks.0, lacks.1)))
code_or_engine job state Energies (input.Job f) (inr h) = absurd h
code_or_engine job state Energies (input.State f) (inr h) = absurd h
code_or_engine job state Energies (input.System f) (inr h) = absurd h
code_or_engine job state Energies input.ForceRange (inr h) = absurd h

-- a quantity is missing since the texts have no engine, or the energy since its own code is rejected
quantity_cause : {A : Type 0} (q : Quantity) (job state : List ℕ) (f : CommandFault A) → RefusesQuantity q job state f
    → Cause f (HaveNoEngine job state) (LackCode (q ≡ quantity.Energy) job state)
quantity_cause q job state (fault.Rejected f) h = code_or_engine job state (q ≡ quantity.Energy) f h
quantity_cause q job state fault.Memory h = inr (inr refl)
quantity_cause q job state _ h = absurd h

-- ---- texts

-- what refuses a text
text_cause : {A : Type 0} (t : Text) (f : CommandFault A) → RefusesText t f → Cause f (LacksData t) (LacksTextCode t)
text_cause (StartText job gro frame) f h = start_cause job gro frame f h
text_cause (FrameText state) f h = state_cause state f h
text_cause (QuantityText q job state) f h = quantity_cause q job state f h
text_cause (SlopeVerdict job) f h = slope_cause job f h
text_cause (ListingVerdict job listing) f h = listing_cause job listing f h
text_cause (CodeText job energy) f h = code_cause job energy f h
text_cause (Explanation code) f h = absurd h

-- a text of which a prefix was printed is one that a write failed for
text_failed : (t : Text) (before after : Output) → HasText t (AppendsBeginning before after) → before.failed < after.failed
text_failed (StartText job gro frame) before after h = h.written.failed
text_failed (FrameText state) before after h = h.written.failed
text_failed (QuantityText q job state) before after h = h.written.failed
text_failed (SlopeVerdict job) before after h = h.written.failed
text_failed (ListingVerdict job listing) before after h = h.written.failed
text_failed (CodeText job energy) before after h = h.written.failed
text_failed (Explanation code) before after h = h.written.failed

-- ---- ends of tasks

-- the output of a stream, if the task prints one, is sound
abbrev IsSoundTask : Task → Type 0
IsSoundTask (StatesOfStream o states job bytes) = IsSound o job
IsSoundTask _ = Unit {0}

-- The fault of a task, and the output after it:
-- - `by_data`: data are rejected, before any output, or for a stream after the texts of the states before, or after all if
--   some differ;
-- - `by_code`: code is rejected;
-- - `by_file`: a stream can't be read on;
-- - `by_output`: a write failed;
-- - `by_memory`: memory ran out, before any text or after some tables or texts of a stream;
-- - `by_steps`: memory ran out after some steps.
data IsEnded {A : Type 0} (held : Held) (t : Task) (before after : Output) (f : CommandFault A) : Type 0 where
  by_data : status_of f ≡ status.RefusedData → (after ≡ before) ⊎ IsOnWay f → RejectsData t before after → IsEnded held t before after f
  by_code : status_of f ≡ status.RefusedKernel → RejectsCode t → after ≡ before → IsEnded held t before after f
  by_file : (borrowed : Bor (List ℕ)) → f ≡ fault.CannotRead borrowed → LosesStream held t before after → IsEnded held t before after f
  by_output : (o : OutFault) → f ≡ fault.Out o → BeginsOutput t before after → IsEnded held t before after f
  by_memory : f ≡ fault.Memory → (after ≡ before) ⊎ (MayLeave t × LeavesTexts t 0 before after) → IsEnded held t before after f
  by_steps : (done : ℕ) → f ≡ fault.Steps (step.Memory done) → LeavesTexts t done before after → IsEnded held t before after f

-- a fault with a cause
caused : {A : Type 0} (held : Held) (t : Task) (Data Code : Type 0) (before after : Output) (f : CommandFault A)
    → (Data → RejectsData t before after) → (Code → RejectsCode t) → after ≡ before → Cause f Data Code
    → IsEnded held t before after f
caused held t Data Code before after f data' code' same (inl h) = by_data h.0 (inl same) (data' h.1)
caused held t Data Code before after f data' code' same (inr (inl h)) = by_code h.0 (code' h.1) same
caused held t Data Code before after f data' code' same (inr (inr memory)) = by_memory memory (inl same)

text_ended : {A : Type 0} (held : Held) (t : Text) (before after : Output) (f : CommandFault A)
    → IsTextUnwritten (RefusesText t) (HasText t) before after f → IsEnded held (OneText t) before after f
text_ended held t before after f (inl (why, same)) =
    caused held (OneText t) (LacksData t) (LacksTextCode t) before after f (λ lacks. (lacks, same)) (λ x. x) same (text_cause t f why)
text_ended held t before after f (inr (o, is, begun)) = by_output o is begun

-- of the tables of a job's potential
tables_ended : {A : Type 0} (held : Held) (job : List ℕ) (c : CurveView) (before after : Output) (f : CommandFault A)
    → AreTablesUnwritten (RefusesUnder job (RefusesCurve c)) (OfTables job c) before after f
    → IsEnded held (TablesOfJob job c) before after f
tables_ended held job c before after f (inl (why, same)) =
    caused held (TablesOfJob job c) _ _ before after f (λ lacks. (lacks, same)) (λ x. x) same (curve_cause job c f why)
tables_ended held job c before after f (inr (inl (is, left))) = by_memory is (inr (tt, left))
tables_ended held job c before after f (inr (inr (o, is, begun))) = by_output o is (o, begun)

run_ended : {A : Type 0} (held : Held) (job state : List ℕ) (r : RunView) (before after : Output) (g : RunFault (InputFault A))
    → IsRunUnwritten job state r.direction r.steps before after g → IsEnded held (EndOfRun job state r) before after (fault_of_run g)
run_ended held job state r before after (run.Rejected f) (why, same) =
    caused held (EndOfRun job state r) _ _ before after (fault.Rejected f) (λ lacks. (inl lacks, same)) (λ x. x) same
    (engine_cause job state f why)
run_ended held job state r before after run.Memory same = by_memory refl (inl same)
run_ended held job state r before after (run.Steps step.StepRange) (why, same) = by_data refl (inl same) (inr (why.1, why.0), same)
run_ended held job state r before after (run.Steps (step.Memory done)) h = by_steps done refl h
run_ended held job state r before after (run.Out o) h = by_output o refl h

-- of frames, whole states and table rows
visits_ended : {A : Type 0} (held : Held) (Shows : Showing) (job state : List ℕ) (v : VisitsView) (before after : Output)
    (g : RunFault (InputFault A)) → IsUnshown Shows job state (plan_of v) before after (λ reports. Unit {0}) g
    → IsEnded held (StatesOfRun Shows job state v) before after (fault_of_run g)
visits_ended held Shows job state v before after (run.Rejected f) h =
    caused held (StatesOfRun Shows job state v) _ _ before after (fault.Rejected f) (λ lacks. (inl lacks, h.1)) (λ x. x) h.1
    (code_or_engine job state Shows.observes f h.0)
visits_ended held Shows job state v before after run.Memory h = by_memory refl (inl h.1)
visits_ended held Shows job state v before after (run.Steps step.StepRange) h = by_data refl (inl h.1) (inr h.0, h.1)
visits_ended held Shows job state v before after (run.Steps (step.Memory done)) h = by_steps done refl (h.0.0, h.0.1, h.1)
visits_ended held Shows job state v before after (run.Out o) h = by_output o refl (h.0.0, h.0.1, h.1)

-- of the states of a stream
module _ {A : Type 0} (held : Held) (o : StreamOutput) (states job bytes : List ℕ) (sound : IsSound o job) (borrowed : Bor (List ℕ))
    (before after : Output) where
  -- why the stream ended with a fault
  abbrev Stops : StreamFault (InputFault A) → Type 0
  Stops g = Breaks o job (held states) bytes before after g

  -- the part of the stream before the fault
  abbrev part_of : (g : StreamFault (InputFault A)) → Stops g → StreamPart
  part_of g h = record { count = h.count; differing = h.differing; front = h.front; rest = h.rest }

  -- the output has what it should of the first states, and the next is rejected
  rejects : (g : StreamFault (InputFault A)) (h : Stops g) → RejectsNext job (part_of g h) → after ≡ h.between
      → RejectsData (StatesOfStream o states job bytes) before after
  rejects g h why same = (part_of g h, h.text, h.between, h.split, h.has, h.appends, (inl why, same))

  misfits : (g : StreamFault (InputFault A)) (f : InputFault A) → IsOfState f → (h : Stops g) → (h.count ≡ 0) ⊎ (h.rest ≢ [])
      → OfFirst h.rest (λ state. OfTexts job state (λ j s. HasNoEngine j s f)) → after ≡ h.between
      → RejectsData (StatesOfStream o states job bytes) before after
  misfits g f of_state h some next same =
      rejects g h (some, inr (inr (next.0, next.1, next.2, misfit {A = A} job next.0 f of_state next.3))) same

  -- a rejected job comes before the first state
  at_start : (f : InputFault A) (h : Stops (stream.Rejected f)) → (bytes ≡ h.rest) × (h.between ≡ before)
  at_start f h = none_printed o job bytes (part_of (stream.Rejected f) h) h.text before h.between sound h.stops.0 h.split h.has h.appends

  -- the job is rejected, or code for the first state
  by_job : (f : InputFault A) (h : Stops (stream.Rejected f)) → RejectsJob o.observes job h.rest f
      → IsEnded held (StatesOfStream o states job bytes) before after (fault.Rejected f)
  by_job (input.Job f) h (inl (other, why)) =
      by_data refl (inl (h.stops.2 ∙ (at_start (input.Job f) h).1))
      (rejects (stream.Rejected (input.Job f)) h (inl h.stops.0, inl (no_job job f why)) h.stops.2)
  by_job (input.Energy f) h why = by_energy why
    where
      start : (bytes ≡ h.rest) × (h.between ≡ before)
      start = at_start (input.Energy f) h

      by_energy : RejectsJob o.observes job h.rest (input.Energy f)
          → IsEnded held (StatesOfStream o states job bytes) before after (fault.Rejected (input.Energy f))
      by_energy (inl (other, next)) =
          by_code refl (next.0, next.1, start.0 ∙ next.2, inl (lacks_slope {A = A} job next.0 f next.3)) (h.stops.2 ∙ start.1)
      by_energy (inr (observes, next)) =
          let lacks = lack_energy job next.0 f next.3 in
          by_code refl (next.0, next.1, start.0 ∙ next.2, inr (observes, lacks.0, lacks.1)) (h.stops.2 ∙ start.1)
  by_job (input.State f) h (inl (other, why)) = absurd (other tt)
  by_job (input.System f) h (inl (other, why)) = absurd (other tt)
  by_job input.ForceRange h (inl (other, why)) = absurd (other tt)
  by_job _ h (inr why) = absurd why

  stream_ended : (g : StreamFault (InputFault A)) → Stops g
      → IsEnded held (StatesOfStream o states job bytes) before after (fault_of_stream borrowed g)
  stream_ended (stream.Rejected f) h = by_job f h h.stops.1
  stream_ended (stream.State number (input.Job f)) h = absurd h.stops.2
  stream_ended (stream.State number (input.State f)) h =
      let next = h.stops.3 in
      by_data refl (inr tt) (rejects (stream.State number (input.State f)) h (h.stops.1, inr (inl (faults_start_none h.rest f next.2 next.3))) h.stops.4)
  stream_ended (stream.State number (input.Energy f)) h = absurd h.stops.2
  stream_ended (stream.State number (input.System f)) h =
      by_data refl (inr tt) (misfits (stream.State number (input.System f)) (input.System f) tt h h.stops.1 h.stops.3 h.stops.4)
  stream_ended (stream.State number input.ForceRange) h =
      by_data refl (inr tt) (misfits (stream.State number input.ForceRange) input.ForceRange tt h h.stops.1 h.stops.3 h.stops.4)
  stream_ended (stream.Differ segments) h =
      let differ : IsNotOneRun (part_of (stream.Differ segments) h) = (h.stops.2, subst (λ n. 0 < n) h.stops.0 h.stops.1, h.stops.3) in
      by_data refl (inr tt) (part_of (stream.Differ segments) h, h.text, h.between, h.split, h.has, h.appends, (inr differ, h.stops.4))
  stream_ended stream.CannotRead h =
      by_file borrowed refl (part_of stream.CannotRead h, h.text, h.between, h.split, h.has, h.appends, h.stops)
  stream_ended (stream.Out f) h =
      by_output f refl (part_of (stream.Out f) h, h.text, h.between, h.split, h.has, h.appends, h.stops)
  stream_ended stream.Memory h =
      by_memory refl (inr (tt, (part_of stream.Memory h, h.text, h.between, h.split, h.has, h.appends, h.stops)))

-- how a task ends with a fault
task_ended : {A : Type 0} (held : Held) (t : Task) (before after : Output) (f : CommandFault A) → IsSoundTask t
    → IsTaskUndone held t before after f → IsEnded held t before after f
task_ended held (OneText text) before after f sound h = text_ended held text before after f h
task_ended held (TablesOfJob job c) before after f sound h = tables_ended held job c before after f h
task_ended held (EndOfRun job state r) before after f sound (g, same, h) =
    subst (IsEnded held (EndOfRun job state r) before after) (sym same)
    (run_ended held job state r before after g
    (run_unwritten job state r.direction r.steps before after (λ reports. Unit {0}) g h))
task_ended held (StatesOfRun Shows job state v) before after f sound (g, same, h) =
    subst (IsEnded held (StatesOfRun Shows job state v) before after) (sym same) (visits_ended held Shows job state v before after g h)
task_ended held (StatesOfStream o states job bytes) before after f sound (g, borrowed, path, same, h) =
    subst (IsEnded held (StatesOfStream o states job bytes) before after) (sym same)
    (stream_ended held o states job bytes sound borrowed before after g h)

-- ---- outputs that the page gives

-- the bytes of a stream are known
abbrev pub IsToldStream : Held → Task → Type 0
IsToldStream held (StatesOfStream o states job bytes) = held states ≡ Some bytes
IsToldStream held _ = Unit {0}

-- If the page gives an output for a task, its data aren't rejected,
data_given : (t : Task) (before after : Output) → IsSoundTask t → HasOutput t → RejectsData t before after → ⊥
data_given (OneText text) before after sound has h = text_given text has h.0
data_given (TablesOfJob job c) before after sound has h = tables_given job c has h.0
data_given (EndOfRun job state r) before after sound (text, is, safe) (inl none, same) = engine_given job state safe none
data_given (EndOfRun job state r) before after sound (text, is, safe) (inr leaves, same) =
    let stops = run_wants {A = Unit {0}} job state r.direction r.steps text before after is safe (run.Steps step.StepRange)
    ((leaves.1, leaves.0), same) in
    let bad : step.StepRange ≡ step.Memory stops.0 = stops.1 in
    cc
data_given (StatesOfRun Shows job state v) before after sound has (inl none, same) = engine_given job state has.0.0 none
data_given (StatesOfRun Shows job state v) before after sound has (inr leaves, same) =
    counter_given job state v.run.direction v.run.steps has.1 leaves.1
data_given (StatesOfStream o states job bytes) before after sound has h = states_given o job bytes before after sound has h

-- nor its code,
rejected_code_given : (t : Task) → HasOutput t → RejectsCode t → ⊥
rejected_code_given (OneText text) has lacks = text_code_given text has lacks
rejected_code_given (TablesOfJob job c) has lacks = tables_code_given job c has lacks
rejected_code_given (EndOfRun job state r) has lacks = code_of_texts_given job state has.2 lacks
rejected_code_given (StatesOfRun Shows job state v) has lacks = code_given Shows.observes job state has.0 lacks
rejected_code_given (StatesOfStream o states job bytes) has lacks = stream_code_given o job bytes has lacks

-- and its stream can be read to its end.
stream_given : (held : Held) (t : Task) (before after : Output) → IsSoundTask t → HasOutput t × IsToldStream held t
    → LosesStream held t before after → ⊥
stream_given held (StatesOfStream o states job bytes) before after sound has h =
    stream_read o job bytes (held states) before after sound has.0 has.1 h
stream_given held _ before after sound has h = h

-- a prefix of an output was printed, since a write failed
begun_failed : (t : Task) (before after : Output) → BeginsOutput t before after → before.failed < after.failed
begun_failed (OneText text) before after h = text_failed text before after h
begun_failed (TablesOfJob job c) before after (f, (said, read, (plan, planned, (n, cut)))) = curve_failed said plan before after f n cut
begun_failed (EndOfRun job state r) before after h = h.1.beginning.failed
begun_failed (StatesOfRun Shows job state v) before after h =
    let same = h.2.shown.wrote.appends.failed in
    let failed = h.2.began.beginning.failed in
    omega (arith, same, failed)
begun_failed (StatesOfStream o states job bytes) before after (part, text, between, split, has, appends, next) =
    let same = appends.failed in
    let more = next.3.beginning.failed in
    omega (arith, same, more)

-- ---- commands

-- the output of a command's stream is sound
sound_task : (c : CommandView) (contents : Contents (files_of c)) → IsSoundTask ((action_of c).task contents)
sound_task (command.Replay r) contents = sound_replayed (plan_of_replay r) contents.0
sound_task (command.Each e) contents = sound_shown (shows_of e.shown) contents.0
sound_task (command.Check job listing progress) contents = of_check job listing contents
  where
    of_check : (job : List ℕ) (listing : Option (List ℕ)) (contents : Contents (check_action job listing).files)
        → IsSoundTask ((check_action job listing).task contents)
    of_check job None contents = tt
    of_check job (Some listing) contents = tt
sound_task _ contents = tt

-- the stream of a command whose files are known is known
stream_known : (held : Held) (c : CommandView) → OfKnownTask held c HasOutput
    → OfKnownTask held c (λ t. HasOutput t × IsToldStream held t)
stream_known held (command.Replay r) (job, known, (bytes, known', h)) = (job, known, (bytes, known', (h, known')))
stream_known held (command.Each e) (job, known, (bytes, known', h)) = (job, known, (bytes, known', (h, known')))
stream_known held (command.Check job listing progress) h = of_check job listing h
  where
    of_check : (job : List ℕ) (listing : Option (List ℕ))
        → OfKnownFiles held (check_action job listing).files (λ x. HasOutput ((check_action job listing).task x))
        → OfKnownFiles held (check_action job listing).files
        (λ x. HasOutput ((check_action job listing).task x) × IsToldStream held ((check_action job listing).task x))
    of_check job None (a, known, h) = (a, known, (h, tt))
    of_check job (Some listing) (a, known, (b, known', h)) = (a, known, (b, known', (h, tt)))
stream_known held c h = known_also held (files_of c) (λ x. HasOutput ((action_of c).task x))
    (λ x. HasOutput ((action_of c).task x) × IsToldStream held ((action_of c).task x)) (λ x has. (has, tt)) h

-- a command with an output, and the contents of its files
output_given : (held : Held) (c : CommandView) (contents : Contents (files_of c)) → AreHeld held (files_of c) contents
    → OfKnownTask held c HasOutput
    → HasOutput ((action_of c).task contents) × IsToldStream held ((action_of c).task contents)
output_given held c contents gives has =
    of_known held (files_of c) contents (λ x. HasOutput ((action_of c).task x) × IsToldStream held ((action_of c).task x)) gives
    (stream_known held c has)

-- ---- what was printed

-- data that are rejected leave the output unchanged, or are behind texts that a stream prints before any error
rejected_before : (status : ℕ) {before after : Output} (t : Task) → RejectsData t before after → (after ≡ before) ⊎ PrintsBefore status t
rejected_before status (OneText text) h = inl h.1
rejected_before status (TablesOfJob job c) h = inl h.1
rejected_before status (EndOfRun job state r) h = inl h.1
rejected_before status (StatesOfRun Shows job state v) h = inl h.1
rejected_before status (StatesOfStream o states job bytes) h = inr tt

-- texts that were left are tables or those of a run that ran out of memory, or of a stream
left_before : (t : Task) (done : ℕ) (before after : Output) → LeavesTexts t done before after
    → (after ≡ before) ⊎ PrintsBefore 4 t
left_before (OneText text) done before after h = absurd h
left_before (TablesOfJob job c) done before after h = inr refl
left_before (EndOfRun job state r) done before after h = inl h.1
left_before (StatesOfRun Shows job state v) done before after h = inr refl
left_before (StatesOfStream o states job bytes) done before after h = inr tt

-- ---- files that gave no bytes

abbrev HasNoFile : {A : Type 0} → CommandFault A → Type 0 → Type 0
HasNoFile f Lacks = ((borrowed : Bor (List ℕ)) × (f ≡ fault.CannotRead borrowed) × Lacks) ⊎ (f ≡ fault.Memory)

file_also : {A : Type 0} (f : CommandFault A) (Lacks Lacks' : Type 0) → (Lacks → Lacks') → HasNoFile f Lacks → HasNoFile f Lacks'
file_also f Lacks Lacks' also (inl h) = inl (h.0, h.1, also h.2)
file_also f Lacks Lacks' also (inr memory) = inr memory

one_unread : {A : Type 0} (held : Held) (path : List ℕ) (requested requested' : Paths) (f : CommandFault A) → IsUnread held path requested requested' f
    → HasNoFile f (IsUnreadable held path requested requested')
one_unread {A} held path requested requested' f h = by_why h.why h.borrowed h.is h.untold
  where
    by_why : (why : ReadFault) (borrowed : Bor (List ℕ)) → f ≡ unread why borrowed → (why ≡ read.CannotRead → held path ≡ None)
        → HasNoFile f (IsUnreadable held path requested requested')
    by_why read.CannotRead borrowed is untold = inl (borrowed, is, (h.requested, untold refl))
    by_why read.Memory borrowed is untold = inr is

files_unread : {A : Type 0} (held : Held) (paths : List (List ℕ)) (requested requested' : Paths) (f : CommandFault A) → IsUnreadOf held paths requested requested' f
    → HasNoFile f (UpTo (IsUnreadable held) paths requested requested')
files_unread held [] requested requested' f h = absurd h
files_unread held (path ∷ more) requested requested' f (inl h) = file_also f _ _ inl (one_unread held path requested requested' f h)
files_unread held (path ∷ more) requested requested' f (inr h) = file_also f _ _ inr (files_unread held more (also_requested requested path) requested' f h)

-- ---- how the program fails

-- memory ran out, or the output failed
abbrev pub IsWanting : Status → Output → Output → Type 0
IsWanting s before after = (s ≡ status.Memory) ⊎ ((s ≡ status.File) × (before.failed < after.failed))

-- the arguments aren't misused, and any command that they name has an output
abbrev pub IsAccepted : List (List ℕ) → Held → Type 0
IsAccepted words held = (IsMisuse words → ⊥) × ((c : CommandView) → IsCommand words c → OfKnownTask held c HasOutput)

module _ (words : List (List ℕ)) (held : Held) (requested requested' : Paths) (out out' err between : Output) where
  -- how it fails with this status
  abbrev pub Fails : Status → Type 0
  Fails status.Done = ⊥
  Fails status.RefusedData = IsRejected words held requested requested' out out' err between
  Fails status.CommandLine = IsMisused words held requested requested' out out' err between
  Fails status.RefusedKernel = IsCodeRejected words held requested requested' out out' err between
  Fails status.Memory = IsOutOfMemory words held requested requested' out out' err between
  Fails status.File = IsFileFailed words held requested requested' out out' err between

  -- the output is kept, or a command printed whole texts before an error with this status
  abbrev pub IsKeptBut : (status : ℕ) → Type 0
  IsKeptBut status = IsKept out out' ⊎ ((c : CommandView) × IsCommand words c × OfTask held c (PrintsBefore status))

  -- memory may run out where the output is unchanged, or after some tables or texts of a stream
  out_of_memory : (c : CommandView) (contents : Contents (files_of c)) → IsCommand words c → AreHeld held (files_of c) contents
      → requested' ≡ requested_by requested c → ReportsMemory (work_of held out out' c) err between
      → (out' ≡ out) ⊎ (MayLeave ((action_of c).task contents) × LeavesTexts ((action_of c).task contents) 0 out out')
      → IsOutOfMemory words held requested requested' out out' err between
  out_of_memory c contents named gives all told (inl same) = inr (inl (same, inr (c, named, told)))
  out_of_memory c contents named gives all told (inr (may, left)) =
      let part = texts_told held out out' c contents err between gives may left told in
      let left' = texts_left ((action_of c).task contents) part.0 out out' may left in
      inl (c, named, all, (part.0, of_task held c contents (λ t. LeavesTexts t part.0 out out') gives left', part.1))

  -- no progress may have been printed, or the fault may be on the way
  begins_or : {A : Type 0} (c : CommandView) (f : CommandFault A) → (out' ≡ out) ⊎ IsOnWay f
      → IsUnbegun (work_of held out out' c) ⊎ IsOnWay f
  begins_or c f (inl same) = inl (subst (λ o. IsUnbegun (work_of held out o c)) (sym same) (unbegun held out c))
  begins_or c f (inr on_way) = inr on_way

  ends_task : {A : Type 0} (c : CommandView) (contents : Contents (files_of c)) (f : CommandFault A)
      → IsCommand words c → AreHeld held (files_of c) contents → requested' ≡ requested_by requested c
      → ReportsBefore (work_of held out out' c) err between f → IsEnded held ((action_of c).task contents) out out' f → Fails (status_of f)
  ends_task c contents f named gives all told (by_data is at rejects) = subst Fails (sym is) (
    c,
    named,
    of_task held c contents (λ t. RejectsData t out out') gives rejects,
    all,
    told_data (work_of held out out' c) err between f (orderly held out out' c) is (begins_or c f at) told,
  )
  ends_task c contents f named gives all told (by_code is rejects same) =
      subst Fails (sym is)
      (c, named, of_task held c contents RejectsCode gives rejects, all, same, told_code (work_of held out out' c) err between f is told)
  ends_task c contents f named gives all told (by_file borrowed is loses) =
      let still = subst (ReportsBefore (work_of held out out' c) err between) is told in
      let read = of_task held c contents (λ t. LosesStream held t out out') gives loses in
      subst Fails (sym (ap status_of is)) (inr (inl (c, named, all, read, still)))
  ends_task c contents f named gives all told (by_output o is begun) =
      let before = subst (ReportsBefore (work_of held out out' c) err between) is told in
      let read = of_task held c contents (λ t. BeginsOutput t out out') gives begun in
      subst Fails (sym (ap status_of is)) (inr (inr (inr (c, named, all, read, before))))
  ends_task c contents f named gives all told (by_memory is left) =
      let before = subst (ReportsBefore (work_of held out out' c) err between) is told in
      subst Fails (sym (ap status_of is)) (out_of_memory c contents named gives all before left)
  ends_task c contents f named gives all told (by_steps done is left) =
      let before = subst (ReportsBefore (work_of held out out' c) err between) is told in
      let read = of_task held c contents (λ t. LeavesTexts t done out out') gives left in
      subst Fails (sym (ap status_of is)) (inl (c, named, all, (done, read, before)))

  ends_unread : {A : Type 0} (c : CommandView) (f : CommandFault A) → IsCommand words c → ReportsBefore (work_of held out out' c) err between f
      → out' ≡ out → HasNoFile f (LacksFile held c requested requested') → Fails (status_of f)
  ends_unread c f named told same (inl (borrowed, is, lacks)) =
      let before = subst (ReportsBefore (work_of held out out' c) err between) is told in
      subst Fails (sym (ap status_of is)) (inl (c, named, lacks, same, before))
  ends_unread c f named told same (inr is) =
      let before = subst (ReportsBefore (work_of held out out' c) err between) is told in
      subst Fails (sym (ap status_of is)) (inr (inl (same, inr (c, named, before))))

  -- arguments that end in a fault fail with its status
  pub ends : {A : Type 0} (f : CommandFault A) → EndsIn words held requested requested' out out' err between f → Fails (status_of f)
  ends f (inl (inl (e, is, misuse, same), still, quiet)) = subst Fails (sym (ap status_of is)) (misuse, still, same, quiet)
  ends f (inl (inr (inl (o, is, wish)), still, quiet)) = subst Fails (sym (ap status_of is)) (inr (inr (inl (wish, still, quiet))))
  ends f (inl (inr (inr (is, same)), still, quiet)) = subst Fails (sym (ap status_of is)) (inr (inl (same, inl quiet)))
  ends f (inr (c, named, inl h, told)) = ends_unread c f named told h.1 (files_unread held (files_of c) requested requested' f h.0)
  ends f (inr (c, named, inr (all, undone), told)) =
      let read = gather held (files_of c) (λ x. IsTaskUndone held ((action_of c).task x) out out' f) undone in
      ends_task c read.0 f named read.1 all told (task_ended held ((action_of c).task read.0) out out' f (sound_task c read.0) read.2)

  -- a write failed
  output_failed : IsOutputFailed words held requested requested' out out' err between → out.failed < out'.failed
  output_failed (inl (inl help, still, quiet)) = help.1.2.failed
  output_failed (inl (inr version, still, quiet)) = version.1.failed
  output_failed (inr (c, named, all, begins, told)) =
      let read = gather held (files_of c) (λ x. BeginsOutput ((action_of c).task x) out out') begins in
      begun_failed ((action_of c).task read.0) out out' read.2

  -- the output is kept, or texts of a task were printed
  kept_task : (status : ℕ) (Holds : Task → Type 0) → ((t : Task) → Holds t → (out' ≡ out) ⊎ PrintsBefore status t) → (c : CommandView)
      → IsCommand words c → OfTask held c Holds → IsKeptBut status
  kept_task status Holds kept c named h =
      let read = gather held (files_of c) (λ x. Holds ((action_of c).task x)) h in
      by_kept read.0 read.1 (kept ((action_of c).task read.0) read.2)
    where
      by_kept : (contents : Contents (files_of c)) → AreHeld held (files_of c) contents
          → (out' ≡ out) ⊎ PrintsBefore status ((action_of c).task contents) → IsKeptBut status
      by_kept contents gives (inl same) = inl (inl same)
      by_kept contents gives (inr before) = inr (c, named, of_task held c contents (PrintsBefore status) gives before)

  -- the output after a failure
  pub kept : (s : Status) → Fails s → IsKeptBut (status_number s)
  kept status.Done h = absurd h
  kept status.RefusedData (c, named, rejects, all, still) = kept_task 1 (λ t. RejectsData t out out') (rejected_before 1) c named rejects
  kept status.CommandLine (misuse, still, same, quiet) = inl (inl same)
  kept status.RefusedKernel (c, named, rejects, all, same, told) = inl (inl same)
  kept status.Memory (inl (c, named, all, (done, left, told))) =
      kept_task 4 (λ t. LeavesTexts t done out out') (λ t. left_before t done out out') c named left
  kept status.Memory (inr (inl (same, told))) = inl (inl same)
  kept status.Memory (inr (inr failed)) = inl (inr (output_failed failed))
  kept status.File (inl (c, named, lacks, same, quiet)) = inl (inl same)
  kept status.File (inr (inl (c, named, all, loses, quiet))) =
      kept_task 5 (λ t. LosesStream held t out out') (λ t h. inr (stream_before t 5 (lost held t out out' h).0)) c named loses
  kept status.File (inr (inr failed)) = inl (inr (output_failed failed))

  -- a command with an output fails for want of memory, or since a write failed
  pub wanting : (s : Status) → IsAccepted words held → Fails s → IsWanting s out out'
  wanting status.Done has h = absurd h
  wanting status.RefusedData has (c, named, rejects, all, still) =
      let read = gather held (files_of c) (λ x. RejectsData ((action_of c).task x) out out') rejects in
      absurd (data_given ((action_of c).task read.0) out out' (sound_task c read.0) (output_given held c read.0 read.1 (has.1 c named)).0 read.2)
  wanting status.CommandLine has (misuse, still, same, quiet) = absurd (has.0 misuse)
  wanting status.RefusedKernel has (c, named, rejects, all, same, told) =
      let read = gather held (files_of c) (λ x. RejectsCode ((action_of c).task x)) rejects in
      absurd (rejected_code_given ((action_of c).task read.0) (output_given held c read.0 read.1 (has.1 c named)).0 read.2)
  wanting status.Memory has h = inl refl
  wanting status.File has (inl (c, named, lacks, same, quiet)) =
      absurd (known_lacks held (files_of c) (λ x. HasOutput ((action_of c).task x)) requested requested' (has.1 c named) lacks)
  wanting status.File has (inr (inl (c, named, all, loses, quiet))) =
      let read = gather held (files_of c) (λ x. LosesStream held ((action_of c).task x) out out') loses in
      absurd (stream_given held ((action_of c).task read.0) out out' (sound_task c read.0) (output_given held c read.0 read.1 (has.1 c named)) read.2)
  wanting status.File has (inr (inr failed)) = inr (refl, output_failed failed)

  -- memory may run out for the text of any error
  memory_of : (s : Status) → Fails s → IsOutOfMemory words held requested requested' out out' err between
  memory_of status.Done h = absurd h
  memory_of status.RefusedData (c, named, rejects, all, still) =
      let read = gather held (files_of c) (λ x. RejectsData ((action_of c).task x) out out') rejects in
      out_of_memory c read.0 named read.1 all (data_memory (work_of held out out' c) err between (orderly held out out' c) still)
      (rejected ((action_of c).task read.0) out out' read.2)
  memory_of status.CommandLine (misuse, still, same, quiet) = inr (inl (same, inl quiet))
  memory_of status.RefusedKernel (c, named, rejects, all, same, inl none) = inr (inl (same, inl none.1))
  memory_of status.RefusedKernel (c, named, rejects, all, same, inr (verifies, (done, is, part))) =
      inr (inl (same, inr (c, named, inl (verifies, (done, part)))))
  memory_of status.Memory h = h
  memory_of status.File (inl (c, named, lacks, same, quiet)) =
      inr (inl (same, inr (c, named, read_memory (work_of held out out' c) err between (orderly held out out' c) quiet)))
  memory_of status.File (inr (inl (c, named, all, loses, quiet))) =
      let read = gather held (files_of c) (λ x. LosesStream held ((action_of c).task x) out out') loses in
      out_of_memory c read.0 named read.1 all (read_memory (work_of held out out' c) err between (orderly held out out' c) quiet)
      (inr (lost_left ((action_of c).task read.0) out out' (lost held ((action_of c).task read.0) out out' read.2)))
  memory_of status.File (inr (inr failed)) = inr (inr failed)

  -- the status with this number is reported, and this is how the program fails with it
  abbrev pub FailsWith : ℕ → Type 0
  FailsWith result = (s : Status) × Fails s × (result ≡ status_number s)

  pub reported : {A : Type 0} (f : CommandFault A) (result : ℕ) (Printed : List ℕ → Type 0) → Fails (status_of f) → IsReported f result Printed
      → FailsWith result
  reported f result Printed fails (inl told) = (status_of f, fails, told.0)
  reported f result Printed fails (inr told) = (status.Memory, memory_of (status_of f) fails, told.0)

  -- how it fails with the status of this number
  pub fails_at : (result : ℕ) (t : Status) → FailsWith result → result ≡ status_number t → Fails t
  fails_at result t (s, h, is) also = subst Fails (one_number s t (sym is ∙ also)) h

  pub failure : (result : ℕ) (err' : Output) → FailsWith result → (text : List ℕ) × IsSaid result text × PrintsIfCounted between err' text
      → IsFailure words held requested requested' out out' err err' result
  failure result err' h (text, said, printed) = record {
    between = between;
    text = text;
    said = said;
    printed = printed;
    input = fails_at result status.RefusedData h;
    misuse = fails_at result status.CommandLine h;
    code = fails_at result status.RefusedKernel h;
    memory = fails_at result status.Memory h;
    file = fails_at result status.File h;
  }
