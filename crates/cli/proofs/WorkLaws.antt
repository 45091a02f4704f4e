-- Laws of the progress of `check` and `curve`: the lines of a work of parts are those of the command.
use Rattle.std.proofs.Common.{◌≡◌, ◌∙◌, ◌≤◌, ℕ, List, Bool, true, false, Option, Some, arith, inl, inr, map, refl, subst, sym, IfErr, OnOk, Result, Ok, Err, codes}
use Rattle.command_line.specs.Commands.{CurveView}
use Rattle.curves.specs.Progress.{IsRefusedAfter}
use Rattle.curves.specs.Tables.{IsCurve, curve_parts}
use Rattle.curves.specs.Writing.{IsCurveUnwritten, WroteSome}
use Rattle.curves.specs.declared.faults.CurveFault.{CurveFault}
use Rattle.curves.specs.declared.faults.CurveFault.TheVariants as curve
use Rattle.curves.specs.declared.plans.CurvePlan.{CurvePlan}
use Rattle.curves.proofs.WritingLaws.{stopped_few}
use Rattle.energy_program.specs.Faults as energies
use Rattle.engine.specs.declared.faults.InputFault.TheVariants as input
use Rattle.fallible.specs.Failures.{IfRefused}
use Rattle.fallible.specs.Out.{Appends, Output}
use Rattle.fallible.specs.declared.failure.Failure.{Failure}
use Rattle.fallible.specs.declared.failure.Failure.TheVariants.{Memory, Refused}
use Rattle.integrator.specs.declared.faults.StepFault.TheVariants as step
use Rattle.job.specs.JobText.{IsJobText, limits}
use Rattle.job.specs.Values.{JobValue}
use Rattle.kernel_code.specs.Listing.{ParsesAs}
use Rattle.kernel_code.specs.declared.instructions.Instr.{Instr}
use Rattle.line_text.proofs.StepLaws.{same_ok}
use Rattle.potential.proofs.EnergyLaws.{energy_code_by}
use Rattle.potential.proofs.ReportLaws.{few}
use Rattle.potential.specs.Energies.{energy_code_of, slope_code_of}
use Rattle.potential.specs.EnergyKernels.{HasNoEnergyKernel}
use Rattle.potential.specs.Progress.{IsPassedBefore, slices_of}
use Rattle.potential.specs.Verdicts.{HasNoKernel, HasNoSlopeKernel, IsVerdictUnder}
use Rattle.potential.specs.declared.faults.EnergyFault.{EnergyFault}
use Rattle.potential.specs.declared.faults.EnergyFault.TheVariants as energy
use Rattle.runs.specs.Watching.{hundredths, hundredths_behind}
use Rattle.cli.specs.Actions.{AllLines, AreSlices, AreTableLines, FirstLines, Held, IsHeld, OfFile, OfJob, OfListing, RejectsAfter, RejectsChecked, RejectsCurve, Work, check_work, curve_work, parts_work, printing_work, progress_line, tables_work}
use Rattle.cli.specs.Command.{PrintsLines, ReportsAll}
use Rattle.cli.specs.CommandFailure.{ReportsCode, ReportsReplayed}
use Rattle.cli.specs.CurveTexts.{IsPlanOf, OfPlan, OfTables}
use Rattle.cli.specs.Failures.{command_fault, fault_of_curve}
use Rattle.cli.specs.Performed.{WritesLine}
use Rattle.cli.specs.Progress.{Passes, Reports, ReportsBefore, ReportsIf, ReportsParts, ReportsTables, word_for}
use Rattle.cli.specs.declared.faults.CommandFault.{CommandFault}
use Rattle.cli.specs.declared.faults.CommandFault.TheVariants as fault
use Rattle.cli.specs.declared.progress.Counted.{Counted}
use Rattle.cli.specs.declared.progress.Counted.TheVariants as counted
use Rattle.cli.proofs.ProgressLaws.{all_parts, lines_also, part_also, whole_also}

-- ---- lines of a watcher

-- the lines of all hundredths are all progress lines
pub whole_printed : (progress : Bool) (word : List ℕ) (IsAll : ℕ → Type 0) (all : ℕ) (before after : Output) → IsAll all
    → ReportsIf progress word all before after (hundredths all) → PrintsLines progress (AllLines word IsAll) before after
whole_printed true word IsAll all before after is told = (map (progress_line word all) (hundredths all), (all, is, refl), told)
whole_printed false word IsAll all before after is told = told

-- the lines of the hundredths among the first parts are the progress lines of these parts
part_printed : (progress : Bool) (word : List ℕ) (IsAll : ℕ → Type 0) (all done : ℕ) (before after : Output) → IsAll all → done ≤ all
    → ReportsIf progress word all before after (hundredths_behind all 0 done)
    → PrintsLines progress (FirstLines word IsAll done) before after
part_printed true word IsAll all done before after is few told =
    (map (progress_line word all) (hundredths_behind all 0 done), (all, is, few, refl), told)
part_printed false word IsAll all done before after is few told = told

-- the parts that a new watcher of a work of this many parts has reported, as progress lines of the work
new_passed : (progress progress' : Bool) (kind kind' : Counted) (all all' done done' : ℕ) (before before' after : Output) (n : ℕ)
    → progress' ≡ progress → kind' ≡ kind → all' ≡ all → done ≡ 0 → before' ≡ before
    → Passes progress' (word_for kind') all' done done' before' after n → Passes progress (word_for kind) all 0 done' before after n
new_passed progress progress' kind kind' all all' done done' before before' after n same-progress same-kind same-all none same h =
    subst (λ o. Passes progress (word_for kind) all 0 done' o after n) same
    (subst (λ m. Passes progress (word_for kind) all m done' before' after n) none
    (subst (λ m. Passes progress (word_for kind) m done done' before' after n) same-all
    (subst (λ w. Passes progress (word_for w) all' done done' before' after n) same-kind
    (subst (λ p. Passes p (word_for kind') all' done done' before' after n) same-progress h))))

-- the parts that a new watcher of a work of this many parts has reported: all, or those before a failure
pub parts_reported : {T F : Type 0} (r : Result T F) (progress progress' : Bool) (kind kind' : Counted) (all all' done done' : ℕ)
    (IsBefore : F → ℕ → Type 0) (before before' after : Output) (Passed : ℕ → Type 0)
    → progress' ≡ progress → kind' ≡ kind → all' ≡ all → done ≡ 0 → before' ≡ before
    → OnOk r (Passed all) → IfErr r (λ f. (n : ℕ) × (n ≤ all) × IsBefore f n × Passed n)
    → ((n : ℕ) → Passed n → Passes progress' (word_for kind') all' done done' before' after n)
    → ReportsParts progress (word_for kind) all IsBefore before after r
parts_reported {T} {F} r progress progress' kind kind' all all' done done' IsBefore before before' after Passed same-progress same-kind same-all
    none same whole part passes = by_result r whole part
  where
    passed : (n : ℕ) → Passed n → Passes progress (word_for kind) all 0 done' before after n
    passed n h = new_passed progress progress' kind kind' all all' done done' before before' after n same-progress same-kind same-all none same (passes n h)

    by_result : (r : Result T F) → OnOk r (Passed all) → IfErr r (λ f. (n : ℕ) × (n ≤ all) × IsBefore f n × Passed n)
        → ReportsParts progress (word_for kind) all IsBefore before after r
    by_result (Ok x) whole part = (passed all whole (omega arith)).1
    by_result (Err f) whole (n, few, stopped, h) = (n, few, stopped, (passed n h (omega (arith, few))).1)

-- likewise of a curve: all parts, or those before the fault
pub tables_reported : {T A : Type 0} (r : Result T (CurveFault A)) (j : JobValue) (plan : CurvePlan) (out out' : Output)
    (progress progress' : Bool) (kind' : Counted) (all' done done' : ℕ) (before before' after : Output) (Passed : ℕ → Type 0)
    → progress' ≡ progress → kind' ≡ counted.Parts → all' ≡ curve_parts j plan → done ≡ 0 → before' ≡ before
    → OnOk r (WroteSome (IsCurve j plan) (Appends out out')) → OnOk r (Passed (curve_parts j plan))
    → IfErr r (λ f. (n : ℕ) × IsCurveUnwritten j plan out out' f n × Passed n)
    → ((n : ℕ) → Passed n → Passes progress' (word_for kind') all' done done' before' after n)
    → ReportsTables progress j plan out out' before after r
tables_reported {T} {A} r j plan out out' progress progress' kind' all' done done' before before' after Passed same-progress same-kind same-all none same
    wrote whole part passes = by_result r wrote whole part
  where
    passed : (n : ℕ) → Passed n → Passes progress (codes "parts") (curve_parts j plan) 0 done' before after n
    passed n h =
        new_passed progress progress' counted.Parts kind' (curve_parts j plan) all' done done' before before' after n
        same-progress same-kind same-all none same (passes n h)

    by_result : (r : Result T (CurveFault A)) → OnOk r (WroteSome (IsCurve j plan) (Appends out out')) → OnOk r (Passed (curve_parts j plan))
        → IfErr r (λ f. (n : ℕ) × IsCurveUnwritten j plan out out' f n × Passed n) → ReportsTables progress j plan out out' before after r
    by_result (Ok x) wrote whole part = (wrote, (passed (curve_parts j plan) whole (omega arith)).1)
    by_result (Err f) wrote whole (n, cut, h) =
        let few = stopped_few j plan out out' f n cut in
        (n, cut, few, (passed n h (omega (arith, few))).1)

-- at most all slices are reported before code is rejected
pub slices_within : {T A : Type 0} (r : Result T (Failure (EnergyFault A))) (j : JobValue) (made : Result (List Instr) energies.Refusal)
    (Passed : ℕ → Type 0) → IfErr r (λ failure. (n : ℕ) × IsPassedBefore j made failure n × Passed n)
    → IfErr r (λ failure. (n : ℕ) × (n ≤ slices_of j) × IsPassedBefore j made failure n × Passed n)
slices_within (Ok x) j made Passed h = tt
slices_within (Err f) j made Passed (n, stopped, h) = (n, few j made n f stopped, stopped, h)

-- ---- the parts before rejected code

-- the slices before the slope's code is rejected
pub slope_rejects : {A : Type 0} (j : JobValue) (n : ℕ) (failure : Failure (EnergyFault A)) → IfRefused failure (HasNoSlopeKernel j)
    → IsPassedBefore j (slope_code_of j) failure n → IfRefused failure (λ _. RejectsAfter j (slope_code_of j) n)
slope_rejects j n (Refused (energy.Energy f)) why none = inl ((energies.refusal_of f, rw why refl), none)
slope_rejects j n (Refused (energy.Kernel f types)) why (code, is, passed) =
    let made : slope_code_of j ≡ Ok why.energy.code = rw why.made refl in
    let same : why.energy.code ≡ code = same_ok why.energy.code code (sym made ∙ is) in
    inr (code, is, (f, subst (λ c. IsVerdictUnder j c (Err f)) same why.why.judged, passed))
slope_rejects j n Memory why h = tt

-- the slices before the code of a listing is rejected
pub listing_rejects : {A : Type 0} (j : JobValue) (listing : List ℕ) (code : List Instr) (n : ℕ) (failure : Failure (EnergyFault A))
    → ParsesAs listing (Ok code) → IfRefused failure (HasNoKernel j code) → IsPassedBefore j (Ok code) failure n
    → IfRefused failure (λ _. RejectsChecked (Some listing) j n)
listing_rejects j listing code n (Refused (energy.Energy f)) parses why none = absurd why
listing_rejects j listing code n (Refused (energy.Kernel f types)) parses why (code', is, passed) =
    let same : code ≡ code' = same_ok code code' is in
    (code, parses, inr (code', is, (f, subst (λ c. IsVerdictUnder j c (Err f)) same why.judged, passed)))
listing_rejects j listing code n Memory parses why h = tt

-- the slices before the code of the energy itself is rejected
energy_rejects : {A : Type 0} (j : JobValue) (n : ℕ) (f : EnergyFault A) → HasNoEnergyKernel j f
    → IsPassedBefore j (energy_code_of j) (Refused f) n → RejectsAfter j (energy_code_of j) n
energy_rejects j n (energy.Energy f) why none = inl ((energies.refusal_of f, energy_code_by j why.program why.its ∙ why.it), none)
energy_rejects j n (energy.Kernel f types) why (code, is, passed) =
    let made : energy_code_of j ≡ Ok why.it.code = energy_code_by j why.program why.its ∙ why.it.is in
    let same : why.it.code ≡ code = same_ok why.it.code code (sym made ∙ is) in
    inr (code, is, (f, subst (λ c. IsVerdictUnder j c (Err f)) same why.it.why.judged, passed))

-- the parts before one of the codes of `curve` is rejected
curve_rejects : {A : Type 0} (j : JobValue) (n : ℕ) (f : EnergyFault A) → IsRefusedAfter j f n → RejectsCurve j n
curve_rejects j n f (inl (why, before)) = inl (slope_rejects j n (Refused f) why before)
curve_rejects j n f (inr after) =
    inr ((after.slope, after.is_slope), (after.more, energy_rejects j after.more f after.why after.after, after.count))

-- ---- faults

-- the progress before a failed call that rejects an energy or its code, after these parts
pub energy_told : {A : Type 0} (progress : Bool) (word : List ℕ) (IsAll Rejects : ℕ → Type 0) (all done : ℕ) (before after : Output)
    (failure : Failure (EnergyFault A)) → IsAll all → done ≤ all → IfRefused failure (λ f. Rejects done)
    → ReportsIf progress word all before after (hundredths_behind all 0 done)
    → ReportsBefore (parts_work progress word IsAll Rejects) before after (command_fault (λ f. fault.Rejected (input.Energy f)) failure)
energy_told progress word IsAll Rejects all done before after (Refused f) is few rejects told =
    inr (tt, (done, rejects, part_printed progress word IsAll all done before after is few told))
energy_told progress word IsAll Rejects all done before after Memory is few rejects told =
    inl (tt, (done, part_printed progress word IsAll all done before after is few told))

-- the progress before tables of a plan aren't all written
pub tables_told : {A : Type 0} (progress : Bool) (j : JobValue) (c : CurveView) (plan : CurvePlan) (out out' before after : Output)
    (f : CurveFault A) (n : ℕ) → IsPlanOf j c plan → IsCurveUnwritten j plan out out' f n → n ≤ curve_parts j plan
    → ReportsIf progress (codes "parts") (curve_parts j plan) before after (hundredths_behind (curve_parts j plan) 0 n)
    → ReportsBefore (tables_work progress (λ Holds. OfPlan j c (Holds j)) out out') before after (fault_of_curve f)
tables_told progress j c plan out out' before after (curve.Rejected f) n is cut few told =
    let lines = part_printed progress (codes "parts") (λ all. OfPlan j c (λ p. all ≡ curve_parts j p)) (curve_parts j plan) n before after
    (plan, is, refl) few told in
    inr (tt, (n, (plan, is, curve_rejects j n f cut.2), lines))
tables_told progress j c plan out out' before after curve.Memory n is cut few told =
    inl (
      tt,
      (
        n,
        part_printed progress (codes "parts") (λ all. OfPlan j c (λ p. all ≡ curve_parts j p)) (curve_parts j plan) n before after
            (plan, is, refl) few told,
      ),
    )
tables_told true j c plan out out' before after (curve.Out o) n is cut few told = (
  map (progress_line (codes "parts") (curve_parts j plan)) (hundredths_behind (curve_parts j plan) 0 n),
  (plan, is, (o, n, cut, (curve_parts j plan, refl, few, refl))),
  told,
)
tables_told false j c plan out out' before after (curve.Out o) n is cut few told = told

module _ (progress : Bool) (word : List ℕ) (IsAll IsAll' Rejects Rejects' : ℕ → Type 0) (AreTexts AreTexts' : List (List ℕ) → Type 0)
    (before after : Output) (also : (all : ℕ) → IsAll all → IsAll' all) (rejects : (done : ℕ) → Rejects done → Rejects' done)
    (texts : (lines : List (List ℕ)) → AreTexts lines → AreTexts' lines) where
  abbrev work : Work
  work = printing_work progress word IsAll Rejects AreTexts

  abbrev work' : Work
  work' = printing_work progress word IsAll' Rejects' AreTexts'

  -- a work that verifies code replays no stream
  not_replayed : (Printed Printed' : Type 0) → ReportsReplayed work before after Printed → ReportsReplayed work' before after Printed'
  not_replayed Printed Printed' (inl none) = inl none
  not_replayed Printed Printed' (inr bad) = absurd bad.0

  code_also : ReportsCode work before after → ReportsCode work' before after
  code_also (inl none) = inl none
  code_also (inr (verifies, (done, is, h))) =
      inr (verifies, (done, rejects done is, part_also progress word IsAll IsAll' done before after also h))

  before_also : {A : Type 0} (f : CommandFault A) → ReportsBefore work before after f → ReportsBefore work' before after f
  before_also (fault.Out o) h = lines_also progress AreTexts AreTexts' before after texts h
  before_also (fault.Rejected (input.Energy f)) h = code_also h
  before_also fault.Memory (inl (verifies, (done, h))) =
      inl (verifies, (done, part_also progress word IsAll IsAll' done before after also h))
  before_also fault.Memory (inr h) = inr (not_replayed _ _ h)
  before_also (fault.CannotRead path) h = not_replayed _ _ h
  before_also (fault.InState n (input.Energy f)) h = code_also h
  before_also (fault.InState n (input.Job f)) h = not_replayed _ _ h
  before_also (fault.InState n (input.State f)) h = not_replayed _ _ h
  before_also (fault.InState n (input.System f)) h = not_replayed _ _ h
  before_also (fault.InState n input.ForceRange) h = not_replayed _ _ h
  before_also (fault.NotOneRun n) h = not_replayed _ _ h
  before_also (fault.Steps (step.Memory done)) h = part_also progress word IsAll IsAll' done before after also h
  before_also _ h = h

  reports_also : {T A : Type 0} (r : Result T (CommandFault A)) → Reports work before after r → Reports work' before after r
  reports_also (Ok x) h = whole_also progress word IsAll IsAll' before after also h
  reports_also (Err f) h = before_also f h

-- the numbers of parts of a work, of all and before rejected code, satisfy each weaker statement
pub work_also : {T A : Type 0} (r : Result T (CommandFault A)) (progress : Bool) (word : List ℕ) (IsAll IsAll' Rejects Rejects' : ℕ → Type 0)
    (before after : Output) → ((all : ℕ) → IsAll all → IsAll' all) → ((done : ℕ) → Rejects done → Rejects' done)
    → Reports (parts_work progress word IsAll Rejects) before after r → Reports (parts_work progress word IsAll' Rejects') before after r
work_also r progress word IsAll IsAll' Rejects Rejects' before after also rejects =
    reports_also progress word IsAll IsAll' Rejects Rejects' (AllLines word IsAll) (AllLines word IsAll') before after also rejects
    (λ lines told. (told.0, also told.0 told.1, told.2)) r

-- likewise the job and the plan of tables
tables_also : {T A : Type 0} (r : Result T (CommandFault A)) (progress : Bool) (Of Of' : (JobValue → CurvePlan → Type 0) → Type 0)
    (out out' before after : Output) → ((Holds : JobValue → CurvePlan → Type 0) → Of Holds → Of' Holds)
    → Reports (tables_work progress Of out out') before after r → Reports (tables_work progress Of' out out') before after r
tables_also r progress Of Of' out out' before after also =
    reports_also progress (codes "parts") (λ all. Of (λ j plan. all ≡ curve_parts j plan)) (λ all. Of' (λ j plan. all ≡ curve_parts j plan))
    (λ done. Of (λ j plan. RejectsCurve j done)) (λ done. Of' (λ j plan. RejectsCurve j done))
    (λ lines. Of (λ j plan. AreTableLines j plan out out' lines)) (λ lines. Of' (λ j plan. AreTableLines j plan out out' lines))
    before after (λ all. also (λ j plan. all ≡ curve_parts j plan)) (λ done. also (λ j plan. RejectsCurve j done))
    (λ lines. also (λ j plan. AreTableLines j plan out out' lines)) r

-- the progress of the tables of a job, from the progress according to a plan
pub tables_of_job : {T A : Type 0} (r : Result T (CommandFault A)) (progress : Bool) (job : List ℕ) (j : JobValue) (c : CurveView)
    (out out' before after : Output) → IsJobText limits job j
    → Reports (tables_work progress (λ Holds. OfPlan j c (Holds j)) out out') before after r
    → Reports (tables_work progress (OfTables job c) out out') before after r
tables_of_job r progress job j c out out' before after read =
    tables_also r progress (λ Holds. OfPlan j c (Holds j)) (OfTables job c) out out' before after (λ Holds is. (j, read, is))

-- ---- a line after the work

-- a line written after all parts
pub line_told : {T A : Type 0} (r : Result T (CommandFault A)) (progress : Bool) (word : List ℕ) (IsAll Rejects : ℕ → Type 0)
    (before after : Output) (text : List ℕ) (out out' : Output) → ReportsAll (parts_work progress word IsAll Rejects) before after
    → WritesLine text out out' r → Reports (parts_work progress word IsAll Rejects) before after r
line_told (Ok x) progress word IsAll Rejects before after text out out' whole h = whole
line_told (Err f) progress word IsAll Rejects before after text out out' whole (inl (is, same)) =
    subst (ReportsBefore (parts_work progress word IsAll Rejects) before after) (sym is)
    (inl (tt, all_parts progress word IsAll before after whole))
line_told (Err f) progress word IsAll Rejects before after text out out' whole (inr (o, is, begun)) =
    subst (ReportsBefore (parts_work progress word IsAll Rejects) before after) (sym is) whole

-- ---- commands

-- the progress of `check` from the texts of its job and of its listing
pub check_reports : {T A : Type 0} (r : Result T (CommandFault A)) (held : Held) (path : List ℕ) (listing : Option (List ℕ)) (job : List ℕ)
    (code : Option (List ℕ)) (progress : Bool) (before after : Output) → IsHeld held path job
    → ((Holds : Option (List ℕ) → Type 0) → Holds code → OfListing held listing Holds)
    → Reports (parts_work progress (codes "slices") (AreSlices job) (λ done. OfJob job (λ j. RejectsChecked code j done))) before after r
    → Reports (check_work held path listing progress) before after r
check_reports r held path listing job code progress before after known listed =
    work_also r progress (codes "slices") (AreSlices job) (λ all. OfFile held path (λ text. AreSlices text all))
    (λ done. OfJob job (λ j. RejectsChecked code j done)) (check_work held path listing progress).rejects before after
    (λ all is. (job, known, is)) (λ done is. (job, known, listed (λ code. OfJob job (λ j. RejectsChecked code j done)) is))

-- the progress of `curve` from the text of its job
pub curve_reports : {T A : Type 0} (r : Result T (CommandFault A)) (held : Held) (c : CurveView) (job : List ℕ)
    (out out' before after : Output)
    → IsHeld held c.job job → Reports (tables_work c.progress (OfTables job c) out out') before after r
    → Reports (curve_work held out out' c) before after r
curve_reports r held c job out out' before after known =
    tables_also r c.progress (OfTables job c) (λ Holds. OfFile held c.job (λ text. OfTables text c Holds)) out out' before after
    (λ Holds is. (job, known, is))
