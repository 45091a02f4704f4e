-- If this page gives an output for the contents of a command's files, none of its reasons to reject them holds.
use Rattle.std.proofs.Common.{◌≡◌, ◌⊎◌, ◌∙◌, ℕ, List, true, false, Some, None, Ok, Err, ap, inl, inr, subst, sym, Result, is_none, Option}
use Rattle.command_line.specs.Commands.{CurveView}
use Rattle.command_line.specs.declared.commands.Quantity.TheVariants as quantity
use Rattle.energy_program.specs.Faults.{Refusal}
use Rattle.integrator.specs.Starts.{energy_refused}
use Rattle.integrator.specs.States.{counter_after}
use Rattle.integrator.specs.declared.direction.Direction.{Direction}
use Rattle.job.specs.JobText.{IsJobText, limits}
use Rattle.job.specs.Values.{JobValue}
use Rattle.kernel_code.specs.declared.instructions.Instr.{Instr}
use Rattle.kernel_code.proofs.ListingLaws.{one_listing, parses_once}
use Rattle.line_text.proofs.StepLaws.{err_is_no_ok, same_ok}
use Rattle.potential.specs.EnergyKernels.{IsCodeRefused, OfEnergy}
use Rattle.potential.specs.Tables.{table_of}
use Rattle.potential.specs.Verdicts.{IsAccepted, IsRefused, IsSlopeKernel}
use Rattle.potential.specs.declared.faults.EnergyFault.TheVariants as energy
use Rattle.state.specs.StateText.{StateView}
use Rattle.verifier.specs.Kernels.{Kernel}
use Rattle.verifier.specs.declared.faults.VerifyFault.{VerifyFault}
use Rattle.line_text.specs.declared.name.Name.{Name}
use Rattle.verifier.specs.Verdicts.{range}
use Rattle.verifier.proofs.OneVerdict.{accepted_alone}
use Rattle.engine.specs.Engines.{AreSafe, CounterFits, CounterLeaves}
use Rattle.engine.specs.declared.faults.InputFault.TheVariants as input
use Rattle.engine.proofs.SpecifiedTexts.{one_job, one_state}
use Rattle.engine.proofs.OneAnswer.{has_engine}
use Rattle.cli.specs.Actions.{CodeText, Explanation, FrameText, ListingVerdict, OfJob, QuantityText, SlopeVerdict, StartText, TablesOfJob, Text}
use Rattle.cli.specs.Command.{GivesText, HasCode, HasOutput}
use Rattle.cli.specs.CommandFailure.{DoNotFit, HasNoEnergyCode, HasNoSlope, HasNoSlopeFor, HaveNoEngine, IsNoJob, LackCode, LackSlope, LacksData, LacksTextCode, RejectsCode}
use Rattle.cli.specs.Conversions.{listed_code_of}
use Rattle.cli.specs.CurveTexts.{HasPair, LacksPair, Names}

-- a statement about the job of a text is one about any job of the text
of_one : (job : List ℕ) (j k : JobValue) (Holds : JobValue → Type 0) → IsJobText limits job j → IsJobText limits job k → Holds j
    → Holds k
of_one job j k Holds is also h = subst Holds (one_job job j k is also) h

-- ---- code

accepted_given : (j : JobValue) (code : List Instr) (k : Kernel) (f : VerifyFault) (types : Option (Name × Name))
    → IsAccepted j code k → IsRefused j code f types → ⊥
accepted_given j code k f types is h =
    err_is_no_ok f k.bound (accepted_alone code (table_of j) (range j.core j.cutoff j.slices 24) k.bound (Err f) is.judged h.judged)

slope_given : (j : JobValue) (k : Kernel) → IsSlopeKernel j k → HasNoSlope j → ⊥
slope_given j k is (inl (r, none)) = err_is_no_ok r is.energy (sym none ∙ is.made)
slope_given j k is (inr (f, types, h)) =
    let same = same_ok h.energy is.energy (sym h.made ∙ is.made) in
    accepted_given j is.energy.code k f types is.accepted (subst (λ e. IsRefused j e.code f types) same h.why)

compiled_given : (j : JobValue) (answer : Result (List Instr) Refusal) (code : List Instr) (k : Kernel) → answer ≡ Ok code
    → IsAccepted j code k → ((r : Refusal) × (answer ≡ Err r))
    ⊎ ((f : VerifyFault) × (types : Option (Name × Name)) × IsCodeRefused j answer f types) → ⊥
compiled_given j answer code k is accepted (inl (r, none)) = err_is_no_ok r code (sym none ∙ is)
compiled_given j answer code k is accepted (inr (f, types, h)) =
    let same = same_ok h.code code (sym h.is ∙ is) in
    accepted_given j code k f types accepted (subst (λ c. IsRefused j c f types) same h.why)

energy_given : (j : JobValue) (code : List Instr) (k : Kernel) → OfEnergy j (λ answer. answer ≡ Ok code) → IsAccepted j code k
    → HasNoEnergyCode j → ⊥
energy_given j code k is accepted h =
    let same = same_ok h.program is.program (sym h.its ∙ is.its) in
    compiled_given j _ code k is.it accepted (rw same at h.it)

-- ---- engines

-- texts whose slope code is accepted have an engine
pub engine_given : (job state : List ℕ) → AreSafe job state → HaveNoEngine job state → ⊥
engine_given job state safe (inl none) = none safe.j safe.job_text
engine_given job state safe (inr (inl none)) = none safe.s safe.state_text'
engine_given job state safe (inr (inr h)) = by_misfit h.it
  where
    by_misfit : DoNotFit h.j h.s → ⊥
    by_misfit (inl (f, refused)) = has_engine {A = Unit {0}} job state (input.System f) safe
        (record { j = h.j; s = h.s; job_text = h.job_text; state_text' = h.state_text'; it = refused })
    by_misfit (inr passes) = has_engine {A = Unit {0}} job state input.ForceRange safe
        (record { j = h.j; s = h.s; job_text = h.job_text; state_text' = h.state_text'; it = passes })

-- and their slope code isn't rejected
pub code_of_texts_given : (job state : List ℕ) → AreSafe job state → LackSlope job state → ⊥
code_of_texts_given job state safe h = by_code h.it
  where
    by_code : HasNoSlopeFor h.j h.s → ⊥
    by_code (inl (r, refused)) =
        let same = rw (one_job job h.j safe.j h.job_text safe.job_text, one_state state h.s safe.s h.state_text' safe.state_text') at refused in
        err_is_no_ok (energy_refused r) safe.it.system (sym same ∙ safe.it.made)
    by_code (inr slope) = has_engine {A = Unit {0}} job state (input.Energy (energy.Kernel slope.it.0 slope.it.1)) safe (record {
      j = h.j;
      s = h.s;
      job_text = h.job_text;
      state_text' = h.state_text';
      it = record { system = slope.system; made = slope.made; it = slope.it.2 };
    })

-- nor the code of the energy itself, if the output has energies
pub code_given : (Energies : Type 0) (job state : List ℕ) → HasCode Energies job state → LackCode Energies job state → ⊥
code_given Energies job state has (inl lacks) = code_of_texts_given job state has.0 lacks
code_given Energies job state has (inr (energies, safe, h)) =
    let is = has.1 energies in
    energy_given is.said is.code is.kernel is.compiled is.accepted
    (of_one job h.j is.said HasNoEnergyCode h.job_text is.job_text h.it)

-- If the step counter fits 64 bits after a run, it doesn't leave 64 bits.
pub counter_given : (job state : List ℕ) (w : Direction) (n : ℕ) → CounterFits job state w n → CounterLeaves job state w n → ⊥
counter_given job state w n fits leaves =
    let same = one_state state leaves.s fits.s leaves.state_text' fits.state_text' in
    let none : counter_after w fits.s.step n ≡ None = subst (λ (s : StateView). counter_after w s.step n ≡ None) same leaves.it in
    let bad : true ≡ false = sym (ap is_none none) ∙ fits.it in
    cc

-- ---- texts

-- If each of the names is a type's, no name is lacking.
pair_given : (j : JobValue) (names : Names) → HasPair j names → LacksPair j names → ⊥
pair_given j None has lacks = lacks
pair_given j (Some two) (None, is) lacks = is
pair_given j (Some two) (Some pair, is) (inl lacks) = lacks pair.0 is.0
pair_given j (Some two) (Some pair, is) (inr lacks) = lacks pair.1 is.1

-- If the page gives a text, its data aren't rejected.
pub text_given : (t : Text) → GivesText t → LacksData t → ⊥
text_given (StartText job gro frame) is lacks = lacks is
text_given (FrameText state) is lacks = lacks is.said is.state_text'
text_given (QuantityText q job state) has lacks = engine_given job state has.0 lacks
text_given (SlopeVerdict job) is lacks = lacks is.said is.job_text
text_given (ListingVerdict job listing) is (inl lacks) = lacks is.said is.job_text
text_given (ListingVerdict job listing) is (inr lacks) = lacks is.code is.listed is.listing_text
text_given (CodeText job energy) is lacks = lacks is.said is.job_text
text_given (Explanation code) is lacks = lacks

-- nor its code
pub text_code_given : (t : Text) → GivesText t → LacksTextCode t → ⊥
text_code_given (StartText job gro frame) is lacks = lacks
text_code_given (FrameText state) is lacks = lacks
text_code_given (QuantityText q job state) has lacks = code_given (q ≡ quantity.Energy) job state has lacks
text_code_given (SlopeVerdict job) is (j, read, none) =
    slope_given is.said is.kernel is.slope (of_one job j is.said HasNoSlope read is.job_text none)
text_code_given (ListingVerdict job listing) is (j, read, (code, listed, text, (f, types, refused))) =
    let reads = (one_listing listing code).1 (listed, text) in
    let also = (one_listing listing is.code).1 (is.listed, is.listing_text) in
    let same = same_ok code is.code (parses_once listing (Ok code) (Ok is.code) reads also) in
    accepted_given is.said is.code is.kernel f types is.accepted
    (subst (λ c. IsRefused is.said c f types) same (of_one job j is.said (λ k. IsRefused k code f types) read is.job_text refused))
text_code_given (CodeText job energy) is (j, read, (r, none)) =
    err_is_no_ok r is.code (sym (of_one job j is.said (λ k. listed_code_of energy k ≡ Err r) read is.job_text none) ∙ is.compiled)
text_code_given (Explanation code) is lacks = lacks

-- ---- tables

-- If the page gives tables, their data aren't rejected.
pub tables_given : (job : List ℕ) (c : CurveView) → HasOutput (TablesOfJob job c) → IsNoJob job ⊎ OfJob job (λ j. LacksPair j c.types) → ⊥
tables_given job c is (inl lacks) = lacks is.0.said is.0.job_text
tables_given job c is (inr (j, read, lacks)) =
    pair_given j c.types (of_one job is.2.said j (λ k. HasPair k c.types) is.2.job_text read is.2.has) lacks

-- nor their code
pub tables_code_given : (job : List ℕ) (c : CurveView) → HasOutput (TablesOfJob job c) → RejectsCode (TablesOfJob job c) → ⊥
tables_code_given job c is (j, read, (has, inl none)) =
    slope_given is.0.said is.0.kernel is.0.slope (of_one job j is.0.said HasNoSlope read is.0.job_text none)
tables_code_given job c is (j, read, (has, inr (slope, none))) =
    energy_given is.1.said is.1.code is.1.kernel is.1.compiled is.1.accepted
    (of_one job j is.1.said HasNoEnergyCode read is.1.job_text none)
