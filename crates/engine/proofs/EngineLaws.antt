-- Engines: properties that follow from their parts, and steps of engines as runs.
use Rattle.std.proofs.Common.{◌≡◌, ℕ, ◌-◌, ◌*◌, ◌^◌, ◌≤◌, true, false, List, ℤ, pos, ◌+ℤ◌, ◌-ℤ◌, Some, Ok, arith, refl, sym, ◌<◌, is_none, is_some, Option, None, Result, Err, subst, ◌∙◌}
use Rattle.std.specs.Bool.{OnFalse, OnTrue}
use Rattle.std.proofs.lemmas.Int.{ints}
use Rattle.fixed.specs.Arithmetic.{in_range}
use Rattle.fixed.proofs.IntegerLaws.{in_range_between, in_range_is}
use Rattle.verifier.specs.Kernels.{Kernel}
use Rattle.verifier.specs.Safety.{IsCertified}
use Rattle.job.specs.Values.{JobValue}
use Rattle.kernel_code.specs.declared.instructions.Instr.{Instr}
use Rattle.state.specs.StateText.{IsState, StateView}
use Rattle.integrator.proofs.CounterLaws.{counter_fits}
use Rattle.integrator.proofs.ReturnLaws.{system-moved}
use Rattle.potential.specs.Energies.{Energy, energy_of, job_tree}
use Rattle.engine.specs.Faults.{IsRefusedBy}
use Rattle.engine.specs.Engines.{AreSafe, CounterFits, CounterLeaves, EngineView, HasNoEngine, HasNoEngineOfTexts, IsEngineOf, IsEngineOfTexts, IsTyped, OfTexts}
use Rattle.engine.specs.RunSpecification.{IsTextOf}
use Rattle.engine.specs.declared.faults.InputFault.{InputFault}
use Rattle.engine.specs.declared.faults.InputFault.TheVariants as input
use Rattle.job.specs.JobText.{IsJobText, limits}
use Rattle.potential.specs.Tables.{table_of}
use Rattle.integrator.specs.Starts.{system_of}
use Rattle.integrator.specs.Frames.{Frames}
use Rattle.integrator.specs.States.{counter_after, counter_at, moved_state}
use Rattle.engine.specs.Counting.{AllFit}
use Rattle.potential.specs.Verdicts.{HasNoKernel, IsAccepted}
use Rattle.potential.specs.declared.faults.EnergyFault.{EnergyFault}
use Rattle.potential.specs.declared.faults.EnergyFault.TheVariants as energy
use Rattle.engine.specs.Ranges.{IsSafeFor, PassesRange}
use Rattle.integrator.specs.declared.direction.Direction.{Direction}
use Rattle.integrator.specs.declared.direction.Direction.TheVariants.{Forward, Back}
use Rattle.fallible.specs.Failures.{Fails, IfRefused}
use Rattle.fallible.specs.declared.failure.Failure.{Failure}
use Rattle.fallible.specs.declared.failure.Failure.TheVariants.{Memory, Refused}

-- ---- some of the steps

fits_between : (w : Direction) (z : ℤ) (k n : ℕ) → in_range z ≡ true → in_range (counter_at w z n) ≡ true → k ≤ n → in_range (counter_at w z k) ≡ true
fits_between Forward z k n h f l = in_range_between z (z +ℤ pos k) (z +ℤ pos n) h f (omega (arith, ints)) (omega (arith, ints))
fits_between Back z k n h f l = in_range_between (z -ℤ pos n) (z -ℤ pos k) z f h (omega (arith, ints)) (omega (arith, ints))

-- If the counter fits after all steps, it fits after each of them.
pub each_fits : (w : Direction) (z : ℤ) (n : ℕ) → in_range z ≡ true → is_none (counter_after w z n) ≡ false → AllFit w z n
each_fits w z n h s k l =
    let fits = fits_between w z k n h (counter_fits w z n s) l in
    rw fits refl

-- the answers of the judgment of the counter
pub judged : (w : Direction) (z : ℤ) (n : ℕ) (o : Option ℤ) → in_range z ≡ true → o ≡ counter_after w z n → OnTrue (is_some o) (AllFit w z n)
judged w z n None h same = tt
judged w z n (Some k) h same = each_fits w z n h (rw (← same) refl)

pub leaves : (w : Direction) (z : ℤ) (n : ℕ) (o : Option ℤ) → o ≡ counter_after w z n → OnFalse (is_some o) (counter_after w z n ≡ None)
leaves w z n None same = sym same
leaves w z n (Some k) same = tt

-- a state's counter is in range
pub step_fits : (s : StateView) → IsState s → in_range s.step ≡ true
step_fits s h = in_range_is s.step h.step

-- ---- types of engines

-- the engine of a job and a state has the types of the state's atoms
pub typed_at : (j : JobValue) (s : StateView) (e : EngineView) → IsEngineOf j s e → IsTyped e
typed_at j s e is = subst IsTyped (sym is.is) (record { system = is.system; made = is.made; types = refl })

-- frames and counter don't change the types
pub typed_on : (e : EngineView) (f : Frames) (k : ℤ) → IsTyped e → IsTyped (record e { state = moved_state e.state f k })
typed_on e f k typed =
    record { system = typed.system; made = system-moved e.job e.state f k ∙ typed.made; types = typed.types }

-- ---- engines of texts

-- The tree of a job is its energy's tree.
pub job_tree_is : (j : JobValue) (e : Energy) → energy_of j ≡ Ok e → job_tree j ≡ e.tree
unfolding job_tree
job_tree_is j e made = rw made refl

-- a statement about the job and the state of these texts
pub of_texts : {job state : List ℕ} {holds : JobValue → StateView → Type 0} (j : JobValue) (s : StateView) → IsJobText limits job j → IsTextOf state s → holds j s → OfTexts job state holds
of_texts j s job_text state_text it = record { j = j; s = s; job_text = job_text; state_text' = state_text; it = it }

-- a statement that follows from another holds of the same texts
of_texts_too : {job state : List ℕ} {P Q : JobValue → StateView → Type 0} → OfTexts job state P → ((j : JobValue) (s : StateView) → P j s → Q j s) → OfTexts job state Q
of_texts_too t more = of_texts t.j t.s t.job_text t.state_text' (more t.j t.s t.it)

-- the texts of an engine are safe
pub safe_texts : (job state : List ℕ) (e : EngineView) → IsEngineOfTexts job state e → AreSafe job state
safe_texts job state e t = of_texts_too t (λ j s is. record { system = is.system; made = is.made; it = is.safe })

-- If the counter of the engine fits, the counter of its texts fits.
pub texts_fit : (job state : List ℕ) (w : Direction) (n : ℕ) (e : EngineView) → IsEngineOfTexts job state e → is_none (counter_after w e.state.step n) ≡ false → CounterFits job state w n
texts_fit job state w n e t h = of_texts_too t (λ j s is. rw is.is at h)

-- If the counter of the engine would leave 64 bits, the counter of its texts would leave 64 bits.
pub texts_leave : (job state : List ℕ) (w : Direction) (n : ℕ) (e : EngineView) → IsEngineOfTexts job state e → counter_after w e.state.step n ≡ None → CounterLeaves job state w n
texts_leave job state w n e t h = of_texts_too t (λ j s is. rw is.is at h)

-- ---- which engines there are

-- If `to` translates faults and P f implies Q (to f), then P of a failure implies Q of the translated failure.
pub handed_on : {S T : Type 0} (by : S → T → Type 0) (to : S → T) (failure : Failure S) (e : Failure T) (P : S → Type 0) (Q : T → Type 0)
    → IsRefusedBy by failure e → ((f : S) (t : T) → by f t → t ≡ to f) → IfRefused failure P → ((f : S) → P f → Q (to f)) → IfRefused e Q
handed_on by to (Refused f) e P Q h same p q = rw (h.2, same f h.0 h.1) (q f p)
handed_on by to Memory e P Q h same p q = rw h tt

-- a refusal is the definition's
pub fails : {Y R S : Type 0} (seen : R → S) (failure : Failure R) (said : Result Y S) → Fails seen failure said → IfRefused failure (λ f. said ≡ Err (seen f))
fails seen (Refused f) said h = h
fails seen Memory said h = tt

-- slope code that is rejected is why a job and a state have no engine
pub code_rejected : {A : Type 0} (j : JobValue) (s : StateView) (e : Energy) (types : List ℕ) → system_of j s ≡ Ok (e, types)
    → (f : EnergyFault A) → HasNoKernel j e.code f → HasNoEngine j s (input.Energy f)
code_rejected j s e types made (energy.Energy f) why = absurd why
code_rejected j s e types made (energy.Kernel f names) why = record { system = (e, types); made = made; it = why }

-- why a job and a state have no engine is why their texts have none
texts_refused : {A : Type 0} (job state : List ℕ) (j : JobValue) (s : StateView) → IsJobText limits job j → IsTextOf state s
    → (f : InputFault A) → HasNoEngine j s f → HasNoEngineOfTexts job state f
texts_refused job state j s job_text state_text (input.Job f) h = absurd h
texts_refused job state j s job_text state_text (input.State f) h = absurd h
texts_refused job state j s job_text state_text (input.Energy f) h = of_texts j s job_text state_text h
texts_refused job state j s job_text state_text (input.System f) h = of_texts j s job_text state_text h
texts_refused job state j s job_text state_text input.ForceRange h = of_texts j s job_text state_text h

-- likewise if memory may have run out
pub texts_fail : {A : Type 0} (job state : List ℕ) (j : JobValue) (s : StateView) → IsJobText limits job j → IsTextOf state s
    → (failure : Failure (InputFault A)) → IfRefused failure (HasNoEngine j s) → IfRefused failure (HasNoEngineOfTexts job state)
texts_fail job state j s job_text state_text (Refused f) h = texts_refused job state j s job_text state_text f h
texts_fail job state j s job_text state_text Memory h = tt

certified_for : (j : JobValue) (code : List Instr) (k : Kernel) → IsAccepted j code k → IsCertified code (table_of j) j.core j.cutoff k.steps k.bound
certified_for j code k h = rw (← h.code', ← h.under.table, ← h.under.core, ← h.under.cutoff) h.certified

-- code whose verdict is a bound that keeps the range is safe for so many atoms
pub is_safe : (j : JobValue) (code : List Instr) (k : Kernel) (n : ℕ) → IsAccepted j code k → k.bound * (n - 1) < 2 ^ 63 → IsSafeFor j code n
is_safe j code k n h fits = record { steps = k.steps; bound = k.bound; certified = certified_for j code k h; judged = h.judged; fits = fits }

-- and code whose bound doesn't may pass it
pub passes : (j : JobValue) (code : List Instr) (k : Kernel) (n : ℕ) → IsAccepted j code k → 2 ^ 63 ≤ k.bound * (n - 1) → PassesRange j code n
passes j code k n h far = record { steps = k.steps; bound = k.bound; certified = certified_for j code k h; judged = h.judged; far = far }
