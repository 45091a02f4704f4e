-- Engines that are replayed: the state that an engine reaches has an engine, the same one, and the fraction bits of the
-- job.
use Rattle.std.proofs.Common.{◌≡◌, ℕ, List, length, Option, Bool, false, is_some, ap, sym, subst, ◌∙◌, ℤ, Err}
use Rattle.std.proofs.lemmas.Bool.{false_from_ne_true}
use Rattle.engine.proofs.SpecifiedTexts.{alike_is}
use Rattle.engine.specs.Engines.{EngineView, IsEngineOf, Advanced}
use Rattle.engine.specs.Ranges.{IsSafeFor}
use Rattle.fallible.specs.declared.failure.Failure.TheVariants.{Refused}
use Rattle.integrator.proofs.StartLaws.{bits_unlike, system_refused}
use Rattle.integrator.specs.Starts.{are_alike, bits_differ, system_of}
use Rattle.integrator.specs.declared.faults.SystemFault.TheVariants.{BitsDiffer}
use Rattle.integrator.specs.States.{moved_state}
use Rattle.integrator.specs.declared.direction.Direction.{Direction}
use Rattle.integrator.proofs.ReturnLaws.{system-moved, system_parts}
use Rattle.integrator.proofs.StateLaws.{length-moved}
use Rattle.state.specs.StateText.{StateView}
use Rattle.streams.specs.Plans.{IsReplayed, ReplayPlanView}
use Rattle.streams.specs.Replays.{segment_line}
use Rattle.streams.specs.Segments.{Compares, IsEngineLine, IsEngineText, compared}
use Rattle.streams.specs.declared.differences.Difference.{Difference}

-- steps lead from an engine of a job and a state to an engine of the job and the state that they reach
pub engine_reached : (w : Direction) (n : ℕ) (e f : EngineView) → Advanced w n e f → IsEngineOf e.job e.state e
    → IsEngineOf e.job f.state f
engine_reached w n e f went is =
    let state : f.state ≡ moved_state e.state went.frames' went.counter = ap (λ (x : EngineView). x.state) went.moved in
    record {
      system = is.system;
      made = ap (system_of e.job) state ∙ system-moved e.job e.state went.frames' went.counter ∙ is.made;
      is = went.moved ∙ ap (λ (x : EngineView). record x { state = moved_state e.state went.frames' went.counter }) is.is
          ∙ ap (λ s. record { job = e.job; types = is.system.1; state = s }) (sym state);
      safe = subst (λ (count : ℕ). IsSafeFor e.job is.system.0.code count)
          (sym (ap (λ s. length s.atoms) state ∙ length-moved e.state.atoms went.frames')) is.safe;
    }

-- an engine's state has the fraction bits of its job, and so has the state that steps lead to
pub frac_reached : (w : Direction) (n : ℕ) (e f : EngineView) → Advanced w n e f → IsEngineOf e.job e.state e → f.state.frac ≡ e.job.frac
frac_reached w n e f went is =
    ap (λ (x : EngineView). x.state.frac) went.moved
    ∙ alike_is e.job.frac e.state.frac (system_parts e.job e.state is.system is.made).alike

-- a state with other fraction bits than an engine's job has no engine
pub bits_refused : (e : EngineView) (t : StateView) → IsEngineOf e.job e.state e → (t.frac ≡ e.job.frac → ⊥)
    → system_of e.job t ≡ Err bits_differ
bits_refused e t is other =
    let unlike : are_alike e.job.frac t.frac ≡ false =
    false_from_ne_true (are_alike e.job.frac t.frac) (λ alike. other (alike_is e.job.frac t.frac alike)) in
    system_refused e.job t is.system.0 (Refused BitsDiffer) (system_parts e.job e.state is.system is.made).energy_read
    (bits_unlike e.job t unlike)

-- the line of a compared segment
pub engine_line : (plan : ReplayPlanView) (number : ℕ) (e taken : EngineView) (t : StateView) (d : Option Difference) (from : ℤ) (line : List ℕ)
    → from ≡ e.state.step → line ≡ segment_line from t.step d → IsReplayed plan number from t.step
    → Compares e t d → IsEngineOf e.job t taken → IsEngineLine plan number e t line
engine_line plan number e taken t d from line first is has h safe = record {
  taken = taken;
  safe = safe;
  replayed = rw first at has;
  difference = d;
  compared = h;
  line' = rw first at is;
}

-- what was written of it
pub engine_text : (plan : ReplayPlanView) (number : ℕ) (e taken : EngineView) (t : StateView) (d : Option Difference) (from : ℤ) (line : List ℕ)
    (b : Bool) → from ≡ e.state.step → line ≡ segment_line from t.step d → IsReplayed plan number from t.step
    → Compares e t d → IsEngineOf e.job t taken → b ≡ is_some d → IsEngineText plan number e t b line
unfolding engine_line
engine_text plan number e taken t d from line b first is has h safe differs =
    rw differs (compared line (engine_line plan number e taken t d from line first is has h safe))
