-- The way of an engine: counters that fit, and the states at which its steps stop.
use Rattle.std.proofs.Common.{◌≡◌, ℕ, ◌+◌, ◌-◌, ◌*◌, ◌≤◌, true, false, ℤ, Some, None, arith, refl, ap, subst, sym, ◌∙◌, is_none, if◌then◌else◌}
use Rattle.std.proofs.Math.Nat.{mul-le-mul_right}
use Rattle.fixed.specs.Arithmetic.{in_range}
use Rattle.integrator.specs.Frames.{steps_in}
use Rattle.integrator.specs.States.{counter_after, counter_at, frames_of}
use Rattle.integrator.proofs.StateLaws.{at_home}
use Rattle.integrator.proofs.CounterLaws.{counter_fits, counter_is, counter_stays}
use Rattle.integrator.specs.declared.direction.Direction.{Direction}
use Rattle.engine.specs.Engines.{EngineView, Advanced}
use Rattle.engine.proofs.AdvanceLaws.{counters_add, steps_add}
use Rattle.runs.specs.Plans.{PlanView, steps_to}
use Rattle.runs.specs.Shown.{IsStopped}

-- ---- the counter

-- the counter after m more steps
counter_further : (w : Direction) (z k : ℤ) (n m : ℕ) → counter_after w z n ≡ Some k → counter_after w k m ≡ counter_after w z (n + m)
counter_further w z k n m e =
    let same : counter_at w k m ≡ counter_at w z (n + m) = ap (λ x. counter_at w x m) (counter_is w z k n e).0 ∙ counters_add w z n m in
    ap (λ (x : ℤ). if in_range x then Some x else None) same

-- a counter that fits after no step
fits_now : (w : Direction) (z : ℤ) → is_none (counter_after w z 0) ≡ false → in_range z ≡ true
fits_now w z h = subst (λ (x : ℤ). in_range x ≡ true) (counter_stays w z) (counter_fits w z 0 h)

-- ---- an engine

-- If the counter fits after n and m more steps, it fits after the m steps from the state after the n steps.
pub fits_further : (w : Direction) (n m : ℕ) (e f : EngineView) → Advanced w n e f → is_none (counter_after w e.state.step (n + m)) ≡ false
    → is_none (counter_after w f.state.step m) ≡ false
fits_further w n m e f a h =
    let counter : f.state.step ≡ a.counter = ap (λ (v : EngineView). v.state.step) a.moved in
    ap is_none (ap (λ z. counter_after w z m) counter ∙ counter_further w e.state.step a.counter n m a.counted) ∙ h

-- after no step it is as it was
pub went_nowhere : (w : Direction) (e : EngineView) → is_none (counter_after w e.state.step 0) ≡ false → Advanced w 0 e e
unfolding steps_in
went_nowhere w e fits = record {
  frames' = frames_of e.state;
  stepped = refl;
  counter = e.state.step;
  counted = rw (counter_stays w e.state.step, fits_now w e.state.step fits) refl;
  moved = ap (λ atoms. record e { state = record e.state { atoms = atoms } }) (sym (at_home e.state.atoms));
}

-- steps leave its job as it is
pub job_stays : (w : Direction) (n : ℕ) (e f : EngineView) → Advanced w n e f → f.job ≡ e.job
job_stays w n e f a = ap (λ (v : EngineView). v.job) a.moved

-- steps up to n lead on from the first ones
pub went_up_to : (w : Direction) (first n : ℕ) (e f g : EngineView) → first ≤ n → Advanced w first e f → Advanced w (n - first) f g → Advanced w n e g
went_up_to w first n e f g few a b =
    let all : first + (n - first) ≡ n = omega (arith, few) in
    subst (λ (k : ℕ). Advanced w k e g) all (steps_add w first (n - first) e f g a b)

-- ---- from text to text

-- a text comes after the earlier ones
pub later_text : (plan : PlanView) (k number : ℕ) → k ≤ number → steps_to plan k ≤ steps_to plan number
later_text plan k number few = let l : k * plan.every ≤ number * plan.every = mul-le-mul_right plan.every few in omega (arith, l)

-- ---- early stops

-- memory that runs out in a later part of a stretch
pub stopped_later : (w : Direction) (first steps made more k done : ℕ) (e f g : EngineView) → made + more ≤ steps → Advanced w made e f
    → IsStopped w (first + made) more k f g done → IsStopped w first steps (made + k) e g done
stopped_later w first steps made more k done e f g within went stopped = record {
  few = omega (arith, within, stopped.few);
  went = steps_add w made k e f g went stopped.went;
  is = omega (arith, stopped.is);
}
