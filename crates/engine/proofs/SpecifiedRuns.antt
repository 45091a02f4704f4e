-- The run specification describes runs: it relates a run's output to its texts, relates no other text, and can
-- be reversed.
use Rattle.std.proofs.Common.{◌≡◌, ℕ, true, List, [], ◌∷◌, length, Option, Some, None, Ok, ℤ, refl, ap, sym, subst, ◌∙◌, map, if◌then◌else◌}
use Rattle.std.proofs.lemmas.List.{length-map}
use Rattle.std.proofs.lemmas.Option.{same_Some}
use Rattle.fixed.specs.Arithmetic.{in_range}
use Rattle.fixed.proofs.IntegerLaws.{in_range_is}
use Rattle.job.specs.JobText.{IsJobText, limits}
use Rattle.job.specs.Values.{JobValue}
use Rattle.state.specs.StateText.{AtomView, IsState, StateView, state_text}
use Rattle.potential.specs.Energies.{Energy, job_tree}
use Rattle.integrator.specs.Frames.{AreOfSameAtoms, Frames, opposite, steps_in}
use Rattle.integrator.specs.Starts.{as_written, system_of}
use Rattle.integrator.specs.States.{counter_after, counter_at, frames_of, moved_state}
use Rattle.integrator.specs.declared.direction.Direction.{Direction}
use Rattle.integrator.proofs.CounterLaws.{counter_back, counter_is}
use Rattle.integrator.proofs.StateLaws.{frames_moved}
use Rattle.integrator.proofs.ReturnLaws.{SystemParts, frames_are, moved_is, system_parts}
use Rattle.integrator.proofs.MotionLaws.{returned}
use Rattle.engine.specs.Engines.{EngineView, IsEngineOfTexts, SaysOnly, Advanced}
use Rattle.engine.specs.RunSpecification.{IsLevesqueVerletRun, IsTextOf, who}
use Rattle.engine.proofs.EngineLaws.{job_tree_is}
use Rattle.engine.proofs.SpecifiedSteps.{leads, led_to}
use Rattle.engine.proofs.SpecifiedTexts.{alike_is, moved_again, one_job, one_state, only_types, room_is, says_energy, types_are, who_moved}

-- ---- a state that a job and a state of texts lead to

module _ (job state : List ℕ) (w : Direction) (n : ℕ) (j : JobValue) (s : StateView) (system : Energy × List ℕ) (job_text : IsJobText limits job j) (state_text' : IsTextOf state s) (made : system_of j s ≡ Ok system) (after : EngineView) (went : Advanced w n (record { job = j; types = system.1; state = s }) after) where
  abbrev f : Frames
  f = went.frames'

  parts : SystemParts j s system
  parts = system_parts j s system made

  says : SaysOnly j (job_tree j)
  says = subst (SaysOnly j) (sym (job_tree_is j system.0 parts.energy_read)) (says_energy j system.0 parts.energy_read)

  same_atoms : AreOfSameAtoms f × (length f.previous ≡ length s.atoms)
  same_atoms =
      let back = returned w (as_written j s.sides (job_tree j) system.1) n (frames_of s) f (frames_are s state_text'.fits) went.stepped in
      (back.frames', back.atoms ∙ length-map s.atoms (λ (a : AtomView). a.previous))

  counted : (went.counter ≡ counter_at w s.step n) × (in_range went.counter ≡ true)
  counted = counter_is w s.step went.counter n went.counted

  after_is : after.state ≡ moved_state s f went.counter
  after_is = ap (λ (e : EngineView). e.state) went.moved

  is_state : IsState (moved_state s f went.counter)
  is_state = moved_is s f went.counter state_text'.fits same_atoms.0 same_atoms.1 counted.1

  -- it has a text
  text_of : IsTextOf (state_text after.state) after.state
  text_of = record { fits = subst IsState (sym after_is) is_state; is = refl }

  -- which the page relates to the texts
  pub told_of : IsLevesqueVerletRun job state w n (state_text after.state)
  told_of =
      let previous = same_atoms.1 in
      let current : length f.current ≡ length s.atoms = sym same_atoms.0.alike ∙ previous in
      let t = moved_state s f went.counter in
      record {
        j = j;
        job_text = job_text;
        tree = job_tree j;
        energy = says.says;
        before = s;
        state_text' = state_text';
        alike = alike_is j.frac s.frac parts.alike;
        types = system.1;
        typed = types_are j 1 s.atoms system.1 parts.typed;
        room = room_is j s.sides parts.room;
        after = t;
        after_text = record { fits = is_state; is = ap state_text after_is };
        leads = leads w j (job_tree j) system.1 n s t (went.stepped ∙ ap Some (sym (frames_moved s f went.counter previous current))) counted.0;
        same = refl;
        kept = who_moved s.atoms f;
      }

  -- and no other text
  pub only_of : (text : List ℕ) → IsLevesqueVerletRun job state w n text → text ≡ state_text after.state
  only_of text r =
      let tree = job_tree j in
      let same_job : r.j ≡ j = one_job job r.j j r.job_text job_text in
      let same_state : r.before ≡ s = one_state state r.before s r.state_text' state_text' in
      let same_tree : r.tree ≡ tree = says.only r.tree (rw same_job at r.energy) in
      let typed = rw (same_job, same_state) at r.typed in
      let same_types : r.types ≡ system.1 = only_types j 1 s.atoms system.1 r.types job_text.say.apart.types parts.typed typed in
      let led = rw (same_job, same_tree, same_types, same_state) at r.leads in
      let l = led_to w j tree system.1 n s r.after led in
      let frames' : frames_of r.after ≡ f = same_Some (frames_of r.after) f (sym l.0 ∙ went.stepped) in
      let counter : r.after.step ≡ went.counter = l.1 ∙ sym counted.0 in
      r.after_text.is
      ∙ ap state_text
      (moved_again s r.after (rw same_state at r.same) (rw same_state at r.kept) ∙ ap (λ g. moved_state s g r.after.step) frames' ∙ ap (moved_state s f) counter ∙ sym after_is)

-- ---- the state that an engine of texts reached

module _ (job state : List ℕ) (w : Direction) (n : ℕ) (e f : EngineView) (t : IsEngineOfTexts job state e) (h : Advanced w n e f) where
  went : Advanced w n (record { job = t.j; types = t.it.system.1; state = t.s }) f
  went = subst (λ (x : EngineView). Advanced w n x f) t.it.is h

  pub reached_text : IsTextOf (state_text f.state) f.state
  reached_text = text_of job state w n t.j t.s t.it.system t.job_text t.state_text' t.it.made f went

  pub told : IsLevesqueVerletRun job state w n (state_text f.state)
  told = told_of job state w n t.j t.s t.it.system t.job_text t.state_text' t.it.made f went

  pub only_told : (text : List ℕ) → IsLevesqueVerletRun job state w n text → text ≡ state_text f.state
  only_told = only_of job state w n t.j t.s t.it.system t.job_text t.state_text' t.it.made f went

-- ---- its counter

counted_again : (z k : ℤ) → k ≡ z → in_range k ≡ true → ◌≡◌ {A = Option ℤ} (if in_range z then Some z else None) (Some k)
counted_again z k e h = rw (← e, h) refl

-- the counter of a run that the page relates to texts fits
pub run_counted : (job state : List ℕ) (w : Direction) (n : ℕ) (text : List ℕ) (r : IsLevesqueVerletRun job state w n text) → counter_after w r.before.step n ≡ Some r.after.step
run_counted job state w n text r =
    counted_again (counter_at w r.before.step n) r.after.step (led_to w r.j r.tree r.types n r.before r.after r.leads).1 (in_range_is r.after.step r.after_text.fits.step)

-- ---- the way back

names_in : (atoms : List AtomView) → map (λ (w : ℤ × List ℕ × List ℕ). w.2) (map who atoms) ≡ map (λ (a : AtomView). a.name) atoms
names_in [] = refl
names_in (a ∷ atoms) = ap (λ names. a.name ∷ names) (names_in atoms)

-- the texts that the page relates it relates the other way round, in the other direction
pub leads_back : (job state : List ℕ) (w : Direction) (n : ℕ) (text : List ℕ) → IsLevesqueVerletRun job state w n text → IsLevesqueVerletRun job text (opposite w) n state
leads_back job state w n text r =
    let s = r.before in
    let t = r.after in
    let l = led_to w r.j r.tree r.types n s t r.leads in
    let back = returned w (as_written r.j s.sides r.tree r.types) n (frames_of s) (frames_of t) (frames_are s r.state_text'.fits) l.0 in
    let sides : s.sides ≡ t.sides = sym (ap (λ (u : StateView). u.sides) r.same) in
    record {
      j = r.j;
      job_text = r.job_text;
      tree = r.tree;
      energy = r.energy;
      before = t;
      state_text' = r.after_text;
      alike = ap (λ (u : StateView). u.frac) r.same ∙ r.alike;
      types = r.types;
      typed = record {
        known = r.typed.known;
        named = r.typed.named ∙ sym (names_in s.atoms) ∙ ap (map (λ (w : ℤ × List ℕ × List ℕ). w.2)) (sym r.kept) ∙ names_in t.atoms;
      };
      room = rw sides at r.room;
      after = s;
      after_text = r.state_text';
      leads =
          leads (opposite w) r.j r.tree r.types n t s
          (subst (λ (x : List ℕ). steps_in (opposite w) (as_written r.j x r.tree r.types) n (frames_of t) ≡ Some (frames_of s)) sides back.back)
          (counter_back w s.step t.step n l.1);
      same = sym (ap (λ (u : StateView). record u { step = s.step; atoms = s.atoms }) r.same);
      kept = sym r.kept;
    }
