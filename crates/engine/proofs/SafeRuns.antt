-- A run leads from safe texts to safe texts: the same code is certified for the same number of atoms.
use Rattle.std.proofs.Common.{◌≡◌, ℕ, List, length, ap, sym, subst, ◌∙◌}
use Rattle.std.proofs.lemmas.List.{length-map}
use Rattle.state.specs.StateText.{StateView}
use Rattle.integrator.specs.Starts.{system_of}
use Rattle.integrator.specs.States.{frames_of, moved_state}
use Rattle.integrator.specs.declared.direction.Direction.{Direction}
use Rattle.integrator.proofs.ReturnLaws.{system-moved}
use Rattle.engine.specs.Engines.{AreSafe}
use Rattle.engine.specs.RunSpecification.{IsLevesqueVerletRun, who}
use Rattle.engine.specs.Ranges.{IsSafeFor}
use Rattle.engine.proofs.SpecifiedTexts.{moved_again, one_state}

-- If a run's job and state are safe, the job and the written text are safe: same system, same number of atoms.
pub runs_stay_safe : (job state : List ℕ) (w : Direction) (n : ℕ) (text : List ℕ) → IsLevesqueVerletRun job state w n text → AreSafe job state → AreSafe job text
runs_stay_safe job state w n text r a =
    let s = r.before in
    let t = r.after in
    let same : s ≡ a.s = one_state state s a.s r.state_text' a.state_text' in
    let moved : t ≡ moved_state s (frames_of t) t.step = moved_again s t r.same r.kept in
    let system : system_of a.j t ≡ system_of a.j a.s = ap (system_of a.j) moved ∙ system-moved a.j s (frames_of t) t.step ∙ ap (system_of a.j) same in
    let atoms : length t.atoms ≡ length a.s.atoms = sym (length-map t.atoms who) ∙ ap length r.kept ∙ length-map s.atoms who ∙ ap (λ (b : StateView). length b.atoms) same in
    record {
      j = a.j;
      s = t;
      job_text = a.job_text;
      state_text' = r.after_text;
      it = record {
        system = a.it.system;
        made = system ∙ a.it.made;
        it = subst (λ (count : ℕ). IsSafeFor a.j a.it.system.0.code count) (sym atoms) a.it.it;
      };
    }
