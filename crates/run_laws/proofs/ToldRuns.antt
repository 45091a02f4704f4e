-- The model and the run specification have the same runs. One direction needs that the derivative isn't too large to
-- compile.
use Rattle.std.proofs.Common.{◌≡◌, ℕ, suc, ◌<◌, ◌*◌, true, List, [], ◌∷◌, length, get_or, Some, Ok, arith, refl, ap, sym, subst, ◌∙◌, map, bytes_eq, eq-eqb, le-leb, lt-ltb}
use Rattle.std.specs.List.{All}
use Rattle.std.proofs.lemmas.Bool.{and_from, false_from_ne_true}
use Rattle.std.proofs.lemmas.List.Elements.{All-head, All-tail}
use Rattle.std.proofs.lemmas.List.Sums.{position_or_len_is}
use Rattle.std.proofs.lemmas.Slice.Eq.{bytes_eq-Decides}
use Rattle.fixed.specs.Fractions.{bits_of}
use Rattle.energy_program.specs.Tree.{Tree}
use Rattle.ring_box.specs.Cells.{has_room, need_of, room_of}
use Rattle.job.specs.JobText.{AreApart, IsJobText, limits}
use Rattle.job.specs.Values.{JobValue, TypeValue}
use Rattle.job.proofs.OneResult.{job_reads_once}
use Rattle.state.specs.StateText.{AtomView, state_text}
use Rattle.potential.specs.Energies.{Energy, energy_of}
use Rattle.integrator.specs.Frames.{steps_in}
use Rattle.integrator.specs.Starts.{are_alike, as_written, atom_types, ring_of, type_with}
use Rattle.potential.specs.Tables.{no_type}
use Rattle.integrator.specs.States.{counter_after, frames_of, moved_state}
use Rattle.integrator.specs.declared.direction.Direction.{Direction}
use Rattle.line_text.proofs.StepLaws.{same_ok}
use Rattle.line_text.proofs.Items.{parts_same}
use Rattle.integrator.proofs.ReturnLaws.{system_parts}
use Rattle.integrator.proofs.StartLaws.{system_made, typed}
use Rattle.run_laws.specs.Runs.{IsRun}
use Rattle.run_laws.specs.Starts.{plain, start_at}
use Rattle.run_laws.proofs.RunLaws.{are_read, parts_of, started}
use Rattle.engine.specs.Engines.{EngineView, Advanced}
use Rattle.engine.specs.RunSpecification.{HasRoom, IsLevesqueVerletRun, IsTextOf, box_of}
use Rattle.engine.proofs.EngineLaws.{job_tree_is}
use Rattle.engine.proofs.SpecifiedRuns.{only_of, run_counted, told_of}
use Rattle.engine.proofs.SpecifiedSteps.{led_to}
use Rattle.engine.proofs.SpecifiedTexts.{moved_again, one_type, says_energy}

-- ---- a run of the model is one of the run specification

-- A run of the model is a run of the run specification, which relates no other text to the same job and state.
pub runs_are_told : (job state : List ℕ) (w : Direction) (n : ℕ) (text : List ℕ) → IsRun plain job state w n text
    → IsLevesqueVerletRun job state w n text × ((other : List ℕ) → IsLevesqueVerletRun job state w n other → other ≡ text)
runs_are_told job state w n text r =
    let p = parts_of plain job state w n r.start r.starts in
    let s = p.s in
    let f = r.ran.frames' in
    let types = p.system.1 in
    let after : EngineView = record { job = p.j; types = types; state = moved_state s f p.counter } in
    let went : Advanced w n (record { job = p.j; types = types; state = s }) after = record {
      frames' = f;
      stepped = ap (λ (x : Tree). steps_in w (as_written p.j s.sides x types) n (frames_of s)) (job_tree_is p.j p.system.0 (system_parts p.j s p.system p.made).energy_read) ∙ rw p.start_is at r.ran.stepped;
      counter = p.counter;
      counted = p.counted;
      moved = refl;
    } in
    let job_text = p.job_text in
    let read = p.state_read in
    let state_text' : IsTextOf state s = record { fits = read.0; is = read.1 } in
    let is : text ≡ state_text after.state = r.written ∙ ap state_text (rw p.start_is at r.ran.moved) in (
      subst (IsLevesqueVerletRun job state w n) (sym is) (told_of job state w n p.j s p.system job_text state_text' p.made after went),
      λ other h. only_of job state w n p.j s p.system job_text state_text' p.made after went other h ∙ sym is,
    )

-- ---- a run of the run specification is one of the model

module _ (j : JobValue) (apart : AreApart (map (λ t. t.name) j.types)) where
  abbrev type_name : ℕ → List ℕ
  type_name t = (get_or j.types t no_type).name

  abbrev IsKnown : ℕ → Type 0
  IsKnown t = t < length j.types

  -- the look-up by name finds the type
  found_again : (name : List ℕ) (t : ℕ) → IsKnown t → type_name t ≡ name → type_with j.types name ≡ Some t
  found_again name t l e =
      let first = position_or_len_is (λ (u : TypeValue). bytes_eq u.name name) j.types t no_type (omega (arith, l))
      (λ k below. false_from_ne_true (bytes_eq (type_name k) name) (λ equal.
      let same : type_name k ≡ name = (bytes_eq-Decides (type_name k) name).0 equal in
      let one = one_type j apart k t (omega (arith, l, below)) l (same ∙ sym e) in
      omega (arith, one, below)))
      (λ within. (bytes_eq-Decides (type_name t) name).1 e) in
      rw (first, lt-ltb t (length j.types) l) refl

  -- the look-up finds the types that have the atoms' names
  types_again : (k : ℕ) (atoms : List AtomView) (types : List ℕ) → All IsKnown types → map type_name types ≡ map (λ a. a.name) atoms → atom_types j.types k atoms ≡ Ok types
  unfolding atom_types
  types_again k [] [] h e = refl
  types_again k [] (t ∷ ts) h e = absurd cc
  types_again k (a ∷ atoms) [] h e = absurd cc
  types_again k (a ∷ atoms) (t ∷ ts) h e =
      let e' = parts_same (type_name t) a.name (map type_name ts) (map (λ a. a.name) atoms) e in
      rw (found_again a.name t (All-head IsKnown t ts h) e'.0, types_again (suc k) atoms ts (All-tail IsKnown t ts h) e'.1) refl

room_again : (j : JobValue) (sides : List ℕ) → HasRoom j (box_of sides).x × HasRoom j (box_of sides).y × HasRoom j (box_of sides).z → has_room j.frac (ring_of sides) j.cutoff ≡ true
room_again j sides h =
    let ring = ring_of sides in
    let two = need_of j.cutoff * 2 in
    and_from _ _ (le-leb two (room_of j.frac ring.x) (omega (arith, h.0))) (and_from _ _ (le-leb two (room_of j.frac ring.y) (omega (arith, h.1))) (le-leb two (room_of j.frac ring.z) (omega (arith, h.2))))

-- A run of the run specification is one of the model, if the derivative of the job's energy has a program and code.
pub told_are_run : (job state : List ℕ) (w : Direction) (n : ℕ) (text : List ℕ) (j : JobValue) (energy : Energy) → IsJobText limits job j → energy_of j ≡ Ok energy
    → IsLevesqueVerletRun job state w n text → IsRun plain job state w n text
told_are_run job state w n text j energy job_text energy_read r =
    let s = r.before in
    let t = r.after in
    let same : r.j ≡ j = same_ok r.j j (job_reads_once limits job (Ok r.j) (Ok j) r.job_text job_text) in
    let made : energy_of r.j ≡ Ok energy = ap energy_of same ∙ energy_read in
    let tree : r.tree ≡ energy.tree = (says_energy r.j energy made).only r.tree r.energy in
    let led = led_to w r.j r.tree r.types n s t r.leads in
    let types = types_again r.j r.job_text.say.apart.types 1 s.atoms r.types r.typed.known r.typed.named in
    let alike : are_alike r.j.frac s.frac ≡ true = ap (are_alike r.j.frac) r.alike ∙ eq-eqb (bits_of r.j.frac) (bits_of r.j.frac) refl in
    let counted : counter_after w s.step n ≡ Some t.step = run_counted job state w n text r in
    record {
      start = start_at plain r.j s (energy, r.types) t.step;
      starts = are_read plain job state w n r.j s (Ok (start_at plain r.j s (energy, r.types) t.step)) r.job_text (r.state_text'.fits, r.state_text'.is)
          (started plain w n r.j s (energy, r.types) t.step (system_made r.j s energy r.types made (typed r.j s r.types alike types (room_again r.j s.sides r.room))) counted);
      after = t;
      ran = record {
        frames' = frames_of t;
        stepped = ap (λ (x : Tree). steps_in w (as_written r.j s.sides x r.types) n (frames_of s)) (sym tree) ∙ led.0;
        moved = moved_again s t r.same r.kept;
      };
      written = r.after_text.is;
    }
