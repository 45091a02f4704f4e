-- If a tested run gives a state, a run with the plain slope gives the same state.
use Rattle.std.proofs.Common.{◌≡◌, ℕ, zero, suc, Bool, true, false, List, [], ◌∷◌, length, ℤ, Option, Some, None, Result, Ok, Err, refl, ap, sym, ◌∙◌, is_some, option_map, unwrap_or, map, neg_ℤ, ◌==◌, if◌then◌else◌}
use Rattle.std.specs.Option.{option_and_then}
use Rattle.std.specs.List.{list_all}
use Rattle.std.proofs.lemmas.Bool.{false≢true}
use Rattle.kernel_code.specs.declared.traps.Trap.{Trap}
use Rattle.job.specs.Values.{JobValue}
use Rattle.ring_box.specs.declared.boxes.RingBox.{RingBox}
use Rattle.ring_box.specs.Distances.{square_of}
use Rattle.ring_box.specs.Forces.{acting_distance_of, force_along_of, no_force}
use Rattle.ring_box.specs.declared.vectors.Place3.{Place3}
use Rattle.ring_box.specs.declared.vectors.Vector.{Vector}
use Rattle.fixed.specs.Fractions.{bits_of}
use Rattle.derivative.specs.Slope.{slope_of}
use Rattle.line_text.proofs.StepLaws.{none_is_no_some}
use Rattle.potential.specs.Energies.{Energy}
use Rattle.run_laws.specs.Outcomes.{where_given}
use Rattle.integrator.specs.Forces.{plus, share_of, sum_of_shares, pairs_of, force_or_none, forces_of, numbers_from}
use Rattle.ring_box.specs.Places.{places_of}
use Rattle.integrator.specs.Frames.{Frame, Frames, force_at, frame_forces, frames, moved_frame, next_frame, pair_force, step_in, steps_in}
use Rattle.integrator.specs.Starts.{dynamics_by, pair_inputs}
use Rattle.run_laws.specs.Runs.{IsRun}
use Rattle.run_laws.specs.Starts.{Start, plain, start_at}
use Rattle.run_laws.specs.TestedStarts.{pair_outcome, tested}
use Rattle.integrator.specs.States.{frames_of}
use Rattle.integrator.specs.declared.direction.Direction.{Direction}
use Rattle.integrator.specs.declared.direction.Direction.TheVariants.{Forward, Back}
use Rattle.run_laws.proofs.RunLaws.{are_read, parts_of, started}

-- each value of the one is the value of the other too
pub Keeps : {X : Type 0} → Option X → Option X → Type 0
Keeps {X} o p = (x : X) → o ≡ Some x → p ≡ Some x

-- ---- a pair

along_kept : (ring : RingBox) (o o' : Option ℤ) (p q : Place3) → Keeps o o' → Keeps (option_map (λ g. force_along_of ring (neg_ℤ g) p q) o) (option_map (λ g. force_along_of ring (neg_ℤ g) p q) o')
unfolding Keeps
along_kept ring None o' p q h v e = absurd (none_is_no_some v e)
along_kept ring (Some g) o' p q h v e = ap (option_map (λ g. force_along_of ring (neg_ℤ g) p q)) (h g refl) ∙ e

apart_kept : (ring : RingBox) (together : Bool) (o o' : Option ℤ) (p q : Place3) → Keeps o o'
    → Keeps (if together then Some no_force else option_map (λ g. force_along_of ring (neg_ℤ g) p q) o) (if together then Some no_force else option_map (λ g. force_along_of ring (neg_ℤ g) p q) o')
unfolding Keeps
apart_kept ring true o o' p q h v e = e
apart_kept ring false o o' p q h v e = along_kept ring o o' p q h v e

at_kept : (ring : RingBox) (s t : ℤ → Option ℤ) (r : Option ℤ) (p q : Place3) → ((r : ℤ) → Keeps (s r) (t r)) → Keeps (force_at ring s r p q) (force_at ring t r p q)
unfolding Keeps
at_kept ring s t None p q h v e = e
at_kept ring s t (Some r) p q h v e = apart_kept ring (square_of ring p q == 0) (s r) (t r) p q (h r) v e

-- ---- a frame

-- the force of a pair, if the pair and all pairs after it have forces
record Forced (force : ℕ × ℕ → Option (Vector ℤ)) (p : ℕ × ℕ) (ps : List (ℕ × ℕ)) : Type 0 where
  v : Vector ℤ
  has : force p ≡ Some v
  rest : list_all (λ p. is_some (force p)) ps ≡ true

forced : (force : ℕ × ℕ → Option (Vector ℤ)) (p : ℕ × ℕ) (ps : List (ℕ × ℕ)) (o : Option (Vector ℤ)) → force p ≡ o → list_all (λ p. is_some (force p)) (p ∷ ps) ≡ true → Forced force p ps
forced force p ps None h e = absurd (false≢true (rw h at e))
forced force p ps (Some v) h e = record { v = v; has = h; rest = rw h at e }

module _ (force other : ℕ × ℕ → Option (Vector ℤ)) (kept : (p : ℕ × ℕ) → Keeps (force p) (other p)) where
  all_kept : (ps : List (ℕ × ℕ)) → list_all (λ p. is_some (force p)) ps ≡ true → list_all (λ p. is_some (other p)) ps ≡ true
  unfolding Keeps
  all_kept [] e = refl
  all_kept (p ∷ ps) e =
      let f = forced force p ps (force p) refl e in
      rw (kept p f.v f.has) (all_kept ps f.rest)

  shares_kept : (ps : List (ℕ × ℕ)) (a : ℕ) → list_all (λ p. is_some (force p)) ps ≡ true → sum_of_shares (force_or_none other) ps a ≡ sum_of_shares (force_or_none force) ps a
  unfolding Keeps sum_of_shares
  shares_kept [] a e = refl
  shares_kept (p ∷ ps) a e =
      let f = forced force p ps (force p) refl e in
      ap (λ o. plus (share_of p (unwrap_or o no_force) a) (sum_of_shares (force_or_none other) ps a)) (kept p f.v f.has ∙ sym f.has)
      ∙ ap (plus (share_of p (force_or_none force p) a)) (shares_kept ps a f.rest)

  lists_kept : (ps : List (ℕ × ℕ)) (atoms : List ℕ) → list_all (λ p. is_some (force p)) ps ≡ true → map (sum_of_shares (force_or_none other) ps) atoms ≡ map (sum_of_shares (force_or_none force) ps) atoms
  lists_kept ps [] e = refl
  lists_kept ps (a ∷ atoms) e =
      ap (λ v. v ∷ map (sum_of_shares (force_or_none other) ps) atoms) (shares_kept ps a e)
      ∙ ap (λ vs. sum_of_shares (force_or_none force) ps a ∷ vs) (lists_kept ps atoms e)

  chosen_kept : (n : ℕ) (b : Bool) → list_all (λ p. is_some (force p)) (pairs_of n) ≡ b
      → Keeps (if b then Some (map (sum_of_shares (force_or_none force) (pairs_of n)) (numbers_from 0 n)) else None) (forces_of other n)
  unfolding Keeps
  chosen_kept n true h v e = rw (all_kept (pairs_of n) h) (ap Some (lists_kept (pairs_of n) (numbers_from 0 n) h) ∙ e)
  chosen_kept n false h v e = absurd (none_is_no_some v e)

  -- if `other` agrees with each force of a pair in `force`, it agrees with the forces of the frame
  pub forces_kept : (n : ℕ) → Keeps (forces_of force n) (forces_of other n)
  forces_kept n = chosen_kept n (list_all (λ p. is_some (force p)) (pairs_of n)) refl

-- ---- steps

map_kept : {X Y : Type 0} → (f : X → Y) (o p : Option X) → Keeps o p → Keeps (option_map f o) (option_map f p)
unfolding Keeps
map_kept f None p h y e = absurd (none_is_no_some y e)
map_kept f (Some x) p h y e = ap (option_map f) (h x refl) ∙ e

then_kept : {X Y : Type 0} → (f g : X → Option Y) (o p : Option X) → ((x : X) → Keeps (f x) (g x)) → Keeps o p → Keeps (option_and_then f o) (option_and_then g p)
unfolding Keeps
then_kept f g None p k h y e = absurd (none_is_no_some y e)
then_kept f g (Some x) p k h y e = ap (option_and_then g) (h x refl) ∙ k x y e

module _ (s t : ℕ × ℕ → ℤ → Option ℤ) (j : JobValue) (sides types : List ℕ) (kept : (p : ℕ × ℕ) (r : ℤ) → Keeps (s p r) (t p r)) where
  frame_kept : (p c : Frame) → Keeps (next_frame (dynamics_by s j sides types) p c) (next_frame (dynamics_by t j sides types) p c)
  frame_kept p c =
      let d = dynamics_by s j sides types in
      let e = dynamics_by t j sides types in
      map_kept (moved_frame d p c) (frame_forces d c) (frame_forces e c)
      (forces_kept (pair_force d c) (pair_force e c)
      (λ q. at_kept d.ring (s q) (t q) (acting_distance_of d.frac d.ring d.core d.cutoff (places_of c q.0) (places_of c q.1)) (places_of c q.0) (places_of c q.1) (kept q))
      (length c))

  step_kept : (w : Direction) (f : Frames) → Keeps (step_in w (dynamics_by s j sides types) f) (step_in w (dynamics_by t j sides types) f)
  step_kept Forward f =
      map_kept (frames f.current) (next_frame (dynamics_by s j sides types) f.previous f.current) (next_frame (dynamics_by t j sides types) f.previous f.current) (frame_kept f.previous f.current)
  step_kept Back f =
      map_kept (λ n. frames n f.previous) (next_frame (dynamics_by s j sides types) f.current f.previous) (next_frame (dynamics_by t j sides types) f.current f.previous) (frame_kept f.current f.previous)

  -- if t agrees with each slope of s, n steps with t agree with n steps with s
  pub turns_kept : (w : Direction) (n : ℕ) (f : Frames) → Keeps (steps_in w (dynamics_by s j sides types) n f) (steps_in w (dynamics_by t j sides types) n f)
  unfolding steps_in Keeps
  turns_kept w zero f g e = e
  turns_kept w (suc n) f g e =
      then_kept (steps_in w (dynamics_by s j sides types) n) (steps_in w (dynamics_by t j sides types) n) (step_in w (dynamics_by s j sides types) f) (step_in w (dynamics_by t j sides types) f)
      (turns_kept w n) (step_kept w f) g e

-- ---- runs

given_kept : (o : Option (Result ℤ Trap)) (slope : Option ℤ) → Keeps (where_given o slope) slope
unfolding Keeps
given_kept None slope g e = absurd (none_is_no_some g e)
given_kept (Some (Ok v)) slope g e = e
given_kept (Some (Err trap)) slope g e = absurd (none_is_no_some g e)

-- a tested run is a run with the plain slope
pub plain_run : (job state : List ℕ) (w : Direction) (n : ℕ) (text : List ℕ) → IsRun tested job state w n text → IsRun plain job state w n text
unfolding Keeps
plain_run job state w n text run =
    let p = parts_of tested job state w n run.start run.starts in
    let energy : Energy = p.system.0 in
    let types = p.system.1 in
    let start : Start = start_at plain p.j p.s p.system p.counter in
    let stepped = rw p.start_is at run.ran.stepped in
    record {
      start = start;
      starts = are_read plain job state w n p.j p.s (Ok start) p.job_text p.state_read (started plain w n p.j p.s p.system p.counter p.made p.counted);
      after = run.after;
      ran = record {
        frames' = run.ran.frames';
        stepped =
            turns_kept (tested p.j p.s.sides energy types).slope (plain p.j p.s.sides energy types).slope p.j p.s.sides types
            (λ q r. given_kept (pair_outcome p.j energy types q r) (slope_of (bits_of p.j.frac) (pair_inputs p.j types q r) energy.tree))
            w n (frames_of p.s) run.ran.frames' stepped;
        moved = rw p.start_is at run.ran.moved;
      };
      written = run.written;
    }
