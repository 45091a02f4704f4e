-- Accepted jobs: the derivative has a value for any two interacting atoms, so each pair has a force, and any two frames
-- have a next frame.
use Rattle.std.proofs.Common.{◌≡◌, ℕ, ◌<◌, ◌≤◌, true, List, [], ◌∷◌, length, Option, Some, Ok, ℤ, arith, refl, ap, sym, subst, get_or, ◌∙◌, map, slice_index, is_some, ◌<ℤ◌}
use Rattle.std.specs.List.{All, list_all}
use Rattle.std.proofs.lemmas.List.{length-map}
use Rattle.std.proofs.lemmas.List.Elements.{All-map}
use Rattle.derivative.specs.Slope.{slope_of}
use Rattle.energy_program.specs.Tree.{Tree, variable_count}
use Rattle.fixed.specs.Fractions.{bits_of}
use Rattle.job.specs.Values.{JobValue, TypeValue}
use Rattle.kernel_code.specs.Machine.{Ends}
use Rattle.kernel_code.specs.Tables.{Table, inputs_of}
use Rattle.kernel_code.specs.declared.instructions.Instr.{Instr}
use Rattle.verifier.specs.Safety.{IsCertified}
use Rattle.state.specs.StateText.{AtomView}
use Rattle.potential.specs.Energies.{Energy, energy_of}
use Rattle.potential.specs.Tables.{numbers_of, table_of}
use Rattle.potential.proofs.CodeSlopeLaws.{enough}
use Rattle.potential.proofs.PotentialLaws.{HasNumber}
use Rattle.ring_box.specs.Forces.{acting_distance_of}
use Rattle.ring_box.specs.Places.{places_of}
use Rattle.ring_box.specs.declared.vectors.Place3.{Place3}
use Rattle.ring_box.specs.declared.vectors.Vector.{Vector}
use Rattle.integrator.specs.Forces.{force_or_none, numbers_from, pairs_of, sum_of_shares}
use Rattle.integrator.specs.Frames.{Dynamics, Frame, frame_forces, frames, moved_frame, pair_force, steps_in}
use Rattle.integrator.specs.Starts.{as_written}
use Rattle.integrator.specs.declared.direction.Direction.TheVariants.{Forward}
use Rattle.integrator.proofs.ForceLaws.{ArePairsOf, IsPairOf, frame_pairs, pairs_parts}
use Rattle.integrator.proofs.MotionLaws.{returned}
use Rattle.integrator.proofs.ReturnLaws.{frames_are, system_parts}
use Rattle.engine.specs.RunSpecification.{type_at}
use Rattle.engine.proofs.SpecifiedTexts.{one_job, says_energy}
use Rattle.frame_sums.proofs.SafeLaws.{forced, in_range}
use Rattle.run_laws.specs.Motions.{AcceptedAreFollowed, AcceptedRecur, AreAllFollowed}
use Rattle.run_laws.proofs.LeadLaws.{frames_recur, step_follows}
use Rattle.run_laws.proofs.ReadSlopes.{gives_slope}

-- ---- if each pair has a force, there is a next frame

all_forced : (force : ℕ × ℕ → Option (Vector ℤ)) (n : ℕ) (ps : List (ℕ × ℕ)) → ((q : ℕ × ℕ) → IsPairOf n q → is_some (force q) ≡ true) → ArePairsOf n ps → list_all (λ p. is_some (force p)) ps ≡ true
all_forced force n [] each h = refl
all_forced force n (q ∷ ps) each h = let p = pairs_parts n q ps h in rw (each q p.0, all_forced force n ps each p.1) refl

module _ (d : Dynamics) (p c : Frame) (each : (q : ℕ × ℕ) → IsPairOf (length c) q → is_some (pair_force d c q) ≡ true) where
  abbrev sums : List (Vector ℤ)
  sums = map (sum_of_shares (force_or_none (pair_force d c)) (pairs_of (length c))) (numbers_from 0 (length c))

  has_forces : frame_forces d c ≡ Some sums
  has_forces = rw (all_forced (pair_force d c) (length c) (pairs_of (length c)) each (frame_pairs (length c) 0 (length c) (omega arith))) refl

  steps_on : steps_in Forward d 1 (frames p c) ≡ Some (frames c (moved_frame d p c sums))
  unfolding steps_in
  steps_on = rw has_forces refl

-- ---- accepted code

some_of : {X : Type 0} (o : Option X) (x : X) → o ≡ Some x → is_some o ≡ true
some_of o x e = rw e refl

module _ (j : JobValue) (tree : Tree) (sides types : List ℕ) (steps bound : ℕ) (code : List Instr) (below_cutoff : j.core <ℤ j.cutoff) (whole : All (λ (t : TypeValue). length t.values ≡ length j.parameters) j.types)
    (known : All (λ t. t < length j.types) types) (certified : IsCertified code (table_of j) j.core j.cutoff steps bound)
    (gives : (inputs : List ℤ) → variable_count (length j.parameters) (length j.globals) ≤ length inputs → (n : ℕ) (v : ℤ) → Ends (bits_of j.frac) code inputs n (Ok v) → slope_of (bits_of j.frac) inputs tree ≡ Some v) where
  abbrev motion : Dynamics
  motion = as_written j sides tree types

  abbrev table : Table
  table = table_of j

  rows : length table.rows ≡ length j.types
  rows = length-map j.types (λ (t : TypeValue). numbers_of t.values)

  row_at : (a : ℕ) → a < length types → slice_index types a < length table.rows
  row_at a l = let t = known a 0 l in omega (arith, rows, t)

  has_slope : (q : ℕ × ℕ) (x y : Place3) (r : ℤ) → q.0 < length types → q.1 < length types → acting_distance_of motion.frac motion.ring motion.core motion.cutoff x y ≡ Some r → HasNumber bound (motion.slope q r)
  has_slope q x y r first second e =
      let a = slice_index types q.0 in
      let b = slice_index types q.1 in
      let range = in_range motion.frac motion.ring motion.core motion.cutoff x y r below_cutoff e in
      let g = certified.each a b r (row_at q.0 first) (row_at q.1 second) range.0 range.1 in
      let values : All (λ row. length row ≡ table.parameters) table.rows = All-map (λ row. length row ≡ table.parameters) (λ (t : TypeValue). numbers_of t.values) j.types
      (λ k d l. length-map (get_or j.types k d).values (λ c. c.value) ∙ whole k d l) in
      let many = enough table a b r values (row_at q.0 first) (row_at q.1 second) in
      let globals = length-map j.globals (λ g. g.value.value) in
      record { v = g.value; has = gives (inputs_of table a b r) (omega (arith, many, globals)) g.n g.value g.ends; small = g.small }

  each_force : (c : Frame) → length c ≡ length types → (q : ℕ × ℕ) → IsPairOf (length c) q → is_some (pair_force motion c q) ≡ true
  each_force c size q pair =
      let apart = pair.apart in
      let below = pair.below in
      let x = places_of c q.0 in
      let y = places_of c q.1 in
      some_of (pair_force motion c q) _ (forced bound motion.ring (motion.slope q) (acting_distance_of motion.frac motion.ring motion.core motion.cutoff x y) x y
      (λ r e. has_slope q x y r (omega (arith, apart, below, size)) (omega (arith, below, size)) e))

  each_followed : AreAllFollowed j tree sides types (length types)
  each_followed p c h size =
      let next = moved_frame motion p c (sums motion p c (each_force c size)) in
      let e = steps_on motion p c (each_force c size) in
      let r = returned Forward motion 1 (frames p c) (frames c next) h e in
      (next, step_follows j tree sides types p c next h.alike r.frames'.alike e)

-- any two frames of an accepted job and state have a next frame
pub accepted_are_followed : AcceptedAreFollowed
accepted_are_followed job state j tree s types job_text says state_text' typed safe =
    let same_job : safe.j ≡ j = one_job job safe.j j safe.job_text job_text in
    let parts = system_parts safe.j safe.s safe.it.system safe.it.made in
    let energy : Energy = safe.it.system.0 in
    let made : energy_of j ≡ Ok energy = ap energy_of (sym same_job) ∙ parts.energy_read in
    let is_tree : tree ≡ energy.tree = (says_energy j energy made).only tree says in
    let certified : IsCertified energy.code (table_of j) j.core j.cutoff safe.it.it.steps safe.it.it.bound =
    subst (λ (x : JobValue). IsCertified energy.code (table_of x) x.core x.cutoff safe.it.it.steps safe.it.it.bound) same_job safe.it.it.certified in
    let size : length types ≡ length s.atoms = sym (length-map types (λ t. (type_at j t).name)) ∙ ap length typed.named ∙ length-map s.atoms (λ (a : AtomView). a.name) in
    subst (AreAllFollowed j tree s.sides types) size
    (each_followed j tree s.sides types safe.it.it.steps safe.it.it.bound energy.code job_text.say.below_cutoff job_text.say.whole typed.known certified
    (λ inputs enough n v ends. ap (slope_of (bits_of j.frac) inputs) is_tree ∙ gives_slope j energy made inputs enough n v ends))

-- the two frames of an accepted state recur
pub accepted_recur : AcceptedRecur
accepted_recur job state j tree s types job_text says state_text' typed safe =
    let f = frames_are s state_text'.fits in
    frames_recur j tree s.sides types (length s.atoms) _ _ (accepted_are_followed job state j tree s types job_text says state_text' typed safe) f (length-map s.atoms (λ (a : AtomView). a.current))
