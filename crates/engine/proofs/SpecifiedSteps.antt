-- The steps of the run specification are the model's steps, with the derivative as written.
use Rattle.std.proofs.Common.{◌≡◌, ℕ, zero, suc, ◌<◌, Bool, true, false, List, [], ◌∷◌, ◌++◌, length, get_or, Option, Some, None, ℤ, arith, refl, ap, sym, subst, ◌∙◌, zero-add, is_some, option_map, unwrap_or, map, neg_ℤ, slice_index, ◌==◌, if◌then◌else◌, eqb-true, ext_get_or}
use Rattle.std.specs.Option.{option_and_then}
use Rattle.std.specs.List.{All, list_all}
use Rattle.std.proofs.lemmas.Bool.{and_parts}
use Rattle.std.proofs.lemmas.List.Elements.{All-cons, All-head, All-nil, All-tail, All-weaker}
use Rattle.std.proofs.lemmas.Option.{same_Some}
use Rattle.fixed.specs.Fractions.{bits_of}
use Rattle.fixed.specs.Roots.{root}
use Rattle.energy_program.specs.Tree.{Tree}
use Rattle.derivative.specs.Slope.{slope_of}
use Rattle.job.specs.Values.{JobValue, TypeValue}
use Rattle.state.specs.StateText.{StateView}
use Rattle.ring_box.specs.Distances.{square_of, x_separation, y_separation, z_separation}
use Rattle.ring_box.specs.Forces.{acting_distance_of, force_along_of, line_force_of, no_force}
use Rattle.ring_box.specs.Places.{no_place, places_of}
use Rattle.ring_box.specs.declared.boxes.RingBox.{RingBox}
use Rattle.ring_box.specs.declared.vectors.Place3.{Place3}
use Rattle.ring_box.specs.declared.vectors.Vector.{Vector}
use Rattle.integrator.specs.Forces.{force_or_none, numbers_from, pairs_of, plus, share_of, sum_of_shares}
use Rattle.integrator.specs.Frames.{Dynamics, Frame, Frames, force_at, frames, moved_frame, next_frame, next_places, pair_force, steps_in}
use Rattle.integrator.specs.Starts.{as_written, pair_inputs}
use Rattle.potential.specs.Tables.{global_values, no_type, numbers_of}
use Rattle.integrator.specs.States.{counter_at, frames_of}
use Rattle.integrator.specs.declared.direction.Direction.{Direction}
use Rattle.integrator.specs.declared.direction.Direction.TheVariants.{Back, Forward}
use Rattle.line_text.proofs.StepLaws.{none_is_no_some}
use Rattle.integrator.proofs.NumberLaws.{at_number, length-numbers}
use Rattle.integrator.proofs.MotionLaws.{back_from_forward, forward_from_back}
use Rattle.engine.specs.RunSpecification.{Follows, IsPairForce, Lead, Leads, far, inputs, near, next_of, together}

-- ---- the force of a pair

chosen : {X : Type 0} (z : ℕ) (a b : X) → z ≡ 0 → (if z == 0 then a else b) ≡ a
chosen z a b h = rw h refl

split_same : (b : Bool) (u v : Vector ℤ) → (if b then Some u else Some (if b then u else v)) ≡ Some (if b then u else v)
split_same true u v = refl
split_same false u v = refl

at_one_place : (ring : RingBox) (s : ℤ → Option ℤ) (o : Option ℤ) (x y : Place3) → square_of ring x y ≡ 0 → force_at ring s o x y ≡ Some no_force
at_one_place ring s None x y h = refl
at_one_place ring s (Some r) x y h = chosen (square_of ring x y) (Some no_force) (option_map (λ g. force_along_of ring (neg_ℤ g) x y) (s r)) h

within : (ring : RingBox) (s : ℤ → Option ℤ) (o : Option ℤ) (x y : Place3) (r g : ℤ) → o ≡ Some r → s r ≡ Some g → force_at ring s o x y ≡ Some (force_along_of ring (neg_ℤ g) x y)
within ring s o x y r g e f =
    ap (λ p. force_at ring s p x y) e
    ∙ ap (λ (p : Option ℤ). if square_of ring x y == 0 then Some no_force else option_map (λ g. force_along_of ring (neg_ℤ g) x y) p) f
    ∙ split_same (square_of ring x y == 0) no_force
    (line_force_of (neg_ℤ g) (x_separation ring x y) (y_separation ring x y) (z_separation ring x y) (root (square_of ring x y)))

-- the values of a type
row_is : (ts : List TypeValue) (k : ℕ) → get_or (map (λ t. numbers_of t.values) ts) k [] ≡ numbers_of (get_or ts k no_type).values
row_is [] k = refl
row_is (t ∷ ts) zero = refl
row_is (t ∷ ts) (suc k) = row_is ts k

-- ---- all forces of a frame

is_forced : (o : Option (Vector ℤ)) → is_some o ≡ true → o ≡ Some (unwrap_or o no_force)
is_forced None e = absurd cc
is_forced (Some v) e = refl

module _ (force : ℕ × ℕ → Option (Vector ℤ)) where
  -- If each pair has a force, a property of each pair with a force is a property of all pairs.
  each_forced : (P : ℕ × ℕ → Type 0) → ((q : ℕ × ℕ) → force q ≡ Some (force_or_none force q) → P q) → (ps : List (ℕ × ℕ)) → list_all (λ p. is_some (force p)) ps ≡ true → All P ps
  each_forced P h [] e = All-nil P
  each_forced P h (q ∷ ps) e =
      let b = and_parts (is_some (force q)) (list_all (λ p. is_some (force p)) ps) e in
      All-cons P q ps (h q (is_forced (force q) b.0)) (each_forced P h ps b.1)

  forced : (n : ℕ) (b : Bool) (move : List (Vector ℤ) → Frame) (m : Frame) → list_all (λ p. is_some (force p)) (pairs_of n) ≡ b
      → option_map move (if b then Some (map (sum_of_shares (force_or_none force) (pairs_of n)) (numbers_from 0 n)) else None) ≡ Some m
      → (list_all (λ p. is_some (force p)) (pairs_of n) ≡ true) × (move (map (sum_of_shares (force_or_none force) (pairs_of n)) (numbers_from 0 n)) ≡ m)
  forced n true move m h e = (h, same_Some (move (map (sum_of_shares (force_or_none force) (pairs_of n)) (numbers_from 0 n))) m e)
  forced n false move m h e = absurd (none_is_no_some m e)

  module _ (given : ℕ × ℕ → Vector ℤ) where
    all_forced : (ps : List (ℕ × ℕ)) → All (λ q. force q ≡ Some (given q)) ps → list_all (λ p. is_some (force p)) ps ≡ true
    all_forced [] h = refl
    all_forced (q ∷ ps) h = rw (All-head (λ q. force q ≡ Some (given q)) q ps h) (all_forced ps (All-tail (λ q. force q ≡ Some (given q)) q ps h))

    same_sums : (ps : List (ℕ × ℕ)) (a : ℕ) → All (λ q. force q ≡ Some (given q)) ps → sum_of_shares (force_or_none force) ps a ≡ sum_of_shares given ps a
    unfolding sum_of_shares
    same_sums [] a h = refl
    same_sums (q ∷ ps) a h =
        ap (λ o. plus (share_of q (unwrap_or o no_force) a) (sum_of_shares (force_or_none force) ps a)) (All-head (λ q. force q ≡ Some (given q)) q ps h)
        ∙ ap (plus (share_of q (given q) a)) (same_sums ps a (All-tail (λ q. force q ≡ Some (given q)) q ps h))

-- one more in front
abbrev before : {X : Type 0} → X → (ℕ → X) → ℕ → X
before x f zero = x
before x f (suc k) = f k

module _ (j : JobValue) (tree : Tree) (sides types : List ℕ) where
  abbrev motion : Dynamics
  motion = as_written j sides tree types

  inputs_are : (p : ℕ × ℕ) (r : ℤ) → pair_inputs j types p r ≡ inputs j tree sides types p r
  inputs_are p r =
      let a = slice_index types p.0 in
      let b = slice_index types p.1 in
      ap (λ (u : List ℤ). r ∷ (u ++ (get_or (map (λ (t : TypeValue). numbers_of t.values) j.types) b [] ++ global_values j.globals))) (row_is j.types a)
      ∙ ap (λ (u : List ℤ). r ∷ (numbers_of (get_or j.types a no_type).values ++ (u ++ global_values j.globals))) (row_is j.types b)

  slope_is : (p : ℕ × ℕ) (r : ℤ) → motion.slope p r ≡ slope_of (bits_of j.frac) (inputs j tree sides types p r) tree
  slope_is p r = ap (λ (is : List ℤ). slope_of (bits_of j.frac) is tree) (inputs_are p r)

  abbrev reached : Place3 → Place3 → Option ℤ
  reached x y = acting_distance_of motion.frac motion.ring motion.core motion.cutoff x y

  has_force : (p : ℕ × ℕ) (x y : Place3) (v : Vector ℤ) → IsPairForce j tree sides types p x y v → force_at motion.ring (motion.slope p) (reached x y) x y ≡ Some v
  has_force p x y v (far e f) = ap (λ o. force_at motion.ring (motion.slope p) o x y) e ∙ ap Some (sym f)
  has_force p x y v (together e f) = at_one_place motion.ring (motion.slope p) (reached x y) x y e ∙ ap Some (sym f)
  has_force p x y v (near r g e s f) = within motion.ring (motion.slope p) (reached x y) x y r g e (slope_is p r ∙ s) ∙ ap Some (sym f)

  force_within : (p : ℕ × ℕ) (x y : Place3) (v : Vector ℤ) (r : ℤ) (b : Bool) (o : Option ℤ) → reached x y ≡ Some r → (square_of motion.ring x y == 0) ≡ b → motion.slope p r ≡ o
      → (if b then Some no_force else option_map (λ g. force_along_of motion.ring (neg_ℤ g) x y) o) ≡ Some v → IsPairForce j tree sides types p x y v
  force_within p x y v r true o h z s e = together (eqb-true (square_of motion.ring x y) 0 z) (sym (same_Some no_force v e))
  force_within p x y v r false None h z s e = absurd (none_is_no_some v e)
  force_within p x y v r false (Some g) h z s e = near r g h (sym (slope_is p r) ∙ s) (sym (same_Some (force_along_of motion.ring (neg_ℤ g) x y) v e))

  is_force : (p : ℕ × ℕ) (x y : Place3) (v : Vector ℤ) (o : Option ℤ) → reached x y ≡ o → force_at motion.ring (motion.slope p) o x y ≡ Some v → IsPairForce j tree sides types p x y v
  is_force p x y v None h e = far h (sym (same_Some no_force v e))
  is_force p x y v (Some r) h e = force_within p x y v r (square_of motion.ring x y == 0) (motion.slope p r) h refl refl e

  -- ---- a step

  abbrev next_at : (p c : Frame) (forces : List (Vector ℤ)) → ℕ → Place3
  next_at p c forces a = next_places motion (slice_index motion.masses a) (places_of p a) (places_of c a) (get_or forces a no_force)

  -- If the forces are these sums, each atom of the moved frame is at the specification's next position.
  moved_at : (p c : Frame) (sums : ℕ → Vector ℤ) (a : ℕ) → a < length c
      → get_or (moved_frame motion p c (map sums (numbers_from 0 (length c)))) a no_place ≡ next_of j tree sides types (slice_index motion.masses a) (places_of p a) (places_of c a) (sums a)
  moved_at p c sums a l =
      let there = next_at p c (map sums (numbers_from 0 (length c))) in
      at_number there no_place 0 (length c) a l ∙ ap there (zero-add a)
      ∙ ap (next_of j tree sides types (slice_index motion.masses a) (places_of p a) (places_of c a)) (at_number sums no_force 0 (length c) a l ∙ ap sums (zero-add a))

  follows : (p c n : Frame) → next_frame motion p c ≡ Some n → Follows j tree sides types p c n
  follows p c n e =
      let force = pair_force motion c in
      let sums = sum_of_shares (force_or_none force) (pairs_of (length c)) in
      let f = forced force (length c) (list_all (λ p. is_some (force p)) (pairs_of (length c))) (moved_frame motion p c) n refl e in
      record {
        force = force_or_none force;
        forces = each_forced force (λ q. IsPairForce j tree sides types q (places_of c q.0) (places_of c q.1) (force_or_none force q))
            (λ q h. is_force q (places_of c q.0) (places_of c q.1) (force_or_none force q) (reached (places_of c q.0) (places_of c q.1)) refl h) (pairs_of (length c)) f.0;
        atoms = ap length (sym f.1) ∙ length-numbers (next_at p c (map sums (numbers_from 0 (length c)))) 0 (length c);
        moved = λ a l. ap (λ (m : Frame). get_or m a no_place) (sym f.1) ∙ moved_at p c sums a l;
      }

  followed : (p c n : Frame) → Follows j tree sides types p c n → next_frame motion p c ≡ Some n
  followed p c n r =
      let force = pair_force motion c in
      let ps = pairs_of (length c) in
      let sums = sum_of_shares (force_or_none force) ps in
      let forces = map sums (numbers_from 0 (length c)) in
      let has = All-weaker (λ q. IsPairForce j tree sides types q (places_of c q.0) (places_of c q.1) (r.force q)) (λ q. force q ≡ Some (r.force q))
      (λ q h. has_force q (places_of c q.0) (places_of c q.1) (r.force q) h) ps r.forces in
      let size : length (moved_frame motion p c forces) ≡ length c = length-numbers (next_at p c forces) 0 (length c) in
      ap (λ (b : Bool). option_map (moved_frame motion p c) (if b then Some forces else None)) (all_forced force r.force ps has)
      ∙ ap Some (ext_get_or no_place (moved_frame motion p c forces) n (size ∙ sym r.atoms) (λ a l.
      let below : a < length c = omega (arith, size) in
      moved_at p c sums a below
      ∙ ap (next_of j tree sides types (slice_index motion.masses a) (places_of p a) (places_of c a)) (same_sums force r.force ps a has)
      ∙ sym (r.moved a below)))

  -- ---- steps

  stepped : (p c m : Frame) (f : ℕ → Frame) (n : ℕ) → f 0 ≡ c → f 1 ≡ m → Follows j tree sides types p c m
      → ((k : ℕ) → k < n → Follows j tree sides types (f k) (f (suc k)) (f (suc (suc k))))
      → (k : ℕ) → k < suc n → Follows j tree sides types (before p f k) (before p f (suc k)) (before p f (suc (suc k)))
  stepped p c m f n first second h each zero l = subst (λ x. Follows j tree sides types p x (f 1)) (sym first) (subst (λ x. Follows j tree sides types p c x) (sym second) h)
  stepped p c m f n first second h each (suc k) l = each k (omega (arith, l))

  lead_on : (n : ℕ) (p c q e : Frame) (o : Option Frame) → next_frame motion p c ≡ o → option_and_then (steps_in Forward motion n) (option_map (frames c) o) ≡ Some (frames q e)
      → ((m : Frame) → steps_in Forward motion n (frames c m) ≡ Some (frames q e) → Lead j tree sides types n c m q e) → Lead j tree sides types (suc n) p c q e
  lead_on n p c q e None h t more = absurd (none_is_no_some (frames q e) t)
  lead_on n p c q e (Some m) h t more =
      let r = more m t in
      record {
        frame = before p r.frame;
        begins = (refl, r.begins.0);
        steps = stepped p c m r.frame n r.begins.0 r.begins.1 (follows p c m h) r.steps;
        ends = r.ends;
      }

  lead : (n : ℕ) (p c q e : Frame) → steps_in Forward motion n (frames p c) ≡ Some (frames q e) → Lead j tree sides types n p c q e
  unfolding steps_in
  lead zero p c q e h =
      let same : frames p c ≡ frames q e = same_Some (frames p c) (frames q e) h in
      record {
        frame = before p (λ k. c);
        begins = (refl, refl);
        steps = λ k l. absurd (omega (arith, l));
        ends = (ap (λ (f : Frames). f.previous) same, ap (λ (f : Frames). f.current) same);
      }
  lead (suc n) p c q e h = lead_on n p c q e (next_frame motion p c) refl h (λ m t. lead n c m q e t)

  led : (n : ℕ) (f : ℕ → Frame) → ((k : ℕ) → k < n → Follows j tree sides types (f k) (f (suc k)) (f (suc (suc k))))
      → steps_in Forward motion n (frames (f 0) (f 1)) ≡ Some (frames (f n) (f (suc n)))
  unfolding steps_in
  led zero f each = refl
  led (suc n) f each =
      ap (λ o. option_and_then (steps_in Forward motion n) (option_map (frames (f 1)) o)) (followed (f 0) (f 1) (f 2) (each 0 (omega arith)))
      ∙ led n (λ k. f (suc k)) (λ k l. each (suc k) (omega (arith, l)))

  led_by : (n : ℕ) (p c q e : Frame) → Lead j tree sides types n p c q e → steps_in Forward motion n (frames p c) ≡ Some (frames q e)
  led_by n p c q e r = rw (r.begins.0, r.begins.1, r.ends.0, r.ends.1) at (led n r.frame r.steps)

-- Steps of the model in a direction are steps of the specification.
pub leads : (w : Direction) (j : JobValue) (tree : Tree) (types : List ℕ) (n : ℕ) (s t : StateView) → steps_in w (as_written j s.sides tree types) n (frames_of s) ≡ Some (frames_of t) → t.step ≡ counter_at w s.step n
    → Leads w j tree types n s t
leads Forward j tree types n s t h k = (lead j tree s.sides types n (frames_of s).previous (frames_of s).current (frames_of t).previous (frames_of t).current h, k)
leads Back j tree types n s t h k =
    let f = frames_of s in
    let g = frames_of t in
    (lead j tree s.sides types n f.current f.previous g.current g.previous (forward_from_back (as_written j s.sides tree types) n f g h), k)

-- Steps of the specification are steps of the model.
pub led_to : (w : Direction) (j : JobValue) (tree : Tree) (types : List ℕ) (n : ℕ) (s t : StateView) → Leads w j tree types n s t
    → (steps_in w (as_written j s.sides tree types) n (frames_of s) ≡ Some (frames_of t)) × (t.step ≡ counter_at w s.step n)
led_to Forward j tree types n s t l = (led_by j tree s.sides types n (frames_of s).previous (frames_of s).current (frames_of t).previous (frames_of t).current l.0, l.1)
led_to Back j tree types n s t l =
    let f = frames_of s in
    let g = frames_of t in
    (back_from_forward (as_written j s.sides tree types) n f.previous f.current g.previous g.current (led_by j tree s.sides types n f.current f.previous g.current g.previous l.0), l.1)
