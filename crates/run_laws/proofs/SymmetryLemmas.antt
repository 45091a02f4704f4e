-- A symmetry of the motion is a map of positions with a map of forces. If pair forces and next positions commute with
-- the maps, so do frames, steps, states and runs.
use Rattle.std.proofs.Common.{◌≡◌, ℕ, zero, suc, ◌<◌, ◌≤◌, List, length, get_or, ℤ, arith, refl, ap, sym, subst, ◌∙◌, map, slice_index}
use Rattle.std.specs.List.{All}
use Rattle.std.proofs.lemmas.List.{get_or-map, length-map}
use Rattle.std.proofs.lemmas.List.Elements.{All-from_recursion, All-map, recursion_from_All}
use Rattle.std.proofs.lemmas.Simd.{map-map}
use Rattle.energy_program.specs.Tree.{Tree}
use Rattle.job.specs.Values.{JobValue}
use Rattle.line_text.specs.Parts.{AreThree}
use Rattle.state.specs.StateText.{AtomView, IsAtom, IsSide, IsState, StateView, state_text}
use Rattle.ring_box.specs.Places.{ArePlaces, no_place, places_of}
use Rattle.ring_box.specs.declared.vectors.Place3.{Place3}
use Rattle.ring_box.specs.declared.vectors.Vector.{Vector}
use Rattle.integrator.specs.Forces.{pairs_of, sum_of_shares}
use Rattle.integrator.specs.declared.direction.Direction.{Direction}
use Rattle.integrator.specs.declared.direction.Direction.TheVariants.{Back, Forward}
use Rattle.integrator.specs.Starts.{system_of}
use Rattle.integrator.specs.States.{frames_of}
use Rattle.integrator.proofs.ForceLaws.{IsPairOf, frame_pairs, pairs_weaker}
use Rattle.integrator.proofs.ReturnLaws.{system-moved}
use Rattle.engine.specs.Engines.{AreSafe}
use Rattle.engine.specs.Ranges.{IsSafeFor}
use Rattle.engine.specs.RunSpecification.{Follows, HasRoom, IsLevesqueVerletRun, IsPairForce, Lead, Leads, box_of, current, next_of, previous, type_at, who}
use Rattle.engine.proofs.SpecifiedTexts.{moved_again, one_state}

-- ---- places of a frame

-- the place of an atom of a frame whose places were mapped
pub place_mapped : (f : Place3 → Place3) (frame : List Place3) (a : ℕ) → a < length frame → places_of (map f frame) a ≡ f (places_of frame a)
place_mapped f frame a l = get_or-map f frame a no_place no_place l

-- ---- steps

-- three maps for the positions of three successive frames, and one map for forces
module _ (j : JobValue) (tree : Tree) (sides others types : List ℕ) (first second third : Place3 → Place3) (g : Vector ℤ → Vector ℤ) where
  -- next positions and sums of shares commute with the maps
  pub record GoAlong : Type 0 where
    pub next : (m : ℕ) (p c : Place3) (v : Vector ℤ) → next_of j tree others types m (first p) (second c) (g v) ≡ third (next_of j tree sides types m p c v)
    pub sums : (force : ℕ × ℕ → Vector ℤ) (ps : List (ℕ × ℕ)) (a : ℕ) → sum_of_shares (λ q. g (force q)) ps a ≡ g (sum_of_shares force ps a)

  -- the force of a pair of atoms at these positions commutes with the maps
  abbrev pub ForceGoesAlong : ℕ × ℕ → Place3 → Place3 → Type 0
  ForceGoesAlong q a b = (v : Vector ℤ) → IsPairForce j tree sides types q a b v → IsPairForce j tree others types q (second a) (second b) (g v)

  abbrev mass_of : ℕ → ℕ
  mass_of a = slice_index (map (λ t. (type_at j t).mass) types) a

  moved_along : GoAlong → (p c n : List Place3) → ((a : ℕ) → a < length c → places_of (map first p) a ≡ first (places_of p a)) → (r : Follows j tree sides types p c n) → (a : ℕ) → a < length c
      → places_of (map third n) a ≡ next_of j tree others types (mass_of a) (places_of (map first p) a) (places_of (map second c) a) (sum_of_shares (λ q. g (r.force q)) (pairs_of (length c)) a)
  moved_along go p c n there r a l =
      let m = mass_of a in
      let sum = sum_of_shares r.force (pairs_of (length c)) a in
      place_mapped third n a (omega (arith, l, r.atoms))
      ∙ ap third (r.moved a l)
      ∙ sym (go.next m (places_of p a) (places_of c a) sum)
      ∙ ap (λ x. next_of j tree others types m x (second (places_of c a)) (g sum)) (sym (there a l))
      ∙ ap (λ y. next_of j tree others types m (places_of (map first p) a) y (g sum)) (sym (place_mapped second c a l))
      ∙ ap (λ v. next_of j tree others types m (places_of (map first p) a) (places_of (map second c) a) v) (sym (go.sums r.force (pairs_of (length c)) a))

  forces_along : (c : List Place3) → ((q : ℕ × ℕ) → IsPairOf (length c) q → ForceGoesAlong q (places_of c q.0) (places_of c q.1)) → (force : ℕ × ℕ → Vector ℤ)
      → All (λ q. IsPairForce j tree sides types q (places_of c q.0) (places_of c q.1) (force q)) (pairs_of (length c))
      → All (λ q. IsPairForce j tree others types q (places_of (map second c) q.0) (places_of (map second c) q.1) (g (force q))) (pairs_of (length c))
  forces_along c along force all =
      pairs_weaker (λ q. IsPairForce j tree sides types q (places_of c q.0) (places_of c q.1) (force q))
      (λ q. IsPairForce j tree others types q (places_of (map second c) q.0) (places_of (map second c) q.1) (g (force q))) (length c)
      (λ q is h.
      let below = is.below in
      let apart = is.apart in
      subst (λ b. IsPairForce j tree others types q (places_of (map second c) q.0) b (g (force q))) (sym (place_mapped second c q.1 (omega arith)))
      (subst (λ a. IsPairForce j tree others types q a (second (places_of c q.1)) (g (force q))) (sym (place_mapped second c q.0 (omega arith))) (along q is (force q) h)))
      (pairs_of (length c)) (frame_pairs (length c) 0 (length c) (omega arith)) all

  -- a step commutes with the maps
  pub follows_along : GoAlong → (p c n : List Place3) → ((a : ℕ) → a < length c → places_of (map first p) a ≡ first (places_of p a))
      → ((q : ℕ × ℕ) → IsPairOf (length c) q → ForceGoesAlong q (places_of c q.0) (places_of c q.1))
      → Follows j tree sides types p c n → Follows j tree others types (map first p) (map second c) (map third n)
  follows_along go p c n there along r =
      let size : length (map second c) ≡ length c = length-map c second in
      record {
        force = λ q. g (r.force q);
        forces = subst (λ m. All (λ q. IsPairForce j tree others types q (places_of (map second c) q.0) (places_of (map second c) q.1) (g (r.force q))) (pairs_of m)) (sym size) (forces_along c along r.force r.forces);
        atoms = length-map n third ∙ r.atoms ∙ sym size;
        moved = λ a l.
            subst (λ m. places_of (map third n) a ≡ next_of j tree others types (mass_of a) (places_of (map first p) a) (places_of (map second c) a) (sum_of_shares (λ q. g (r.force q)) (pairs_of m) a)) (sym size)
            (moved_along go p c n there r a (omega (arith, l, size)));
      }

-- If each step commutes with the maps of its frames, and keeps the condition P on two frames, n steps commute with the
-- maps.
module _ (j : JobValue) (tree : Tree) (sides others types : List ℕ) (f : ℕ → Place3 → Place3) (P : List Place3 → List Place3 → Type 0)
    (step : (k : ℕ) (p c n : List Place3) → P p c → Follows j tree sides types p c n → P c n × Follows j tree others types (map (f k) p) (map (f (suc k)) c) (map (f (suc (suc k))) n)) where
  kept : (n : ℕ) (frame : ℕ → List Place3) → P (frame 0) (frame 1) → ((k : ℕ) → k < n → Follows j tree sides types (frame k) (frame (suc k)) (frame (suc (suc k))))
      → (k : ℕ) → k ≤ n → P (frame k) (frame (suc k))
  kept n frame h steps zero l = h
  kept n frame h steps (suc k) l = (step k (frame k) (frame (suc k)) (frame (suc (suc k))) (kept n frame h steps k (omega (arith, l))) (steps k (omega (arith, l)))).0

  pub lead_along : (n : ℕ) (p c q e : List Place3) → P p c → Lead j tree sides types n p c q e → Lead j tree others types n (map (f 0) p) (map (f 1) c) (map (f n) q) (map (f (suc n)) e)
  lead_along n p c q e h r =
      let start : P (r.frame 0) (r.frame 1) = subst (λ x. P x (r.frame 1)) (sym r.begins.0) (subst (λ x. P p x) (sym r.begins.1) h) in
      record {
        frame = λ k. map (f k) (r.frame k);
        begins = (ap (map (f 0)) r.begins.0, ap (map (f 1)) r.begins.1);
        steps = λ k l. (step k (r.frame k) (r.frame (suc k)) (r.frame (suc (suc k))) (kept n r.frame start r.steps k (omega (arith, l))) (r.steps k l)).1;
        ends = (ap (map (f n)) r.ends.0, ap (map (f (suc n))) r.ends.1);
      }

-- ---- states

abbrev pub mapped_atom : (Place3 → Place3) → AtomView → AtomView
mapped_atom f a = record a { previous = f a.previous; current = f a.current }

abbrev pub mapped_state : (Place3 → Place3) → (List ℕ → List ℕ) → StateView → StateView
mapped_state f turn s = record s { sides = turn s.sides; atoms = map (mapped_atom f) s.atoms }

module _ (f : Place3 → Place3) where
  previous_mapped : (atoms : List AtomView) → map (λ a. a.previous) (map (mapped_atom f) atoms) ≡ map f (map (λ a. a.previous) atoms)
  previous_mapped atoms = map-map (λ (a : AtomView). a.previous) (mapped_atom f) atoms ∙ sym (map-map f (λ (a : AtomView). a.previous) atoms)

  current_mapped : (atoms : List AtomView) → map (λ a. a.current) (map (mapped_atom f) atoms) ≡ map f (map (λ a. a.current) atoms)
  current_mapped atoms = map-map (λ (a : AtomView). a.current) (mapped_atom f) atoms ∙ sym (map-map f (λ (a : AtomView). a.current) atoms)

lead_of : {j : JobValue} {tree : Tree} {sides types : List ℕ} {n : ℕ} {a b x y p c q e : List Place3} → a ≡ p → b ≡ c → x ≡ q → y ≡ e → Lead j tree sides types n p c q e → Lead j tree sides types n a b x y
lead_of ap' bc xq ye h = rw (ap', bc, xq, ye) h

-- if steps of frames commute with a map, steps of states do
pub leads_along : (w : Direction) (j : JobValue) (tree : Tree) (types : List ℕ) (n : ℕ) (f : Place3 → Place3) (turn : List ℕ → List ℕ) (P : List Place3 → List Place3 → Type 0) (s t : StateView)
    → ((p c q e : List Place3) → P p c → Lead j tree s.sides types n p c q e → Lead j tree (turn s.sides) types n (map f p) (map f c) (map f q) (map f e))
    → P (previous s) (current s) → P (current s) (previous s) → Leads w j tree types n s t → Leads w j tree types n (mapped_state f turn s) (mapped_state f turn t)
leads_along Forward j tree types n f turn P s t lead h back l = (
  lead_of (previous_mapped f s.atoms) (current_mapped f s.atoms) (previous_mapped f t.atoms) (current_mapped f t.atoms) (lead (previous s) (current s) (previous t) (current t) h l.0),
  l.1,
)
leads_along Back j tree types n f turn P s t lead h back l = (
  lead_of (current_mapped f s.atoms) (previous_mapped f s.atoms) (current_mapped f t.atoms) (previous_mapped f t.atoms) (lead (current s) (previous s) (current t) (previous t) back l.0),
  l.1,
)

-- ---- runs

atom_is : (f : Place3 → Place3) → ((p : Place3) → ArePlaces p → ArePlaces (f p)) → (a : AtomView) → IsAtom a → IsAtom (mapped_atom f a)
atom_is f places a h = record {
  low = h.low;
  high = h.high;
  residue = h.residue;
  name = h.name;
  previous = places a.previous h.previous;
  current = places a.current h.current;
}

-- if the maps keep positions and sides valid, a state with mapped positions and sides is a state
pub state_is : (f : Place3 → Place3) (turn : List ℕ → List ℕ) (s : StateView) → ((p : Place3) → ArePlaces p → ArePlaces (f p)) → (AreThree IsSide s.sides → AreThree IsSide (turn s.sides))
    → IsState s → IsState (mapped_state f turn s)
state_is f turn s places three h =
    let each = All-from_recursion IsAtom s.atoms h.atoms in
    record {
      title = h.title;
      step = h.step;
      sides = three h.sides;
      count = rw (length-map s.atoms (mapped_atom f)) h.count;
      atoms = recursion_from_All IsAtom (map (mapped_atom f) s.atoms) (All-map IsAtom (mapped_atom f) s.atoms (λ k d l. atom_is f places (get_or s.atoms k d) (each k d l)));
    }

abbrev HaveRoom : JobValue → List ℕ → Type 0
HaveRoom j sides = HasRoom j (box_of sides).x × HasRoom j (box_of sides).y × HasRoom j (box_of sides).z

-- if steps of states commute with the maps, runs do
pub run_along : (job state : List ℕ) (w : Direction) (n : ℕ) (text : List ℕ) (f : Place3 → Place3) (turn : List ℕ → List ℕ) (r : IsLevesqueVerletRun job state w n text)
    → ((p : Place3) → ArePlaces p → ArePlaces (f p)) → ((sides : List ℕ) → AreThree IsSide sides → AreThree IsSide (turn sides)) → (HaveRoom r.j r.before.sides → HaveRoom r.j (turn r.before.sides))
    → Leads w r.j r.tree r.types n (mapped_state f turn r.before) (mapped_state f turn r.after)
    → IsLevesqueVerletRun job (state_text (mapped_state f turn r.before)) w n (state_text (mapped_state f turn r.after))
run_along job state w n text f turn r places three room leads =
    let s = r.before in
    let t = r.after in
    let atoms = map (mapped_atom f) t.atoms in
    record {
      j = r.j;
      job_text = r.job_text;
      tree = r.tree;
      energy = r.energy;
      before = mapped_state f turn s;
      state_text' = record { fits = state_is f turn s places (three s.sides) r.state_text'.fits; is = refl };
      alike = r.alike;
      types = r.types;
      typed = record { known = r.typed.known; named = r.typed.named ∙ sym (map-map (λ (a : AtomView). a.name) (mapped_atom f) s.atoms) };
      room = room r.room;
      after = mapped_state f turn t;
      after_text = record { fits = state_is f turn t places (three t.sides) r.after_text.fits; is = refl };
      leads = leads;
      same = ap (λ (u : StateView). record u { sides = turn u.sides; atoms = atoms }) r.same;
      kept = map-map who (mapped_atom f) t.atoms ∙ r.kept ∙ sym (map-map who (mapped_atom f) s.atoms);
    }

-- ---- safe texts

-- a job and a state make the same system if the atoms have other positions
pub system_mapped : (j : JobValue) (f : Place3 → Place3) (s : StateView) → system_of j (mapped_state f (λ sides. sides) s) ≡ system_of j s
system_mapped j f s =
    let t = mapped_state f (λ sides. sides) s in
    ap (system_of j) (moved_again s t refl (map-map who (mapped_atom f) s.atoms)) ∙ system-moved j s (frames_of t) s.step

-- if two states have the same system and the same number of atoms, and one's text is safe, so is the other's
pub safe_along : (job : List ℕ) (s t : StateView) → IsState s → IsState t → ((j : JobValue) → system_of j t ≡ system_of j s) → length t.atoms ≡ length s.atoms
    → AreSafe job (state_text s) → AreSafe job (state_text t)
safe_along job s t from to system atoms a =
    let same : s ≡ a.s = one_state (state_text s) s a.s (record { fits = from; is = refl }) a.state_text' in
    let count : length a.s.atoms ≡ length t.atoms = ap (λ (b : StateView). length b.atoms) (sym same) ∙ sym atoms in
    record {
      j = a.j;
      s = t;
      job_text = a.job_text;
      state_text' = record { fits = to; is = refl };
      it = record {
        system = a.it.system;
        made = system a.j ∙ ap (system_of a.j) same ∙ a.it.made;
        it = subst (λ (count : ℕ). IsSafeFor a.j a.it.system.0.code count) count a.it.it;
      };
    }
