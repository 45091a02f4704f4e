-- Interacting pairs in batches: the pairs found have the forces of all interacting pairs.
use Rattle.std.proofs.Common.{◌≡◌, ℕ, zero, suc, ◌+◌, ◌^◌, ◌<◌, ◌≤◌, cond, false, min, List, [], ◌∷◌, ◌++◌, length, map, filter, take, drop, ℤ, pos, Option, Some, None, arith, refl, ap, ap₂, sym, ◌∙◌, is_some, neg_ℤ, option_map, slice_get, slice_index, All, true≢false, take-add, inl, inr, get_or, subst}
use Rattle.std.specs.Prelude.{◌≤ℤ◌, ◌<ℤ◌}
use Rattle.ring_box.specs.PairForces.{force_in}
use Rattle.std.proofs.lemmas.Bool.{cases_lt}
use Rattle.std.proofs.lemmas.List.Elements.{All-cons, All-get_or, All-map}
use Rattle.std.proofs.lemmas.Option.{get_or_from_slice_get, same_Some, slice_get-get_or, slice_get-map, slice_get_within}
use Rattle.std.proofs.lemmas.Simd.{map-map}
use Rattle.std.proofs.lemmas.List.{drop-map, get_or-map, length-drop, length-map, length-take, map-append, take-map}
use Rattle.kernel_lanes.specs.Flats.{query_at}
use Rattle.kernel_lanes.specs.Lanes.{IsServed}
use Rattle.kernel_lanes.specs.declared.queries.Query.{Query}
use Rattle.ring_box.specs.Acting.{ActingPair, Reach, acting_of, force_of}
use Rattle.ring_box.specs.Distances.{distance_at, square_of}
use Rattle.ring_box.specs.FoundPairs.{AreForcesOf, AreSlopesSmall, found_among}
use Rattle.ring_box.specs.declared.pairs.AtomPair.{AtomPair}
use Rattle.ring_box.specs.declared.vectors.Place3.{Place3}
use Rattle.ring_box.specs.declared.vectors.Vector.{Vector}
use Rattle.ring_box.proofs.ActingLemmas.{halves, taken}
use Rattle.ring_box.proofs.ForceLemmas.{max_high, max_low}
use Rattle.cell_tiles.specs.Near.{AreNear, pair_acts, those_acting}
use Rattle.pair_lists.proofs.ListingLemmas.{from_start}
use Rattle.rounds.proofs.ActingLemmas.{acting_append, take_next}
use Rattle.rounds.specs.Tiles.{AreNextActing, IsPairOf, acting}
use Rattle.rounds.specs.declared.work.PairAdd.{PairAdd}
use Rattle.ring_box.specs.Places.{places_of}
use Rattle.integrator.specs.Frames.{Frame}
use Rattle.integrator.specs.declared.systems.System.{System}
use Rattle.frame_sums.proofs.TotalLaws.{few_act}
use Rattle.frame_sums.specs.Rounds.{add_of, pair_add}
use Rattle.frame_sums.specs.Rows.{adds_from, AreFoundForces, AreNextFound, AreSlopes, IsFound, IsSlope, add_found, minus_slope_for, query_of, found_in, found_of, reach_of}
use Rattle.ring_box.specs.declared.pair_forces.PairForces.{PairForces}
use Rattle.potential.proofs.PotentialLaws.{minus_is}
use Rattle.potential.specs.LaneKernels.{IsCodeValue}
use Rattle.potential.specs.Potentials.{minus, potential_of, slope_at}
use Rattle.ring_box.specs.declared.found_pairs.FoundPair.{FoundPair}
use Rattle.potential.specs.declared.slope_kernels.SlopeKernel.{SlopeKernel}

-- ---- lists

-- a list that is mapped up to an index, and the next element
pub mapped_next : {X Y : Type 0} (f : X → Y) (xs : List X) (k : ℕ) (x : X) → slice_get xs k ≡ Some x → map f (take (k + 1) xs) ≡ map f (take k xs) ++ f x ∷ []
mapped_next f xs k x at = ap (map f) (take_next xs k x at) ∙ map-append f (take k xs) (x ∷ [])

-- ---- the interacting elements of a list

sieve_one : {P X Y : Type 0} (f : P → Option X) (g : P → X → Y) (p : P) (ps qs : List P) → acting (map (λ q. option_map (g q) (f q)) ps) ≡ acting (map (λ q. option_map (g q) (f q)) qs) → (o : Option X) → f p ≡ o
    → acting (map (λ q. option_map (g q) (f q)) (p ∷ ps)) ≡ acting (map (λ q. option_map (g q) (f q)) (cond (is_some o) (p ∷ qs) qs))
sieve_one f g p ps qs same None e = rw e same
sieve_one f g p ps qs same (Some x) e = rw e (ap (λ ys. g p x ∷ ys) same)

-- the values of all are the values of those that have one
sieve : {P X Y : Type 0} (f : P → Option X) (g : P → X → Y) (ps : List P) → acting (map (λ p. option_map (g p) (f p)) ps) ≡ acting (map (λ p. option_map (g p) (f p)) (filter (λ p. is_some (f p)) ps))
sieve f g [] = refl
sieve f g (p ∷ ps) = sieve_one f g p ps (filter (λ q. is_some (f q)) ps) (sieve f g ps) (f p) refl

acting_mapped : {X Y : Type 0} (g : X → Y) (os : List (Option X)) → acting (map (option_map g) os) ≡ map g (acting os)
acting_mapped g [] = refl
acting_mapped g (None ∷ os) = acting_mapped g os
acting_mapped g (Some x ∷ os) = ap (λ ys. g x ∷ ys) (acting_mapped g os)

-- no element has no image
none_mapped : {X Y : Type 0} (f : X → Y) (o : Option X) → is_some o ≡ false → option_map f o ≡ None
none_mapped f None h = refl
none_mapped f (Some x) h = absurd (true≢false h)

-- ---- pairs by their indices

-- the pair that has these atoms
pub pair_at : (found : List FoundPair) (l : ℕ) (atoms : ℕ × ℕ) → slice_get (map (λ f. (f.low, f.high)) found) l ≡ Some atoms → (f : FoundPair) × (slice_get found l ≡ Some f)
pair_at found l atoms at =
    let none : FoundPair = record { low = 0; high = 0; acting = record { x = pos 0; y = pos 0; z = pos 0; length = 1; distance = pos 0 } } in
    let pair : FoundPair → ℕ × ℕ = λ f. (f.low, f.high) in
    let lt : l < length found = omega (arith, slice_get_within (map pair found) l atoms at, length-map found pair) in
    (get_or found l none, slice_get-get_or found l none lt)

-- those are the atoms of the pair
pub same_atoms : (found : List FoundPair) (l : ℕ) (f : FoundPair) (atoms : ℕ × ℕ) → slice_get found l ≡ Some f → slice_get (map (λ f. (f.low, f.high)) found) l ≡ Some atoms → (f.low, f.high) ≡ atoms
same_atoms found l f atoms here at =
    let pair : FoundPair → ℕ × ℕ = λ f. (f.low, f.high) in
    same_Some (f.low, f.high) atoms (sym (slice_get-map pair found l ∙ ap (option_map pair) here) ∙ at)

-- pairs of n atoms have indices below n
pub pairs_inside : (n : ℕ) (near : List AtomPair) → All (λ (p : ℕ × ℕ). (p.0 < p.1) × (p.1 < n)) (map (λ q. (q.low, q.high)) near)
    → All (λ (p : AtomPair). (p.low < n) × (p.high < n)) near
pairs_inside n near all =
    λ k d lt.
    let pair : AtomPair → ℕ × ℕ = λ q. (q.low, q.high) in
    let are : ℕ × ℕ → Type 0 = λ p. (p.0 < p.1) × (p.1 < n) in
    let here : are (pair (get_or near k d)) = rw (get_or-map pair near k d (0, 0) lt) at (All-get_or are (map pair near) k (0, 0) (omega (arith, length-map near pair, lt)) all) in
    (omega (arith, here.0, here.1), here.1)

-- ---- forces in lanes

-- each pair has a force
pub adds_length : (l : ℕ) (found : List FoundPair) (forces : PairForces) → length (adds_from l found forces) ≡ length found
adds_length l [] forces = refl
adds_length l (f ∷ found) forces = ap suc (adds_length (suc l) found forces)

adds_get : (l : ℕ) (found : List FoundPair) (forces : PairForces) (k : ℕ) (f : FoundPair) → slice_get found k ≡ Some f
    → slice_get (adds_from l found forces) k ≡ Some (pair_add f.low f.high (force_in forces (l + k)))
adds_get l [] forces k f at = absurd (omega (arith, slice_get_within [] k f at))
adds_get l (g ∷ found) forces zero f at =
    let here : l ≡ l + 0 = omega arith in
    ap (λ (h : FoundPair). Some (pair_add h.low h.high (force_in forces l))) (same_Some g f at)
    ∙ ap (λ n. Some (pair_add f.low f.high (force_in forces n))) here
adds_get l (g ∷ found) forces (suc k) f at =
    let next : suc l + k ≡ l + suc k = omega arith in
    adds_get (suc l) found forces k f at ∙ ap (λ n. Some (pair_add f.low f.high (force_in forces n))) next

-- the force of a pair is in its lane
pub add_in_lane : (found : List FoundPair) (forces : PairForces) (l : ℕ) (f : FoundPair) → slice_get found l ≡ Some f
    → slice_get (adds_from 0 found forces) l ≡ Some (pair_add f.low f.high (force_in forces l))
add_in_lane found forces l f at =
    let here : 0 + l ≡ l = omega arith in
    adds_get 0 found forces l f at ∙ ap (λ n. Some (pair_add f.low f.high (force_in forces n))) here

module _ {A : Type 0} (s : System (SlopeKernel A) A) where
  -- the lanes from l on hold the forces of the pairs
  abbrev AreForcesFrom : ℕ → List FoundPair → PairForces → Type 0
  AreForcesFrom l found forces =
      (k : ℕ) (f : FoundPair) → slice_get found k ≡ Some f → force_in forces (l + k) ≡ force_of f.acting (minus_slope_for s (query_of s f))

  adds_are_from : (l : ℕ) (found : List FoundPair) (forces : PairForces) → AreForcesFrom l found forces → adds_from l found forces ≡ map (add_found s) found
  adds_are_from l [] forces are = refl
  adds_are_from l (f ∷ found) forces are =
      let here : l + 0 ≡ l = omega arith in
      let first : force_in forces l ≡ force_of f.acting (minus_slope_for s (query_of s f)) = ap (force_in forces) (sym here) ∙ are 0 f refl in
      let rest : AreForcesFrom (suc l) found forces = λ k g at. let next : suc l + k ≡ l + suc k = omega arith in ap (force_in forces) next ∙ are (suc k) g at in
      ap₂ (λ (v : Vector ℤ) adds. pair_add f.low f.high v ∷ adds) first (adds_are_from (suc l) found forces rest)

  -- if the lanes hold the forces of the pairs, the round adds these
  pub adds_are : (found : List FoundPair) (forces : PairForces) → AreFoundForces s found forces → adds_from 0 found forces ≡ map (add_found s) found
  adds_are found forces are =
      let first : AreForcesFrom 0 found forces = λ k f at. let here : 0 + k ≡ k = omega arith in ap (force_in forces) here ∙ are k f at in
      adds_are_from 0 found forces first

  -- ---- pairs found

  twice : (o : Option ActingPair) (p : ℕ × ℕ)
      → option_map (add_found s) (option_map {U = FoundPair} (λ a. record { low = p.0; high = p.1; acting = a }) o)
      ≡ option_map (pair_add p.0 p.1)
      (option_map (λ (a : ActingPair). force_of a (minus (slope_at (potential_of s.kernel) (slice_index s.types.items p.0) (slice_index s.types.items p.1) a.distance))) o)
  twice None p = refl
  twice (Some a) p = refl

  -- the force of a pair that is found is the force of the pair
  pub found_adds : (frame : Frame) (p : ℕ × ℕ) → option_map (add_found s) (found_of s frame p) ≡ add_of s frame p
  found_adds frame p =
      let x = places_of frame p.0 in
      let y = places_of frame p.1 in
      let slope = λ (r : ℤ). minus (slope_at (potential_of s.kernel) (slice_index s.types.items p.0) (slice_index s.types.items p.1) r) in
      twice (acting_of (reach_of s) s.ring x y) p ∙ ap (option_map (pair_add p.0 p.1)) (halves (reach_of s) s.ring slope x y)

  -- the forces of the interacting pairs of a list are the forces of the pairs found in the list
  pub all_found : (frame : Frame) (ps : List (ℕ × ℕ)) → acting (map (add_of s frame) ps) ≡ map (add_found s) (acting (map (found_of s frame) ps))
  all_found frame ps =
      ap acting (sym (map-map (option_map (add_found s)) (found_of s frame) ps ∙ (λ i. map (λ p. found_adds frame p i) ps))) ∙ acting_mapped (add_found s) (map (found_of s frame) ps)

  -- a pair that doesn't interact isn't found
  pub not_found : (frame : Frame) (p : ℕ × ℕ) → pair_acts (reach_of s) s.ring frame p ≡ false → found_of s frame p ≡ None
  not_found frame p idle =
      none_mapped {Y = FoundPair} (λ a. record { low = p.0; high = p.1; acting = a }) (acting_of (reach_of s) s.ring (places_of frame p.0) (places_of frame p.1)) idle

  within_reach : (n : ℕ) (x y : Place3) (p : ℕ × ℕ) (a : ActingPair) → (p.0 < p.1) × (p.1 < n) → acting_of (reach_of s) s.ring x y ≡ Some a → IsFound s n (record { low = p.0; high = p.1; acting = a })
  within_reach n x y p a pair acts =
      let are = taken (reach_of s) s.ring x y a acts in
      let d = pos (distance_at s.frac (square_of s.ring x y)) in
      record {
        ordered = pair.0;
        inside = pair.1;
        core = rw are.1 (max_low d s.core);
        cutoff = rw are.1 (max_high d s.core s.cutoff are.0 s.below_cutoff);
      }

  first_found : (n : ℕ) (x y : Place3) (p : ℕ × ℕ) (rest : List (Option FoundPair)) (o : Option ActingPair) → (p.0 < p.1) × (p.1 < n) → acting_of (reach_of s) s.ring x y ≡ o → All (IsFound s n) (acting rest)
      → All (IsFound s n) (acting (option_map {U = FoundPair} (λ a. record { low = p.0; high = p.1; acting = a }) o ∷ rest))
  first_found n x y p rest None pair acts all = all
  first_found n x y p rest (Some a) pair acts all = All-cons (IsFound s n) (record { low = p.0; high = p.1; acting = a }) (acting rest) (within_reach n x y p a pair acts) all

  -- pairs of n atoms that are found are pairs of them within reach
  pub all_are_found : (n : ℕ) (frame : Frame) (ps : List (ℕ × ℕ)) → All (λ p. (p.0 < p.1) × (p.1 < n)) ps → All (IsFound s n) (acting (map (found_of s frame) ps))
  all_are_found n frame [] all = λ k f lt. absurd (omega arith)
  all_are_found n frame (p ∷ ps) all =
      let x = places_of frame p.0 in
      let y = places_of frame p.1 in
      let rest : All (IsFound s n) (acting (map (found_of s frame) ps)) = all_are_found n frame ps (λ k q lt. all (suc k) q (omega arith)) in
      first_found n x y p (map (found_of s frame) ps) (acting_of (reach_of s) s.ring x y) (all 0 p (omega arith)) refl rest

  found_sieved : (frame : Frame) (ps : List (ℕ × ℕ)) → acting (map (found_of s frame) ps) ≡ acting (map (found_of s frame) (those_acting (reach_of s) s.ring frame ps))
  found_sieved frame ps = sieve (λ (p : ℕ × ℕ). acting_of (reach_of s) s.ring (places_of frame p.0) (places_of frame p.1)) (λ (p : ℕ × ℕ) (a : ActingPair). record { low = p.0; high = p.1; acting = a }) ps

  -- the pairs found among those that are near are those found from the number k to before n
  pub near_found : (frame : Frame) (ps near : List (ℕ × ℕ)) (k n : ℕ) (found : List FoundPair) → AreNear (reach_of s) s.ring frame ps k near n → found ≡ acting (map (found_of s frame) near)
      → AreNextFound s frame ps k found n
  near_found frame ps near k n found is here =
      let F = found_of s frame in
      let those = those_acting (reach_of s) s.ring frame in
      let sieved : acting (map F (drop k ps)) ≡ found ++ acting (map F (drop n ps)) =
      found_sieved frame (drop k ps)
      ∙ (ap (λ qs. acting (map F qs)) is.acting
      ∙ (ap acting (map-append F (those near) (those (drop n ps)))
      ∙ (acting_append (map F (those near)) (map F (those (drop n ps)))
      ∙ ap₂ (λ xs ys. xs ++ ys) (sym (found_sieved frame near) ∙ sym here) (sym (found_sieved frame (drop n ps)))))) in
      let before : acting (take n (map F ps)) ≡ acting (take k (map F ps)) ++ found =
      from_start acting acting_append (map F ps) k n found (ap acting (drop-map F k ps) ∙ (sieved ∙ ap (λ ys. found ++ acting ys) (sym (drop-map F n ps)))) in
      record {
        onward = is.onward;
        within = is.within;
        acting = ap acting (sym (take-map F n ps)) ∙ (before ∙ ap (λ ys. acting ys ++ found) (take-map F k ps));
      }

  -- ---- batches

  among_one : (frame : Frame) (p : AtomPair) (near : List AtomPair) (o : Option FoundPair) → found_of s frame (p.low, p.high) ≡ o
      → found_among (reach_of s) s.ring frame near ≡ found_in s frame (map (λ q. (q.low, q.high)) near)
      → found_among (reach_of s) s.ring frame (p ∷ near) ≡ found_in s frame (map (λ q. (q.low, q.high)) (p ∷ near))
  among_one frame p near None e same = rw e same
  among_one frame p near (Some f) e same = rw e (ap (λ fs. f ∷ fs) same)

  -- the interacting pairs of a list of pairs of atoms, by the atoms' indices
  pub among_in : (frame : Frame) (near : List AtomPair) → found_among (reach_of s) s.ring frame near ≡ found_in s frame (map (λ q. (q.low, q.high)) near)
  among_in frame [] = refl
  among_in frame (p ∷ near) = among_one frame p near (found_of s frame (p.low, p.high)) refl (among_in frame near)

  -- the pairs of a batch that has been filled with the first of a list
  pub batch_found : (frame : Frame) (near : List AtomPair) (tried : ℕ) (d : Reach) (filled found : List FoundPair) → d ≡ reach_of s
      → filled ≡ found_among d s.ring frame (take tried near) → found ≡ filled → found ≡ found_in s frame (take tried (map (λ q. (q.low, q.high)) near))
  batch_found frame near tried d filled found reach is same =
      let pair : AtomPair → ℕ × ℕ = λ q. (q.low, q.high) in
      same
      ∙ (is
      ∙ (ap (λ e. found_among e s.ring frame (take tried near)) reach
      ∙ (among_in frame (take tried near) ∙ ap (found_in s frame) (sym (take-map pair tried near)))))

  -- if a batch of the first m pairs of a list is full, or those are all pairs, then m is at least 128 or their number
  pub all_tried : (frame : Frame) (ps : List (ℕ × ℕ)) (long m : ℕ) (found : List FoundPair) → found ≡ found_in s frame (take m ps)
      → (m < long → length found ≡ 128) → min 128 long ≤ m
  all_tried frame ps long m found here full =
      let F = found_of s frame in
      let few : length found ≤ m = omega (arith, ap length here, few_act (map F (take m ps)), length-map (take m ps) F, length-take m ps) in
      elim (cases_lt m long) [
        | inl lt ↦ let filled : length found ≡ 128 = full lt in omega (arith, few, filled)
        | inr ge ↦ omega (arith, ge)
      ]

  -- the pairs found among the first m from the number k on are those found from k to before k + m
  pub part_found : (frame : Frame) (ps rest : List (ℕ × ℕ)) (k m : ℕ) (found : List FoundPair) → rest ≡ drop k ps → k < length ps → 0 < m → m ≤ length rest
      → found ≡ found_in s frame (take m rest) → AreNextFound s frame ps k found (k + m)
  part_found frame ps rest k m found is start some most here =
      let F = found_of s frame in
      let part = take m rest in
      let upto : take (k + m) ps ≡ take k ps ++ part = take-add k m ps ∙ ap (λ qs. take k ps ++ take m qs) (sym is) in
      record {
        onward = omega (arith, some);
        within = omega (arith, start, most, ap length is, length-drop k ps);
        acting =
            ap (λ qs. acting (map F qs)) upto
            ∙ (ap acting (map-append F (take k ps) part)
            ∙ (acting_append (map F (take k ps)) (map F part) ∙ ap (λ xs. acting (map F (take k ps)) ++ xs) (sym here)));
      }

  -- the forces of the first m pairs are the forces of the pairs found among the first m
  first_add : (frame : Frame) (ps : List (ℕ × ℕ)) (m : ℕ) → acting (take m (map (add_of s frame) ps)) ≡ map (add_found s) (acting (map (found_of s frame) (take m ps)))
  first_add frame ps m = ap acting (take-map (add_of s frame) m ps) ∙ all_found frame (take m ps)

  -- if `found` are the next pairs found, their forces are the forces of the next interacting pairs
  pub next_add : (frame : Frame) (ps : List (ℕ × ℕ)) (k n : ℕ) (found : List FoundPair) → AreNextFound s frame ps k found n → AreNextActing (map (add_of s frame) ps) k (map (add_found s) found) n
  next_add frame ps k n found is = record {
    onward = is.onward;
    within = rw (length-map ps (add_of s frame)) is.within;
    acting =
        first_add frame ps n
        ∙ (ap (map (add_found s)) is.acting
        ∙ (map-append (add_found s) (acting (map (found_of s frame) (take k ps))) found ∙ ap (λ ys. ys ++ map (add_found s) found) (sym (first_add frame ps k))));
  }

  pub found_is_pair : (n : ℕ) (f : FoundPair) → IsFound s n f → IsPairOf n (add_found s f)
  found_is_pair n f is = record { ordered = is.ordered; inside = is.inside }

  -- the forces in lanes of pairs found are of pairs of the atoms
  pub add_is_pair : (n : ℕ) (found : List FoundPair) (forces : PairForces) (l : ℕ) (add : PairAdd) → All (IsFound s n) found → AreFoundForces s found forces
      → slice_get (adds_from 0 found forces) l ≡ Some add → IsPairOf n add
  add_is_pair n found forces l add are forced at =
      let adds = adds_from 0 found forces in
      let all : All (IsPairOf n) adds =
      subst (All (IsPairOf n)) (sym (adds_are found forces forced)) (All-map (IsPairOf n) (add_found s) found (λ k d lt. found_is_pair n _ (are k d lt))) in
      subst (IsPairOf n) (get_or_from_slice_get adds l add add at) (All-get_or (IsPairOf n) adds l add (slice_get_within adds l add at) all)

  -- ---- derivatives

  -- if the code serves a query, its value is the derivative for the query
  pub slope_is : (query : Query) (v : ℤ) → IsServed s.kernel.verified query → s.kernel.verified.bound < 2 ^ 63 → IsCodeValue s.kernel.verified query v → IsSlope s query v
  slope_is query v served bound is =
      let small = is.small in
      record {
        value = minus_is (slope_at (potential_of s.kernel) query.a query.b query.r) v ((s.kernel.gives query.a query.b query.r served.first served.second).value is.n v is.ends);
        fits = omega arith;
      }

  -- ---- queries and forces

  -- the query for one of the pairs
  pub asked_at : (found : List FoundPair) (l : ℕ) (f : FoundPair) → slice_get found l ≡ Some f → query_at (map (query_of s) found) l ≡ query_of s f
  asked_at found l f at = get_or-map (query_of s) found l f (record { a = 0; b = 0; r = pos 0 }) (slice_get_within found l f at) ∙ ap (query_of s) (get_or_from_slice_get found l f f at)

  -- values of the code for the queries are derivatives
  pub slopes_asked : (found : List FoundPair) (queries : List Query) (slopes : List ℤ) → queries ≡ map (query_of s) found → All (IsServed s.kernel.verified) queries → s.kernel.verified.bound < 2 ^ 63
      → ((l : ℕ) → l < length queries → IsCodeValue s.kernel.verified (query_at queries l) (get_or slopes l (pos 0))) → AreSlopes s (map (query_of s) found) slopes
  slopes_asked found queries slopes asked served bound are =
      subst (λ (asked : List Query). AreSlopes s asked slopes) asked (λ l lt. slope_is (query_at queries l) (get_or slopes l (pos 0)) (served l _ lt) bound (are l lt))

  -- derivatives for the queries are small
  pub slopes_small : (found : List FoundPair) (slopes : List ℤ) → AreSlopes s (map (query_of s) found) slopes → AreSlopesSmall (length found) slopes
  slopes_small found slopes are l lt = (are l (omega (arith, lt, length-map found (query_of s)))).fits

  -- forces from the derivatives for the queries are the forces of the pairs
  pub forces_found : (found : List FoundPair) (slopes : List ℤ) (forces : PairForces) → AreSlopes s (map (query_of s) found) slopes → AreForcesOf found slopes forces → AreFoundForces s found forces
  forces_found found slopes forces are forced l f at =
      let inside : l < length (map (query_of s) found) = omega (arith, slice_get_within found l f at, length-map found (query_of s)) in
      forced l f at ∙ ap (force_of f.acting) ((are l inside).value ∙ ap (minus_slope_for s) (asked_at found l f at))

  same_distance : (found : List FoundPair) (l : ℕ) (f : FoundPair) (r : ℤ) → slice_get found l ≡ Some f → slice_get (map (λ f. f.acting.distance) found) l ≡ Some r → f.acting.distance ≡ r
  same_distance found l f r here at =
      let distance : FoundPair → ℤ = λ f. f.acting.distance in
      same_Some f.acting.distance r (sym (slice_get-map distance found l ∙ ap (option_map distance) here) ∙ at)

  -- a pair of a batch has two of n atoms, and a distance within reach
  pub found_here : (n : ℕ) (found : List FoundPair) (l : ℕ) (atoms : ℕ × ℕ) (r : ℤ) → All (IsFound s n) found → slice_get (map (λ f. (f.low, f.high)) found) l ≡ Some atoms → slice_get (map (λ f. f.acting.distance) found) l ≡ Some r
      → (f : FoundPair) × (atoms.0 < atoms.1) × (atoms.1 < n) × (s.core ≤ℤ r) × (r <ℤ s.cutoff) × (slice_get found l ≡ Some f)
  found_here n found l atoms r are at far =
      let here = pair_at found l atoms at in
      let f = here.0 in
      let is : IsFound s n f = subst (IsFound s n) (get_or_from_slice_get found l f f here.1) (All-get_or (IsFound s n) found l f (slice_get_within found l f here.1) are) in
      let e = same_atoms found l f atoms here.1 at in
      let d = same_distance found l f r here.1 far in
      (f, rw (← e) is.ordered, rw (← e) is.inside, rw (← d) is.core, rw (← d) is.cutoff, here.1)

  -- the query by the atoms and the distance is the query for the pair
  pub asked_by : (found : List FoundPair) (l : ℕ) (f : FoundPair) (atoms : ℕ × ℕ) (r : ℤ) → slice_get found l ≡ Some f → slice_get (map (λ f. (f.low, f.high)) found) l ≡ Some atoms → slice_get (map (λ f. f.acting.distance) found) l ≡ Some r
      → record { a = slice_index s.types.items atoms.0; b = slice_index s.types.items atoms.1; r = r } ≡ query_of s f
  asked_by found l f atoms r here at far = rw (← same_atoms found l f atoms here at, ← same_distance found l f r here far) refl

  -- a pair found gets its force from the derivative for its query
  pub slope_adds : (f : FoundPair) (query : Query) (v minus : ℤ) (force : Vector ℤ) (add : PairAdd) → IsSlope s query v → query ≡ query_of s f → minus ≡ neg_ℤ v → force ≡ force_of f.acting minus
      → add ≡ pair_add f.low f.high force → add ≡ add_found s f
  slope_adds f query v minus force add slope is opposite forced made = rw (made, forced, opposite, slope.value, is) refl
