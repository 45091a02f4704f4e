-- Pairs of atoms that interact, stored one after the other.
use Rattle.std.proofs.Common.{◌≡◌, ◌≢◌, ◌∙◌, ℕ, ◌+◌, ◌-◌, ◌*◌, ◌^◌, ◌<◌, ◌≤◌, ◌⊎◌, inl, inr, ltb, Bool, true, false, List, [], ◌∷◌, ◌++◌, append-nil, ap₂, drop, length, length-set, map, take, set, get_or, option_map, Option, Some, None, ℤ, pos, ap, sym, refl, arith, subst, neg_ℤ}
use Rattle.std.specs.Prelude.{filter_map, option_to_list, slice_get, slice_index_or, unsigned_abs, IfSome, IsTrue, ◌*ℤ◌}
use Rattle.std.specs.Int.{from_bool, int_max}
use Rattle.std.specs.Float.Ieee.{Float, nan}
use Rattle.std.proofs.lemmas.Bool.{cases_eq, cases_lt, ltb-true, ltb-false}
use Rattle.std.proofs.lemmas.List.{append_assoc, get_or-map, get_or-set_other, get_or-set_same, get_or-take, length-map, length-take-le, map-append, take-set, take_more, take_more_set}
use Rattle.std.proofs.Math.Seq.{take-add}
use Rattle.std.proofs.lemmas.List.Elements.{All-get_or, All-push, filter_map-append}
use Rattle.std.proofs.lemmas.Option.{same_Some, slice_get-get_or, slice_get-map, slice_get_within}
use Rattle.fixed.specs.Roots.{root}
use Rattle.fixed.specs.Rounding.{IsFloor}
use Rattle.fixed.proofs.FloorLemmas.{floor_of_unique}
use Rattle.float_filters.specs.DistanceFilters.{AreDistances, distance_of}
use Rattle.float_filters.specs.Floors.{lane}
use Rattle.float_filters.specs.Forces.{AreComponents, IsLine}
use Rattle.float_filters.specs.Near.{IsNear, IsNearInteger, IsNearRoot}
use Rattle.float_filters.specs.declared.distance_filters.DistanceFilter.{DistanceFilter}
use Rattle.float_filters.specs.declared.force_lanes.FourForces.{FourForces}
use Rattle.ring_box.specs.Acting.{IsReach, Reach, force_of, length_of, limit_of}
use Rattle.ring_box.specs.Distances.{distance_at, square_of, x_separation, y_separation, z_separation}
use Rattle.ring_box.specs.FloatReaches.{IsFilter, IsReachSlack, taken_at}
use Rattle.ring_box.specs.FloatRows.{IsWithFour}
use Rattle.ring_box.specs.FloatSeparations.{AreShort, IsNearSeparation, squares_of}
use Rattle.ring_box.specs.Forces.{component_of, line_force_of}
use Rattle.ring_box.specs.FoundPairs.{AreApart, AreExactPut, AreExactlyMeasured, AreFourForces, AreForcesBefore, AreFourMeasured, AreFourPut, AreHeld, AreInReach, AreMeasured, AreMeasuredBefore, AreNearLengths, AreNearPairs, FoundPairs, IsBelowLimit, IsForceAt, IsMeasured, IsNearPair, PairInReach, force_of_four, found_among, found_at, found_from, found_pair_of, line_force_on, scaled, squared}
use Rattle.ring_box.specs.Places.{places_of}
use Rattle.ring_box.specs.PairForces.{IsWithForce, IsWithForces, force_in}
use Rattle.ring_box.specs.declared.boxes.RingBox.{RingBox}
use Rattle.ring_box.specs.declared.found_pairs.FoundPair.{FoundPair}
use Rattle.ring_box.specs.declared.found_pairs.GridPair.{GridPair}
use Rattle.ring_box.specs.declared.pair_forces.PairForces.{PairForces}
use Rattle.ring_box.specs.declared.pairs.AtomPair.{AtomPair}
use Rattle.ring_box.specs.declared.separations.FloatSeparation.{FloatSeparation}
use Rattle.ring_box.specs.declared.vectors.Place3.{Place3}
use Rattle.ring_box.specs.declared.vectors.Vector.{Vector}
use Rattle.ring_box.proofs.ActingLemmas.{acts, idle}
use Rattle.ring_box.proofs.DistanceLemmas.{length_apart}
use Rattle.ring_box.proofs.FloatReachLemmas.{distance_apart, distance_taken, same_distance}

-- ---- those that are held

-- the number of held pairs is n
pub held_length : (d : Reach) (n : ℕ) (pairs : List PairInReach) → AreInReach d n pairs → length (map (found_from d) (take n pairs)) ≡ n
held_length d n pairs are = length-map (take n pairs) (found_from d) ∙ length-take-le n pairs (omega (arith, are.lanes, are.few))

-- the number of seen pairs is n
pub seen_length : (d : Reach) (n : ℕ) (pairs : List PairInReach) (k : ℕ) (seen : FoundPairs) → AreInReach d n pairs → record { reach = d; pairs = map (found_from d) (take n pairs); measured = k } ≡ seen → length seen.pairs ≡ n
seen_length d n pairs k seen are e = ap (λ (s : FoundPairs). length s.pairs) (sym e) ∙ held_length d n pairs are

-- each is found from the pair in its lane
pub held_at : (d : Reach) (n : ℕ) (pairs : List PairInReach) (l : ℕ) (x : PairInReach) → AreInReach d n pairs → l < n → slice_get (map (found_from d) (take n pairs)) l ≡ Some (found_from d (get_or pairs l x))
held_at d n pairs l x are lt =
    let size = length-take-le n pairs (omega (arith, are.lanes, are.few)) in
    slice_get-get_or (map (found_from d) (take n pairs)) l (found_from d x) (omega (arith, held_length d n pairs are))
    ∙ ap Some (get_or-map (found_from d) (take n pairs) l x (found_from d x) (omega (arith, size)) ∙ ap (found_from d) (get_or-take n pairs l x lt))

-- ---- one more

uncounted : (n : ℕ) → n + from_bool false ≡ n
uncounted n = omega arith

-- if a pair is stored, and counted only if it is within reach, all counted pairs are within reach
pub counted : (d : Reach) (n : ℕ) (pairs : List PairInReach) (v : PairInReach) (near : Bool) → ltb (squared v) (limit_of d.frac d.cutoff) ≡ near →
    n < 128 → AreInReach d n pairs → AreInReach d (n + from_bool near) (set pairs n v)
counted d n pairs v true e room are = record {
  lanes = length-set pairs n v ∙ are.lanes;
  few = omega arith;
  near = rw (take_more_set pairs n v (omega (arith, are.lanes))) (All-push (IsBelowLimit d) (take n pairs) v are.near (ltb-true _ _ e));
}
counted d n pairs v false e room are = record {
  lanes = length-set pairs n v ∙ are.lanes;
  few = omega arith;
  near = rw (uncounted n, take-set pairs n v) are.near;
}

pub counted_most : (n : ℕ) (near : Bool) → n + from_bool near ≤ n + 1
counted_most n true = omega arith
counted_most n false = omega arith

-- one more pair, and floats near it
with_floats : (n m : ℕ) (pairs : List PairInReach) (x y z squares : List Float) (v : PairInReach) (a b c s : Float) → n < 128 → m ≤ n + 1 → length pairs ≡ 128 → AreNearPairs n pairs x y z squares → IsNearPair v a b c s
    → AreNearPairs m (set pairs n v) (set x n a) (set y n b) (set z n c) (set squares n s)
with_floats n m pairs x y z squares v a b c s room most lanes are is = record {
  near = λ l p lt. elim (cases_eq l n) [
    | inl e ↦
        rw (e, get_or-set_same pairs n v p (omega (arith, lanes, room)), get_or-set_same x n a nan (omega (arith, are.x_lanes, room)), get_or-set_same y n b nan (omega (arith, are.y_lanes, room)), get_or-set_same z n c nan (omega (arith, are.z_lanes, room)), get_or-set_same squares n s nan (omega (arith, are.square_lanes, room)))
        is
    | inr other ↦
        rw (get_or-set_other pairs n l v p other, get_or-set_other x n l a nan other, get_or-set_other y n l b nan other, get_or-set_other z n l c nan other, get_or-set_other squares n l s nan other)
        (are.near l p (omega arith))
  ];
  x_lanes = length-set x n a ∙ are.x_lanes;
  y_lanes = length-set y n b ∙ are.y_lanes;
  z_lanes = length-set z n c ∙ are.z_lanes;
  square_lanes = length-set squares n s ∙ are.square_lanes;
}

-- the held pairs and one more, with floats near it
pub counted_held : (d : Reach) (n : ℕ) (pairs : List PairInReach) (x y z squares : List Float) (v : PairInReach) (a b c s : Float) (near : Bool) → ltb (squared v) (limit_of d.frac d.cutoff) ≡ near →
    n < 128 → IsNearPair v a b c s → AreHeld d n pairs x y z squares → AreHeld d (n + from_bool near) (set pairs n v) (set x n a) (set y n b) (set z n c) (set squares n s)
counted_held d n pairs x y z squares v a b c s near e room is are = record {
  held = counted d n pairs v near e room are.held;
  floats = with_floats n (n + from_bool near) pairs x y z squares v a b c s room (counted_most n near) are.held.lanes are.floats is;
}

-- lanes without a pair
pub none_held : (d : Reach) (n : ℕ) (old new : List PairInReach) (x y z squares : List Float) → length new ≡ length old → AreHeld d n old x y z squares → AreHeld d 0 new x y z squares
none_held d n old new x y z squares same are = record {
  held = record {
    lanes = same ∙ are.held.lanes;
    few = omega arith;
    near = λ k p lt. absurd (omega (arith, lt));
  };
  floats = record {
    near = λ l p lt. absurd (omega (arith, lt));
    x_lanes = are.floats.x_lanes;
    y_lanes = are.floats.y_lanes;
    z_lanes = are.floats.z_lanes;
    square_lanes = are.floats.square_lanes;
  };
}

-- no pair of a batch is measured
pub none_measured : (d : Reach) (n : ℕ) (pairs : List PairInReach) (lengths : List Float) (apart : Bool) (distances : List ℤ) → AreMeasured d n pairs lengths 0 apart distances
none_measured d n pairs lengths apart distances = record {
  before = omega arith;
  lengths' = λ l p lt. absurd (omega (arith, lt));
  taken = λ l p lt. absurd (omega (arith, lt));
  apart' = λ is l p lt. absurd (omega (arith, lt));
}

-- storing a pair's record and counting it if it is within reach adds the found pair of the two atoms
pub counted_acts : (d : Reach) (b : RingBox) (p q : Place3) (n : ℕ) (pairs : List PairInReach) (v : PairInReach) (near : Bool) → IsReach d → ltb (squared v) (limit_of d.frac d.cutoff) ≡ near →
    v.x ≡ x_separation b p q → v.y ≡ y_separation b p q → v.z ≡ z_separation b p q → n < length pairs →
    map (found_from d) (take (n + from_bool near) (set pairs n v)) ≡ map (found_from d) (take n pairs) ++ option_to_list (found_pair_of d b v.low v.high p q)
counted_acts d b p q n pairs v true is e x y z room =
    rw (← acts d b p q (squared v) (length_of (squared v)) v.x v.y v.z (int_max (pos (distance_at d.frac (squared v))) d.core) is x y z refl (ltb-true _ _ e) refl refl, take_more_set pairs n v room, map-append (found_from d) (take n pairs) (v ∷ [])) refl
counted_acts d b p q n pairs v false is e x y z room =
    let s : squared v ≡ square_of b p q = rw (x, y, z) refl in
    rw (← idle d b p q (squared v) is s (ltb-false _ _ e), uncounted n, take-set pairs n v, append-nil (map (found_from d) (take n pairs))) refl

found_one : (f : AtomPair → Option FoundPair) (p : AtomPair) (o : Option FoundPair) → f p ≡ o → filter_map f (p ∷ []) ≡ option_to_list o
found_one f p None e = rw e refl
found_one f p (Some x) e = rw e refl

-- the pairs found among the pairs of a list and one more: the pair at the end if it interacts
pub found_push : (d : Reach) (b : RingBox) (frame : List Place3) (near : List AtomPair) (p : AtomPair) → found_among d b frame (near ++ p ∷ []) ≡ found_among d b frame near ++ option_to_list (found_at d b frame p)
found_push d b frame near p =
    filter_map-append (found_at d b frame) near (p ∷ []) ∙ ap (λ fs. found_among d b frame near ++ fs) (found_one (found_at d b frame) p (found_at d b frame p) refl)

-- two atoms, for an index past the end of a list
abbrev pub no_pair : AtomPair
no_pair = record { low = 0; high = 0 }

-- if the counted pairs are some pairs and those found among the first k of a list, they are so with one more pair of the list
pub appended_more : (d : Reach) (b : RingBox) (frame : List Place3) (near : List AtomPair) (k n : ℕ) (pairs : List PairInReach) (v : PairInReach) (is_near : Bool) (old : List FoundPair) → IsReach d → ltb (squared v) (limit_of d.frac d.cutoff) ≡ is_near
    → (here : AtomPair) → here ≡ get_or near k no_pair → k < length near → n < length pairs → v.low ≡ here.low → v.high ≡ here.high
    → v.x ≡ x_separation b (places_of frame here.low) (places_of frame here.high) → v.y ≡ y_separation b (places_of frame here.low) (places_of frame here.high)
    → v.z ≡ z_separation b (places_of frame here.low) (places_of frame here.high)
    → map (found_from d) (take n pairs) ≡ old ++ found_among d b frame (take k near)
    → map (found_from d) (take (n + from_bool is_near) (set pairs n v)) ≡ old ++ found_among d b frame (take (k + 1) near)
appended_more d b frame near k n pairs v is_near old is e here at lt room low high x y z found =
    let p = places_of frame here.low in
    let q = places_of frame here.high in
    let last : found_pair_of d b v.low v.high p q ≡ found_at d b frame here = rw (low, high) refl in
    let next : take (k + 1) near ≡ take k near ++ here ∷ [] = rw at (take_more near k no_pair lt) in
    counted_acts d b p q n pairs v is_near is e x y z room
    ∙ (ap₂ (λ fs o. fs ++ option_to_list o) found last
    ∙ (append_assoc old (found_among d b frame (take k near)) (option_to_list (found_at d b frame here))
    ∙ ap (λ fs. old ++ fs) (sym (found_push d b frame (take k near) here) ∙ ap (found_among d b frame) (sym next))))

-- the pairs found among the first k of a list and the next m
pub found_next : (d : Reach) (b : RingBox) (frame : List Place3) (near : List AtomPair) (k m : ℕ) → found_among d b frame (take (k + m) near) ≡ found_among d b frame (take k near) ++ found_among d b frame (take m (drop k near))
found_next d b frame near k m = ap (found_among d b frame) (take-add k m near) ∙ filter_map-append (found_at d b frame) (take k near) (take m (drop k near))

-- ---- distances

-- the pair in a lane is within reach
pub below_at : (d : Reach) (n : ℕ) (pairs : List PairInReach) (l : ℕ) (p : PairInReach) → AreInReach d n pairs → l < n → squared (get_or pairs l p) < limit_of d.frac d.cutoff
below_at d n pairs l p are lt =
    let size = length-take-le n pairs (omega (arith, are.lanes, are.few)) in
    subst (IsBelowLimit d) (get_or-take n pairs l p lt) (All-get_or (IsBelowLimit d) (take n pairs) l p (omega (arith, size, lt)) are.near)

read_alike : (pairs : List PairInReach) (n : ℕ) (x p : PairInReach) → n < length pairs → get_or pairs n x ≡ get_or pairs n p
read_alike pairs n x p room = same_Some (get_or pairs n x) (get_or pairs n p) (sym (slice_get-get_or pairs n x room) ∙ slice_get-get_or pairs n p room)

-- a measured pair, of which less is claimed
measured_if : (d : Reach) (p : PairInReach) (old new : Bool) (v : ℤ) → (IsTrue new → IsTrue old) → IsMeasured d p old v → IsMeasured d p new v
measured_if d p old new v only is = record {
  taken = is.taken;
  apart' = λ now. is.apart' (only now);
}

-- one more pair is measured in exact arithmetic
pub exactly_more : (d : Reach) (pairs : List PairInReach) (l k : ℕ) (old new one : Bool) (from to : List ℤ) (x : PairInReach) (v : ℤ) → l ≤ k → k < length pairs → k < length to → (IsTrue new → IsTrue old × IsTrue one)
    → IsMeasured d (get_or pairs k x) one v → AreExactlyMeasured d pairs l k old from to → AreExactlyMeasured d pairs l (k + 1) new from (set to k v)
exactly_more d pairs l k old new one from to x v most room wide both is are = record {
  inside = λ j p low high. elim (cases_eq j k) [
    | inl e ↦ rw (e, get_or-set_same to k v (pos 0) wide, read_alike pairs k p x room) (measured_if d (get_or pairs k x) one new v (λ now. (both now).1) is)
    | inr other ↦ rw (get_or-set_other to k j v (pos 0) other) (measured_if d (get_or pairs j p) old new (get_or to j (pos 0)) (λ now. (both now).0) (are.inside j p low (omega arith)))
  ];
  before = λ j lt. get_or-set_other to k j v (pos 0) (let n : j ≢ k = omega arith in n) ∙ are.before j lt;
  long = length-set to k v ∙ are.long;
}

-- pairs measured in exact arithmetic, up to the end of the batch or four of them
pub exactly_four : (d : Reach) (n : ℕ) (pairs : List PairInReach) (l k : ℕ) (apart : Bool) (from to : List ℤ) → (n ≤ k) ⊎ (l + 4 ≤ k) → AreExactlyMeasured d pairs l k apart from to → AreFourMeasured d n pairs l apart from to
exactly_four d n pairs l k apart from to (inl h) are = record {
  inside = λ j p lt here. are.inside (l + j) p (omega arith) (omega (arith, h, here));
  before = are.before;
  long = are.long;
}
exactly_four d n pairs l k apart from to (inr h) are = record {
  inside = λ j p lt here. are.inside (l + j) p (omega arith) (omega (arith, h, lt));
  before = are.before;
  long = are.long;
}

-- four pairs measured in floating point
pub four_measured : (d : Reach) (n : ℕ) (pairs : List PairInReach) (lengths four : List Float) (filter : DistanceFilter) (l : ℕ) (v from to : List ℤ) → AreInReach d n pairs → AreNearLengths n pairs lengths → IsFilter d filter
    → ((k : ℕ) → k < 4 → lane four k ≡ lane lengths (l + k)) → AreDistances filter.core filter.limit filter.dividend filter.divisor four v → IsWithFour from l v to → AreFourMeasured d n pairs l true from to
four_measured d n pairs lengths four filter l v from to are near is same found put = record {
  inside = λ k p lt here.
      let s = squared (get_or pairs (l + k) p) in
      let root : IsNearRoot 7 (lane four k) s 1 = subst (λ (x : Float). IsNearRoot 7 x s 1) (sym (same k lt)) (near (l + k) p here) in
      let few : s ≤ filter.limit = omega (arith, below_at d n pairs (l + k) p are here, is.limit) in
      let e : distance_of s filter.dividend filter.divisor ≡ distance_at d.frac s = rw (is.dividend, is.divisor) (same_distance d.frac s) in
      let most : filter.core ≤ distance_at d.frac s = rw e at (found.from_core k s lt few root) in
      record {
        taken = distance_taken d filter.core s (get_or to (l + k) (pos 0)) is.core most (put.inside k lt ∙ (found.value k s lt few root ∙ ap pos e));
        apart' = λ _. distance_apart d.frac filter.core s filter.core_some most;
      };
  before = λ k lt. put.outside k (inl lt);
  long = put.long;
}

-- the pairs measured before, and four more
pub measured_more : (d : Reach) (n : ℕ) (pairs : List PairInReach) (old new four : Bool) (i : ℕ) (from to : List ℤ) → (IsTrue new → IsTrue old × IsTrue four)
    → AreMeasuredBefore d n pairs old (4 * i) from → AreFourMeasured d n pairs (4 * i) four from to → AreMeasuredBefore d n pairs new (4 * (i + 1)) to
measured_more d n pairs old new four i from to both kept put l p lt here =
    elim (cases_lt l (4 * i)) [
      | inl h ↦ rw (put.before l h) (measured_if d (get_or pairs l p) old new (get_or from l (pos 0)) (λ now. (both now).0) (kept l p h here))
      | inr h ↦
          let k = l - 4 * i in
          let e : 4 * i + k ≡ l = omega arith in
          let is : IsMeasured d (get_or pairs l p) four (get_or to l (pos 0)) = subst (λ (j : ℕ). IsMeasured d (get_or pairs j p) four (get_or to j (pos 0))) e (put.inside k p (omega arith) (omega (arith, e, here))) in
          measured_if d (get_or pairs l p) four new (get_or to l (pos 0)) (λ now. (both now).1) is
    ]

-- lengths from squares
pub near_all : (d : Reach) (n : ℕ) (pairs : List PairInReach) (x y z squares lengths : List Float) → limit_of d.frac d.cutoff ≤ 2 ^ 112 → AreHeld d n pairs x y z squares
    → ((l s : ℕ) → l < n → s ≤ 2 ^ 200 → IsNear 5 (slice_index_or squares l nan) s 1 → IsNearRoot 7 (slice_index_or lengths l nan) s 1) → AreNearLengths n pairs lengths
near_all d n pairs x y z squares lengths fits are roots l p lt =
    let s = squared (get_or pairs l p) in
    roots l s lt (omega (arith, fits, below_at d n pairs l p are.held lt)) (are.floats.near l p lt).square

-- ---- forces

-- two atoms at one position, for lanes without a pair
pub nothing : PairInReach
nothing = record { low = 0; high = 0; x = pos 0; y = pos 0; z = pos 0 }

-- the pair at an index is found from the pair in its lane
pub pair_at : (d : Reach) (n : ℕ) (pairs : List PairInReach) (l : ℕ) (p : PairInReach) (f : FoundPair) → AreInReach d n pairs → slice_get (map (found_from d) (take n pairs)) l ≡ Some f → (l < n) × (found_from d (get_or pairs l p) ≡ f)
pair_at d n pairs l p f are at =
    let lt : l < n = omega (arith, slice_get_within (map (found_from d) (take n pairs)) l f at, held_length d n pairs are) in
    (lt, same_Some (found_from d (get_or pairs l p)) f (sym (held_at d n pairs l p are lt) ∙ at))

-- a force along the line of the pair in a lane is the force of the pair
pub line_force_at : (d : Reach) (n : ℕ) (pairs : List PairInReach) (l : ℕ) (p : PairInReach) (f : FoundPair) (g : ℤ) → AreInReach d n pairs → slice_get (map (found_from d) (take n pairs)) l ≡ Some f → line_force_on (get_or pairs l p) g ≡ force_of f.acting g
line_force_at d n pairs l p f g are at = subst (λ (x : FoundPair). line_force_on (get_or pairs l p) g ≡ force_of x.acting g) (pair_at d n pairs l p f are at).1 refl

component_found : (g a : ℤ) (s : ℕ) (v : ℤ) → 0 < s → IsFloor (g *ℤ a) (pos (root s)) v → v ≡ component_of g a (length_of s)
component_found g a s v some is = rw (length_apart s some) (floor_of_unique (g *ℤ a) (pos (root s)) v is)

-- the lane of a pair has a line
pub line_at : (d : Reach) (p : PairInReach) (a : ℤ) (length x slack : Float) → limit_of d.frac d.cutoff ≤ 2 ^ 112 → 0 < squared p → squared p < limit_of d.frac d.cutoff → unsigned_abs a * unsigned_abs a ≤ squared p → IsNearRoot 7 length (squared p) 1 → IsNearInteger 1 x a → IsReachSlack d slack
    → IsLine (squared p) a length x slack
line_at d p a length x slack fits some below side near part enough = record {
  some = some;
  short = omega (arith, fits, below);
  side = side;
  length_near = near;
  part_near = part;
  enough = enough (squared p) below;
}

-- a component that floating-point arithmetic found
component_at : (d : Reach) (p : PairInReach) (a slope : ℤ) (k : ℕ) (slopes : List ℤ) (lengths xs : List Float) (slack : Float) (v : List ℤ) (length x : Float) → limit_of d.frac d.cutoff ≤ 2 ^ 112 → k < 4
    → 0 < squared p → squared p < limit_of d.frac d.cutoff → unsigned_abs a * unsigned_abs a ≤ squared p → IsNearRoot 7 length (squared p) 1 → IsNearInteger 1 x a → IsReachSlack d slack
    → get_or slopes k (pos 0) ≡ slope → lane lengths k ≡ length → lane xs k ≡ x → AreComponents slopes lengths xs slack v
    → get_or v k (pos 0) ≡ component_of (neg_ℤ slope) a (length_of (squared p))
component_at d p a slope k slopes lengths xs slack v length x fits lt some below side near part enough es el ex are =
    let line = line_at d p a (lane lengths k) (lane xs k) slack fits some below side (subst (λ (y : Float). IsNearRoot 7 y (squared p) 1) (sym el) near) (subst (λ (y : Float). IsNearInteger 1 y a) (sym ex) part) enough in
    component_found (neg_ℤ slope) a (squared p) (get_or v k (pos 0)) some
    (subst (λ (m : ℤ). IsFloor (neg_ℤ m *ℤ a) (pos (root (squared p))) (get_or v k (pos 0))) es (are.each k lt (squared p) a line))

-- the same four lanes of a row
abbrev pub AreLanesFrom : ℕ → List Float → List Float → Type 0
AreLanesFrom l row four = (k : ℕ) → k < 4 → lane four k ≡ lane row (l + k)

-- forces that floating-point arithmetic found for the lanes from l on
pub four_found : (d : Reach) (n : ℕ) (pairs : List PairInReach) (x y z squares lengths : List Float) (slopes : List ℤ) (l : ℕ) (slack : Float) (slope_four : List ℤ) (length_four x_four y_four z_four : List Float)
    → limit_of d.frac d.cutoff ≤ 2 ^ 112 → AreHeld d n pairs x y z squares → AreNearLengths n pairs lengths → AreApart n pairs → IsReachSlack d slack
    → ((k : ℕ) → k < 4 → slice_index_or slope_four k (pos 0) ≡ slice_index_or slopes (l + k) (pos 0)) → AreLanesFrom l lengths length_four → AreLanesFrom l x x_four → AreLanesFrom l y y_four → AreLanesFrom l z z_four
    → (v : FourForces) → AreComponents slope_four length_four x_four slack v.x → AreComponents slope_four length_four y_four slack v.y → AreComponents slope_four length_four z_four slack v.z
    → AreFourForces (map (found_from d) (take n pairs)) slopes l v
four_found d n pairs x y z squares lengths slopes l slack slope_four length_four x_four y_four z_four fits are near apart enough es el ex ey ez v cx cy cz k lt f at =
    let p = get_or pairs (l + k) nothing in
    let inside = (pair_at d n pairs (l + k) nothing f are.held at).0 in
    let floats = are.floats.near (l + k) nothing inside in
    let some = apart (l + k) nothing inside in
    let below = below_at d n pairs (l + k) nothing are.held inside in
    let length_near = near (l + k) nothing inside in
    let g = slice_index_or slopes (l + k) (pos 0) in
    let vx = component_at d p p.x g k slope_four length_four x_four slack v.x _ _ fits lt some below (omega arith) length_near floats.x enough (es k lt) (el k lt) (ex k lt) cx in
    let vy = component_at d p p.y g k slope_four length_four y_four slack v.y _ _ fits lt some below (omega arith) length_near floats.y enough (es k lt) (el k lt) (ey k lt) cy in
    let vz = component_at d p p.z g k slope_four length_four z_four slack v.z _ _ fits lt some below (omega arith) length_near floats.z enough (es k lt) (el k lt) (ez k lt) cz in
    let e : force_of_four v k ≡ line_force_on p (neg_ℤ g) = rw (vx, vy, vz) refl in
    e ∙ line_force_at d n pairs (l + k) nothing f (neg_ℤ g) are.held at

-- facts of a value, from three others
pub if_some_of_three : {X : Type 0} (P Q R S : X → Type 0) → ((v : X) → P v → Q v → R v → S v) → (o : Option X) → IfSome o P → IfSome o Q → IfSome o R → IfSome o S
if_some_of_three P Q R S f None p q r = p
if_some_of_three P Q R S f (Some v) p q r = f v p q r

-- forces of lanes that are put
pub four_put : (pairs : List FoundPair) (slopes : List ℤ) (l : ℕ) (v : FourForces) (from to : PairForces) → AreFourForces pairs slopes l v → IsWithForces from l v to → AreFourPut pairs slopes l from to
four_put pairs slopes l v from to are put = record {
  inside = λ k lt f at. let e : force_in to (l + k) ≡ force_of_four v k = rw (put.x.inside k lt, put.y.inside k lt, put.z.inside k lt) refl in e ∙ are k lt f at;
  before = λ k lt. rw (put.x.outside k (inl lt), put.y.outside k (inl lt), put.z.outside k (inl lt)) refl;
}

-- forces of lanes that are put one by one
pub exact_put : (pairs : List FoundPair) (slopes : List ℤ) (l k : ℕ) (old from to : PairForces) (v : Vector ℤ) → l ≤ k → IsForceAt pairs slopes k v → IsWithForce from k v to
    → AreExactPut pairs slopes l k old from → AreExactPut pairs slopes l (k + 1) old to
exact_put pairs slopes l k old from to v most is put are = record {
  inside = λ j low high. elim (cases_eq j k) [
    | inl e ↦ subst (λ (i : ℕ). IsForceAt pairs slopes i (force_in to i)) (sym e) (λ f there. put.here ∙ is f there)
    | inr n ↦ λ f there. put.elsewhere j n ∙ are.inside j low (omega arith) f there
  ];
  before = λ j lt. put.elsewhere j (let n : j ≢ k = omega arith in n) ∙ are.before j lt;
}

-- the forces before, and four more
pub forces_more : (pairs : List FoundPair) (slopes : List ℤ) (i : ℕ) (from to : PairForces) → AreForcesBefore pairs slopes (4 * i) from → AreFourPut pairs slopes (4 * i) from to → AreForcesBefore pairs slopes (4 * (i + 1)) to
forces_more pairs slopes i from to are put l lt f at =
    elim (cases_lt l (4 * i)) [
      | inl h ↦ put.before l h ∙ are l h f at
      | inr h ↦
          let k = l - 4 * i in
          let e : 4 * i + k ≡ l = omega arith in
          subst (λ (j : ℕ). IsForceAt pairs slopes j (force_in to j)) e (put.inside k (omega arith)) f at
    ]

-- ---- floats near a pair

-- the floats of two atoms are near their pair
pub near_pair : (b : RingBox) (v : GridPair) (near : FloatSeparation) (s : Float) → IsNearSeparation (v.grid.x *ℤ pos b.x) (v.grid.y *ℤ pos b.y) (v.grid.z *ℤ pos b.z) near
    → AreShort (v.grid.x *ℤ pos b.x) (v.grid.y *ℤ pos b.y) (v.grid.z *ℤ pos b.z)
    → ((a b c : ℤ) → unsigned_abs a ≤ 2 ^ 90 → unsigned_abs b ≤ 2 ^ 90 → unsigned_abs c ≤ 2 ^ 90 → IsNearSeparation a b c near → IsNear 5 s (squares_of a b c) 1)
    → IsNearPair (scaled b v) near.x near.y near.z s
near_pair b v near s is short squares = record {
  x = is.x;
  y = is.y;
  z = is.z;
  square = squares (v.grid.x *ℤ pos b.x) (v.grid.y *ℤ pos b.y) (v.grid.z *ℤ pos b.z) short.x short.y short.z is;
}

-- two atoms at one position, for an index past the end of a row
abbrev pub no_grid_pair : GridPair
no_grid_pair = record { low = 0; high = 0; grid = record { x = pos 0; y = pos 0; z = pos 0 } }

-- the pair in a lane, from the pair that is stored there in grid units
pub scaled_at : (b : RingBox) (pairs : List GridPair) (l : ℕ) → l < length pairs → get_or (map (scaled b) pairs) l (scaled b no_grid_pair) ≡ scaled b (get_or pairs l no_grid_pair)
scaled_at b pairs l room = get_or-map (scaled b) pairs l no_grid_pair (scaled b no_grid_pair) room

-- ---- reading

-- the distance of a held pair
pub distance_held : (d : Reach) (n : ℕ) (pairs : List PairInReach) (l : ℕ) (v : ℤ) → AreInReach d n pairs → l < n → v ≡ taken_at d (squared (get_or pairs l nothing)) → slice_get (map (λ (f : FoundPair). f.acting.distance) (map (found_from d) (take n pairs))) l ≡ Some v
distance_held d n pairs l v are lt e =
    let g : FoundPair → ℤ = λ f. f.acting.distance in
    slice_get-map g (map (found_from d) (take n pairs)) l ∙ (ap (option_map g) (held_at d n pairs l nothing are lt) ∙ ap Some (sym e))

-- the indices of the atoms of a pair
abbrev pub atoms_in : PairInReach → ℕ × ℕ
atoms_in p = (p.low, p.high)

-- the indices of the atoms of a pair that is found
abbrev pub atoms_of : FoundPair → ℕ × ℕ
atoms_of f = (f.low, f.high)

-- the atoms of a held pair
pub atoms_held : (d : Reach) (n : ℕ) (pairs : List PairInReach) (l : ℕ) (p : PairInReach) → AreInReach d n pairs → l < n → slice_get (map atoms_of (map (found_from d) (take n pairs))) l ≡ Some (atoms_in (get_or pairs l p))
atoms_held d n pairs l p are lt =
    slice_get-map atoms_of (map (found_from d) (take n pairs)) l ∙ ap (option_map atoms_of) (held_at d n pairs l p are lt)

-- an integer of a row, whichever default is given
pub alike : (xs : List ℤ) (n : ℕ) (x y : ℤ) → n < length xs → get_or xs n x ≡ get_or xs n y
alike xs n x y room = same_Some (get_or xs n x) (get_or xs n y) (sym (slice_get-get_or xs n x room) ∙ slice_get-get_or xs n y room)

-- the force that exact arithmetic gives for a lane
pub exact_at : (d : Reach) (n : ℕ) (pairs : List PairInReach) (m k : ℕ) (seen : FoundPairs) (slopes : List ℤ) (x : PairInReach) (y : ℤ) (v : Vector ℤ) → AreInReach d n pairs → record { reach = d; pairs = map (found_from d) (take n pairs); measured = m } ≡ seen → k < length slopes
    → v ≡ line_force_on (get_or pairs k x) (neg_ℤ (get_or slopes k y)) → IsForceAt seen.pairs slopes k v
exact_at d n pairs m k seen slopes x y v are e room is f there =
    is ∙ (ap (λ g. line_force_on (get_or pairs k x) (neg_ℤ g)) (alike slopes k y (pos 0) room)
    ∙ line_force_at d n pairs k x f (neg_ℤ (get_or slopes k (pos 0))) are (subst (λ (s : FoundPairs). slice_get s.pairs k ≡ Some f) (sym e) there))

-- forces that are put one by one, up to the end of the batch or four of them
pub exact_all : (pairs : List FoundPair) (slopes : List ℤ) (n l k : ℕ) (from to : PairForces) → length pairs ≡ n → (n ≤ k) ⊎ (l + 4 ≤ k) → AreExactPut pairs slopes l k from to → AreFourPut pairs slopes l from to
exact_all pairs slopes n l k from to size (inl h) are = record {
  inside = λ j lt f there. are.inside (l + j) (omega arith) (omega (arith, h, size, slice_get_within pairs (l + j) f there)) f there;
  before = are.before;
}
exact_all pairs slopes n l k from to size (inr h) are = record {
  inside = λ j lt f there. are.inside (l + j) (omega arith) (omega (arith, h, lt)) f there;
  before = are.before;
}

-- a force along a line with the numbers of a pair
pub line_force_same : (p : PairInReach) (g h x y z : ℤ) (s l : ℕ) → g ≡ h → x ≡ p.x → y ≡ p.y → z ≡ p.z → s ≡ squared p → l ≡ length_of s → line_force_of g x y z l ≡ line_force_on p h
line_force_same p g h x y z s l eg ex ey ez es el = rw (eg, ex, ey, ez, el, es) refl
