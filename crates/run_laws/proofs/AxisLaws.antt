-- Reordering the axes of positions and sides keeps distances, and reorders forces and next positions alike.
use Rattle.std.proofs.Common.{◌≡◌, ℕ, zero, suc, ◌+◌, ◌^◌, ◌<◌, Bool, true, false, List, [], ◌∷◌, Option, Some, None, ℤ, pos, arith, refl, ap, sym, ◌∙◌, neg_ℤ, slice_index, ◌==◌, ◌&&◌, if◌then◌else◌}
use Rattle.std.specs.Int.{int_max}
use Rattle.std.proofs.Math.Bool.{and_comm}
use Rattle.std.proofs.lemmas.List.{length-map}
use Rattle.fixed.specs.Roots.{root}
use Rattle.fixed.specs.declared.frac.Frac.{Frac}
use Rattle.energy_program.specs.Tree.{Tree}
use Rattle.job.specs.Values.{JobValue}
use Rattle.line_text.specs.Parts.{AreThree}
use Rattle.state.specs.StateText.{IsSide, StateView}
use Rattle.ring_box.specs.Cells.{has_room, holds_two}
use Rattle.ring_box.specs.Distances.{distance_at, is_near, square, square_of, x_separation, y_separation, z_separation}
use Rattle.ring_box.specs.Forces.{acting_distance_of, force_along_of, line_force_of, no_force}
use Rattle.ring_box.specs.Places.{ArePlaces, no_place, places_of}
use Rattle.ring_box.specs.declared.boxes.RingBox.{RingBox}
use Rattle.ring_box.specs.declared.vectors.Place3.{Place3}
use Rattle.ring_box.specs.declared.vectors.Vector.{Vector}
use Rattle.integrator.specs.Forces.{negative, plus, share_of, sum_of_shares}
use Rattle.integrator.specs.Starts.{ring_of, system_of, types_of}
use Rattle.engine.specs.RunSpecification.{Follows, HasRoom, Lead, box_of, far, near, next_of, together}
use Rattle.run_laws.specs.Symmetries.{AxisOrder, ForcesAreReordered, OrdersAreUndone, ReorderedAreSafe, RunsAreReordered, StatesAreReordered, StepsAreReordered, in_order, reordered, reordered_atom, reordered_force, reordered_frame, reordered_sides, reordered_state, xyz, xzy, yxz, yzx, zxy, zyx}
use Rattle.run_laws.proofs.SymmetryLemmas.{GoAlong, follows_along, lead_along, leads_along, mapped_state, run_along, safe_along, state_is, system_mapped}

-- each cyclic order of the axes is undone by the other one, and each exchange by itself
pub orders_are_undone : OrdersAreUndone
orders_are_undone xyz = (xyz, λ p. refl)
orders_are_undone xzy = (xzy, λ p. refl)
orders_are_undone yxz = (yxz, λ p. refl)
orders_are_undone yzx = (zxy, λ p. refl)
orders_are_undone zxy = (yzx, λ p. refl)
orders_are_undone zyx = (zyx, λ p. refl)

-- ---- three values in an order

in_each_order : (P : AxisOrder → Type 0) → P xyz → P xzy → P yxz → P yzx → P zxy → P zyx → (o : AxisOrder) → P o
in_each_order P a b c d e f xyz = a
in_each_order P a b c d e f xzy = b
in_each_order P a b c d e f yxz = c
in_each_order P a b c d e f yzx = d
in_each_order P a b c d e f zxy = e
in_each_order P a b c d e f zyx = f

-- if P holds for three values, P holds for the three values in any order
all_three : {X : Type 0} (P : X → Type 0) (o : AxisOrder) (x y z : X) → P x × P y × P z → P (in_order o x y z).0 × P (in_order o x y z).1 × P (in_order o x y z).2
all_three P xyz x y z h = (h.0, h.1, h.2)
all_three P xzy x y z h = (h.0, h.2, h.1)
all_three P yxz x y z h = (h.1, h.0, h.2)
all_three P yzx x y z h = (h.1, h.2, h.0)
all_three P zxy x y z h = (h.2, h.0, h.1)
all_three P zyx x y z h = (h.2, h.1, h.0)

image_in_order : {X Y : Type 0} (f : X → Y) (o : AxisOrder) (x y z : X) → (f (in_order o x y z).0, f (in_order o x y z).1, f (in_order o x y z).2) ≡ in_order o (f x) (f y) (f z)
image_in_order f o x y z = in_each_order (λ o. (f (in_order o x y z).0, f (in_order o x y z).1, f (in_order o x y z).2) ≡ in_order o (f x) (f y) (f z)) refl refl refl refl refl refl o

-- ---- the separation of two atoms

-- the separations of two positions along the three axes
abbrev apart : RingBox → Place3 → Place3 → ℤ × ℤ × ℤ
apart b p q = (x_separation b p q, y_separation b p q, z_separation b p q)

abbrev sum_of_squares : ℤ × ℤ × ℤ → ℕ
sum_of_squares d = square d.0 + square d.1 + square d.2

apart_in_order : (o : AxisOrder) (sides : List ℕ) (a b : Place3) → apart (box_of (reordered_sides o sides)) (reordered o a) (reordered o b)
    ≡ in_order o (x_separation (box_of sides) a b) (y_separation (box_of sides) a b) (z_separation (box_of sides) a b)
apart_in_order o sides a b =
    in_each_order
    (λ o. apart (box_of (reordered_sides o sides)) (reordered o a) (reordered o b)
    ≡ in_order o (x_separation (box_of sides) a b) (y_separation (box_of sides) a b) (z_separation (box_of sides) a b))
    refl refl refl refl refl refl o

sum_in_order : (o : AxisOrder) (a b c : ℕ) → (in_order o a b c).0 + (in_order o a b c).1 + (in_order o a b c).2 ≡ a + b + c
sum_in_order o a b c =
    in_each_order (λ o. (in_order o a b c).0 + (in_order o a b c).1 + (in_order o a b c).2 ≡ a + b + c) refl (omega arith) (omega arith) (omega arith) (omega arith) (omega arith) o

sum_of_squares_in_order : (o : AxisOrder) (x y z : ℤ) → sum_of_squares (in_order o x y z) ≡ square x + square y + square z
sum_of_squares_in_order o x y z = ap (λ (t : ℕ × ℕ × ℕ). t.0 + t.1 + t.2) (image_in_order square o x y z) ∙ sum_in_order o (square x) (square y) (square z)

squares_in_order : (o : AxisOrder) (sides : List ℕ) (a b : Place3) → square_of (box_of (reordered_sides o sides)) (reordered o a) (reordered o b) ≡ square_of (box_of sides) a b
squares_in_order o sides a b =
    ap sum_of_squares (apart_in_order o sides a b)
    ∙ sum_of_squares_in_order o (x_separation (box_of sides) a b) (y_separation (box_of sides) a b) (z_separation (box_of sides) a b)

-- ---- the force of a pair

none_in_order : (o : AxisOrder) → no_force ≡ reordered_force o no_force
none_in_order = in_each_order (λ o. no_force ≡ reordered_force o no_force) refl refl refl refl refl refl

line_in_order : (o : AxisOrder) (g x y z : ℤ) (d : ℕ) → line_force_of g (in_order o x y z).0 (in_order o x y z).1 (in_order o x y z).2 d ≡ reordered_force o (line_force_of g x y z d)
line_in_order o g x y z d =
    in_each_order (λ o. line_force_of g (in_order o x y z).0 (in_order o x y z).1 (in_order o x y z).2 d ≡ reordered_force o (line_force_of g x y z d))
    refl refl refl refl refl refl o

choice_in_order : (o : AxisOrder) (none : Bool) (g x y z : ℤ) (d : ℕ)
    → (if none then no_force else line_force_of g (in_order o x y z).0 (in_order o x y z).1 (in_order o x y z).2 d) ≡ reordered_force o (if none then no_force else line_force_of g x y z d)
choice_in_order o true g x y z d = none_in_order o
choice_in_order o false g x y z d = line_in_order o g x y z d

-- a force of size g along a line with these components and the squared length s
abbrev force_of_parts : ℤ → ℤ × ℤ × ℤ → ℕ → Vector ℤ
force_of_parts g d s = if s == 0 then no_force else line_force_of g d.0 d.1 d.2 (root s)

along_in_order : (o : AxisOrder) (sides : List ℕ) (g : ℤ) (a b : Place3)
    → force_along_of (box_of (reordered_sides o sides)) g (reordered o a) (reordered o b) ≡ reordered_force o (force_along_of (box_of sides) g a b)
along_in_order o sides g a b =
    let s = square_of (box_of sides) a b in
    ap (λ d. force_of_parts g d (square_of (box_of (reordered_sides o sides)) (reordered o a) (reordered o b))) (apart_in_order o sides a b)
    ∙ ap (force_of_parts g (in_order o (x_separation (box_of sides) a b) (y_separation (box_of sides) a b) (z_separation (box_of sides) a b))) (squares_in_order o sides a b)
    ∙ choice_in_order o (s == 0) g (x_separation (box_of sides) a b) (y_separation (box_of sides) a b) (z_separation (box_of sides) a b) (root s)

-- the distance of two interacting atoms, from its square s
abbrev distance_of : Frac → ℤ → ℤ → ℕ → Option ℤ
distance_of frac core cutoff s = if is_near frac s cutoff then Some (int_max (pos (distance_at frac s)) core) else None

reached_in_order : (o : AxisOrder) (sides : List ℕ) (frac : Frac) (core cutoff : ℤ) (a b : Place3)
    → acting_distance_of frac (box_of (reordered_sides o sides)) core cutoff (reordered o a) (reordered o b) ≡ acting_distance_of frac (box_of sides) core cutoff a b
reached_in_order o sides frac core cutoff a b = ap (distance_of frac core cutoff) (squares_in_order o sides a b)

-- reordering the axes of two atoms' positions reorders the axes of their force
pub forces_reordered : ForcesAreReordered
forces_reordered o j tree sides types pair a b v (far e f) = far (reached_in_order o sides j.frac j.core j.cutoff a b ∙ e) (ap (reordered_force o) f ∙ sym (none_in_order o))
forces_reordered o j tree sides types pair a b v (together e f) = together (squares_in_order o sides a b ∙ e) (ap (reordered_force o) f ∙ sym (none_in_order o))
forces_reordered o j tree sides types pair a b v (near r g e slope f) =
    near r g (reached_in_order o sides j.frac j.core j.cutoff a b ∙ e) slope (ap (reordered_force o) f ∙ sym (along_in_order o sides (neg_ℤ g) a b))

-- ---- sums of shares

plus_in_order : (o : AxisOrder) (f g : Vector ℤ) → plus (reordered_force o f) (reordered_force o g) ≡ reordered_force o (plus f g)
plus_in_order o f g = in_each_order (λ o. plus (reordered_force o f) (reordered_force o g) ≡ reordered_force o (plus f g)) refl refl refl refl refl refl o

negative_in_order : (o : AxisOrder) (f : Vector ℤ) → negative (reordered_force o f) ≡ reordered_force o (negative f)
negative_in_order o f = in_each_order (λ o. negative (reordered_force o f) ≡ reordered_force o (negative f)) refl refl refl refl refl refl o

share_in_order : (o : AxisOrder) (first second : Bool) (f : Vector ℤ)
    → (if first then reordered_force o f else if second then negative (reordered_force o f) else no_force) ≡ reordered_force o (if first then f else if second then negative f else no_force)
share_in_order o true second f = refl
share_in_order o false true f = negative_in_order o f
share_in_order o false false f = none_in_order o

sums_in_order : (o : AxisOrder) (force : ℕ × ℕ → Vector ℤ) (ps : List (ℕ × ℕ)) (a : ℕ) → sum_of_shares (λ q. reordered_force o (force q)) ps a ≡ reordered_force o (sum_of_shares force ps a)
unfolding sum_of_shares
sums_in_order o force [] a = none_in_order o
sums_in_order o force (q ∷ ps) a =
    ap (λ v. plus v (sum_of_shares (λ q. reordered_force o (force q)) ps a)) (share_in_order o (q.0 == a) (q.1 == a) (force q))
    ∙ ap (plus (reordered_force o (share_of q (force q) a))) (sums_in_order o force ps a)
    ∙ plus_in_order o (share_of q (force q) a) (sum_of_shares force ps a)

-- ---- steps

next_in_order : (o : AxisOrder) (j : JobValue) (tree : Tree) (sides types : List ℕ) (m : ℕ) (p c : Place3) (v : Vector ℤ)
    → next_of j tree (reordered_sides o sides) types m (reordered o p) (reordered o c) (reordered_force o v) ≡ reordered o (next_of j tree sides types m p c v)
next_in_order o j tree sides types m p c v =
    in_each_order
    (λ o. next_of j tree (reordered_sides o sides) types m (reordered o p) (reordered o c) (reordered_force o v) ≡ reordered o (next_of j tree sides types m p c v))
    refl refl refl refl refl refl o

nowhere_in_order : (o : AxisOrder) → no_place ≡ reordered o no_place
nowhere_in_order = in_each_order (λ o. no_place ≡ reordered o no_place) refl refl refl refl refl refl

-- in a reordered frame each atom's position is reordered, also for an atom outside the frame
place_in_order : (o : AxisOrder) (frame : List Place3) (a : ℕ) → places_of (reordered_frame o frame) a ≡ reordered o (places_of frame a)
place_in_order o [] a = nowhere_in_order o
place_in_order o (p ∷ frame) zero = refl
place_in_order o (p ∷ frame) (suc a) = place_in_order o frame a

module _ (o : AxisOrder) (j : JobValue) (tree : Tree) (sides types : List ℕ) where
  goes_along : GoAlong j tree sides (reordered_sides o sides) types (reordered o) (reordered o) (reordered o) (reordered_force o)
  goes_along = record { next = next_in_order o j tree sides types; sums = sums_in_order o }

  abbrev AreFrames : List Place3 → List Place3 → Type 0
  AreFrames p c = Unit {0}

  step_along : (k : ℕ) (p c n : List Place3) → AreFrames p c → Follows j tree sides types p c n
      → AreFrames c n × Follows j tree (reordered_sides o sides) types (reordered_frame o p) (reordered_frame o c) (reordered_frame o n)
  step_along k p c n are r = (
    tt,
    follows_along j tree sides (reordered_sides o sides) types (reordered o) (reordered o) (reordered o) (reordered_force o) goes_along p c n (λ a l. place_in_order o p a)
        (λ q is v h. forces_reordered o j tree sides types q (places_of c q.0) (places_of c q.1) v h) r,
  )

  steps_along : (n : ℕ) (p c q e : List Place3) → AreFrames p c → Lead j tree sides types n p c q e
      → Lead j tree (reordered_sides o sides) types n (reordered_frame o p) (reordered_frame o c) (reordered_frame o q) (reordered_frame o e)
  steps_along = lead_along j tree sides (reordered_sides o sides) types (λ k. reordered o) AreFrames step_along

-- if the axes of the starting frames are reordered, so are the axes of the frames after n steps
pub steps_reordered : StepsAreReordered
steps_reordered o j tree sides types n p c q e l = steps_along o j tree sides types n p c q e tt l

-- if the axes of a state are reordered, so are the axes of the state after n steps
pub states_reordered : StatesAreReordered
states_reordered o w j tree types n before after l =
    leads_along w j tree types n (reordered o) (reordered_sides o) (λ p c. Unit {0}) before after (steps_along o j tree before.sides types n) tt tt l

-- ---- runs

are_places_in_order : (o : AxisOrder) (p : Place3) → ArePlaces p → ArePlaces (reordered o p)
are_places_in_order o p h =
    let t : (reordered o p).x < 2 ^ 32 × (reordered o p).y < 2 ^ 32 × (reordered o p).z < 2 ^ 32 = all_three (λ n. n < 2 ^ 32) o p.x p.y p.z (h.x, h.y, h.z) in
    record { x = t.0; y = t.1; z = t.2 }

sides_in_order : (o : AxisOrder) (sides : List ℕ) → AreThree IsSide sides → AreThree IsSide (reordered_sides o sides)
sides_in_order o [] h = elim h [ ]
sides_in_order o (x ∷ []) h = elim h [ ]
sides_in_order o (x ∷ (y ∷ [])) h = elim h [ ]
sides_in_order o (x ∷ (y ∷ (z ∷ []))) h = all_three IsSide o x y z h
sides_in_order o (x ∷ (y ∷ (z ∷ (w ∷ more)))) h = elim h [ ]

room_in_order : (o : AxisOrder) (j : JobValue) (sides : List ℕ) → HasRoom j (box_of sides).x × HasRoom j (box_of sides).y × HasRoom j (box_of sides).z
    → HasRoom j (box_of (reordered_sides o sides)).x × HasRoom j (box_of (reordered_sides o sides)).y × HasRoom j (box_of (reordered_sides o sides)).z
room_in_order o j sides h = all_three (HasRoom j) o (slice_index sides 0) (slice_index sides 1) (slice_index sides 2) h

-- if the axes of the starting state are reordered, so are the axes of the state that the run writes
pub runs_reordered : RunsAreReordered
runs_reordered o job state w n text r =
    run_along job state w n text (reordered o) (reordered_sides o) r (are_places_in_order o) (sides_in_order o) (room_in_order o r.j r.before.sides)
    (states_reordered o w r.j r.tree r.types n r.before r.after r.leads)

-- ---- safe texts

swap_first : (a b c : Bool) → (a && (b && c)) ≡ (b && (a && c))
swap_first true b c = refl
swap_first false true c = refl
swap_first false false c = refl

all_in_order : (o : AxisOrder) (a b c : Bool) → ((in_order o a b c).0 && ((in_order o a b c).1 && (in_order o a b c).2)) ≡ (a && (b && c))
all_in_order xyz a b c = refl
all_in_order xzy a b c = ap (λ x. a && x) (and_comm c b)
all_in_order yxz a b c = swap_first b a c
all_in_order yzx a b c = ap (λ x. b && x) (and_comm c a) ∙ swap_first b a c
all_in_order zxy a b c = swap_first c a b ∙ ap (λ x. a && x) (and_comm c b)
all_in_order zyx a b c = ap (λ x. c && x) (and_comm b a) ∙ swap_first c a b ∙ ap (λ x. a && x) (and_comm c b)

test_in_order : (o : AxisOrder) (sides : List ℕ) (frac : Frac) (cutoff : ℤ) → has_room frac (ring_of (reordered_sides o sides)) cutoff ≡ has_room frac (ring_of sides) cutoff
test_in_order o sides frac cutoff =
    let holds : ℕ → Bool = λ side. holds_two frac side cutoff in
    ap (λ (t : Bool × Bool × Bool). t.0 && (t.1 && t.2)) (image_in_order holds o (slice_index sides 0) (slice_index sides 1) (slice_index sides 2))
    ∙ all_in_order o (holds (slice_index sides 0)) (holds (slice_index sides 1)) (holds (slice_index sides 2))

-- a job and a state make the same system if the sides of the box are reordered
system_in_order : (o : AxisOrder) (j : JobValue) (s : StateView) → system_of j (record s { sides = reordered_sides o s.sides }) ≡ system_of j s
unfolding system_of types_of
system_in_order o j s = rw (test_in_order o s.sides j.frac j.cutoff) refl

-- if the code is accepted for a state, the code is accepted for the state with reordered axes
pub reordered_are_safe : ReorderedAreSafe
reordered_are_safe o job state fits =
    let elsewhere = mapped_state (reordered o) (λ sides. sides) state in
    safe_along job state (reordered_state o state) fits
    (state_is (reordered o) (reordered_sides o) state (are_places_in_order o) (sides_in_order o state.sides) fits)
    (λ j. system_in_order o j elsewhere ∙ system_mapped j (reordered o) state) (length-map state.atoms (reordered_atom o))
