-- The state that begins at a frame: its box is the frame's, and its places are the nearest ones.
use Rattle.std.proofs.Common.{◌≡◌, ℕ, ◌*◌, ◌^◌, ◌<◌, Bool, true, false, ◌&&◌, cond, ℤ, pos, negsuc, ◌*ℤ◌, List, [], ◌∷◌, map, Result, Ok, Err, IfOk, arith, ap, subst, refl, slice_index_or, unsigned_abs}
use Rattle.std.specs.List.{AllZip}
use Rattle.std.proofs.lemmas.Bool.{and_parts}
use Rattle.std.proofs.lemmas.Bool.Decides.{nat_tests}
use Rattle.std.proofs.lemmas.Int.{ints}
use Rattle.fallible.specs.Failures.{Gives}
use Rattle.fallible.specs.declared.failure.Failure.{Failure}
use Rattle.fixed.specs.declared.frac.Frac.{Frac}
use Rattle.fixed.specs.Rounding.{nearest_of}
use Rattle.fixed.proofs.FloorLemmas.{nearest_is}
use Rattle.gro.specs.Frames as gro
use Rattle.ring_box.specs.Places.{place_of_pm}
use Rattle.ring_box.specs.Boxes.{box_of}
use Rattle.ring_box.specs.Sides.{is_side, is_nought}
use Rattle.ring_box.specs.declared.boxes.RingBox.{RingBox}
use Rattle.ring_box.specs.declared.faults.BoxFault.{BoxFault}
use Rattle.ring_box.specs.declared.faults.BoxFault.TheVariants.{NoBox, SideRange}
use Rattle.ring_box.proofs.PlaceLemmas.{place_is, place_of_pm_is}
use Rattle.state.specs.StateText.{StateView}
use Rattle.state.specs.StateViews.{sides_view, state_view}
use Rattle.state.specs.Velocities.{places_moved, place_before}
use Rattle.state.specs.Starts.{BeginsAt, IsStartOfAtom, IsStartOnSide, on_box, start_in, start_of_frame, started_atom}
use Rattle.state.specs.declared.states.State.{State}

-- ---- the box

box_found : (r : Result RingBox BoxFault) (start : RingBox → StateView) (s : StateView) → on_box r start ≡ Ok s → (ring : RingBox) × (r ≡ Ok ring) × (start ring ≡ s)
box_found (Ok ring) start s e = (ring, refl, cc)
box_found (Err f) start s e = absurd cc

has_sides : (a b : Bool) (e f : BoxFault) (r ring : RingBox) → cond a (Err e) (cond b (Ok r) (Err f)) ≡ Ok ring → (b ≡ true) × (r ≡ ring)
has_sides true b e f r ring h = absurd cc
has_sides false true e f r ring h = (refl, cc)
has_sides false false e f r ring h = absurd cc

side_is : (z : ℤ) → is_side z ≡ true → (pos (unsigned_abs z) ≡ z) × (0 < unsigned_abs z)
side_is (pos n) e = (refl, grind (arith, nat_tests))
side_is (negsuc n) e = absurd cc

-- a side of the box that three numbers are
abbrev IsSideFrom : ℤ → ℕ → Type 0
IsSideFrom z L = (pos L ≡ z) × (0 < L)

side_from : (z : ℤ) (L : ℕ) → is_side z ≡ true → unsigned_abs z ≡ L → IsSideFrom z L
side_from z L h e = subst (λ n. IsSideFrom z n) e (side_is z h)

sides_from : (sides : List ℤ) (ring : RingBox) → box_of sides ≡ Ok ring
    → IsSideFrom (slice_index_or sides 0 (pos 0)) ring.x × IsSideFrom (slice_index_or sides 1 (pos 0)) ring.y × IsSideFrom (slice_index_or sides 2 (pos 0)) ring.z
sides_from sides ring h =
    let x : ℤ = slice_index_or sides 0 (pos 0) in
    let y : ℤ = slice_index_or sides 1 (pos 0) in
    let z : ℤ = slice_index_or sides 2 (pos 0) in
    let b = has_sides (is_nought x && is_nought y && is_nought z) (is_side x && is_side y && is_side z) NoBox SideRange (record { x = unsigned_abs x; y = unsigned_abs y; z = unsigned_abs z }) ring h in
    let p = and_parts (is_side x && is_side y) (is_side z) b.0 in
    let q = and_parts (is_side x) (is_side y) p.0 in (
      side_from x ring.x q.0 (ap (λ (r : RingBox). r.x) b.1),
      side_from y ring.y q.1 (ap (λ (r : RingBox). r.y) b.1),
      side_from z ring.z p.1 (ap (λ (r : RingBox). r.z) b.1),
    )

-- ---- the atoms

start_on_side : (dt L : ℕ) (p v : ℤ) → 0 < L → IsStartOnSide dt L p v (place_before (place_of_pm p L) v dt L) (place_of_pm p L)
start_on_side dt L p v positive =
    record {
      nearest = place_of_pm_is p (p *ℤ pos (100 * 2 ^ 32)) L (nearest_of (p *ℤ pos (100 * 2 ^ 32)) (pos L)) (place_of_pm p L) refl
          (nearest_is (p *ℤ pos (100 * 2 ^ 32)) (pos L) (nearest_of (p *ℤ pos (100 * 2 ^ 32)) (pos L)) (omega (arith, ints)) refl)
          (place_is (nearest_of (p *ℤ pos (100 * 2 ^ 32)) (pos L)) (place_of_pm p L) refl);
      before = record {
        moved = (
          places_moved v dt L,
          nearest_is (v *ℤ pos (dt * 2 ^ 32)) (pos (100 * L)) (places_moved v dt L) (omega (arith, ints)) refl,
          place_is _ (place_before (place_of_pm p L) v dt L) refl,
        );
      };
    }

all_start : (dt : ℕ) (ring : RingBox) (atoms : List gro.AtomView) → 0 < ring.x → 0 < ring.y → 0 < ring.z → AllZip (IsStartOfAtom dt (sides_view ring)) atoms (map (started_atom dt ring) atoms)
all_start dt ring [] p q r = tt
all_start dt ring (g ∷ gs) p q r =
    let first : IsStartOfAtom dt (sides_view ring) g (started_atom dt ring g) = record {
      number = refl;
      residue = refl;
      name = refl;
      x = start_on_side dt ring.x (slice_index_or g.at 0 (pos 0)) (slice_index_or g.velocity 0 (pos 0)) p;
      y = start_on_side dt ring.y (slice_index_or g.at 1 (pos 0)) (slice_index_or g.velocity 1 (pos 0)) q;
      z = start_on_side dt ring.z (slice_index_or g.at 2 (pos 0)) (slice_index_or g.velocity 2 (pos 0)) r;
    } in
    (first, all_start dt ring gs p q r)

-- ---- the state

-- the state that is made of a frame begins at that frame
pub begins_at : (frac : Frac) (dt : ℕ) (f : gro.FrameView) (s : StateView) → start_of_frame frac dt f ≡ Ok s → BeginsAt frac dt f s
begins_at frac dt f s e =
    let b = box_found (box_of f.sides) (start_in frac dt f) s e in
    let ring = b.0 in
    let l = sides_from f.sides ring b.1 in
    let it : BeginsAt frac dt f (start_in frac dt f ring) = record {
      title = refl;
      counter = refl;
      bits = refl;
      x_side = l.0.0;
      y_side = l.1.0;
      z_side = l.2.0;
      atoms = all_start dt ring f.atoms l.0.1 l.1.1 l.2.1;
    } in
    subst (λ (t : StateView). BeginsAt frac dt f t) b.2 it

-- if a call returned a state, the state begins at the frame
pub start_begins : {A : Type 0} (frac : Frac) (dt : ℕ) (f : gro.FrameView) (r : Result (State A) (Failure BoxFault)) → Gives state_view (λ (e : BoxFault). e) r (start_of_frame frac dt f) → IfOk r (λ s. BeginsAt frac dt f (state_view s))
start_begins frac dt f (Ok s) h = begins_at frac dt f (state_view s) h
start_begins frac dt f (Err e) h = tt
