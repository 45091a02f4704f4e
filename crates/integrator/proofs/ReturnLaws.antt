-- Invariants of steps: the system of a job and a state, and the validity of a state. Also the parts of a system.
use Rattle.std.proofs.Common.{◌≡◌, ℕ, suc, ◌<◌, ◌^◌, Bool, true, false, List, [], ◌∷◌, length, ℤ, pos, negsuc, Result, Ok, Err, arith, refl, ap, sym, ◌∙◌, map, ltb-true}
use Rattle.std.specs.List.{AllByRecursion}
use Rattle.std.proofs.lemmas.List.{length-map, get_or-map}
use Rattle.std.proofs.lemmas.List.Elements.{All-from_recursion, recursion_from_All, All-from_get_or, All-map}
use Rattle.fixed.specs.Arithmetic.{in_range}
use Rattle.job.specs.Values.{JobValue, TypeValue}
use Rattle.line_text.specs.Steps.{◌>>=◌}
use Rattle.line_text.proofs.StepLaws.{bind_ok, err_is_no_ok, same_ok}
use lib.Signed.{mag}
use Rattle.ring_box.specs.Cells.{has_room}
use Rattle.ring_box.specs.Places.{ArePlaces, no_place}
use Rattle.state.specs.StateText.{AtomView, StateView, IsAtom, IsState}
use Rattle.integrator.specs.Frames.{AreOfSameAtoms, Frames}
use Rattle.integrator.specs.States.{frames_of, moved_state, nobody, moved_atoms}
use Rattle.potential.specs.Energies.{Energy, energy_of}
use Rattle.integrator.specs.Starts.{Refusal, are_alike, atom_types, bits_differ, cutoff_too_long, energy_refused, known, or_refused, require, ring_of, type_with, system_of, types_of}
use Rattle.integrator.proofs.StateLaws.{get_or-moved, length-moved, part_moved}

-- ---- types go by names

named_types : List TypeValue → ℕ → List (List ℕ) → Result (List ℕ) Refusal
named_types types k [] = Ok []
named_types types k (name ∷ names) = known k (type_with types name) >>= λ t. named_types types (suc k) names >>= λ ts. Ok (t ∷ ts)

by_names : (types : List TypeValue) (k : ℕ) (atoms : List AtomView) → atom_types types k atoms ≡ named_types types k (map (λ a. a.name) atoms)
unfolding atom_types named_types
by_names types k [] = refl
by_names types k (a ∷ atoms) = ap (λ r. known k (type_with types a.name) >>= λ t. r >>= λ ts. Ok (t ∷ ts)) (by_names types (suc k) atoms)

names-moved : (atoms : List AtomView) (f : Frames) → map (λ a. a.name) (moved_atoms atoms f) ≡ map (λ a. a.name) atoms
names-moved atoms f = part_moved atoms f (λ a. a.name) [] (map (λ a. a.name) atoms) (length-map atoms (λ a. a.name)) (λ k l. get_or-map (λ (a : AtomView). a.name) atoms k nobody [] l)

types-moved : (types : List TypeValue) (k : ℕ) (atoms : List AtomView) (f : Frames) → atom_types types k (moved_atoms atoms f) ≡ atom_types types k atoms
types-moved types k atoms f =
    by_names types k (moved_atoms atoms f) ∙ ap (named_types types k) (names-moved atoms f) ∙ sym (by_names types k atoms)

-- the system of a job and a state doesn't depend on the frames and the counter of the state
pub system-moved : (j : JobValue) (s : StateView) (f : Frames) (k : ℤ) → system_of j (moved_state s f k) ≡ system_of j s
unfolding system_of types_of
system-moved j s f k = rw (types-moved j.types 1 s.atoms f) refl

-- ---- a state's frames are frames, and at frames it is a state

-- a state's two frames are frames of the same atoms
pub frames_are : (s : StateView) → IsState s → AreOfSameAtoms (frames_of s)
frames_are s h =
    let each = All-from_recursion IsAtom s.atoms h.atoms in
    record {
      alike = length-map s.atoms (λ a. a.previous) ∙ sym (length-map s.atoms (λ a. a.current));
      previous = All-map ArePlaces (λ a. a.previous) s.atoms (λ k d l. (each k d l).previous);
      current = All-map ArePlaces (λ a. a.current) s.atoms (λ k d l. (each k d l).current);
    }

moved_are : (atoms : List AtomView) (f : Frames) → AllByRecursion IsAtom atoms → AreOfSameAtoms f → length f.previous ≡ length atoms → AllByRecursion IsAtom (moved_atoms atoms f)
moved_are atoms f h frames' same =
    let each = All-from_recursion IsAtom atoms h in
    recursion_from_All IsAtom (moved_atoms atoms f) (All-from_get_or IsAtom (moved_atoms atoms f) nobody (λ k l.
    let m : k < length atoms = omega (arith, length-moved atoms f) in
    let atom = each k nobody m in
    rw (get_or-moved atoms f k m)
    (record {
      low = atom.low;
      high = atom.high;
      residue = atom.residue;
      name = atom.name;
      previous = frames'.previous k no_place (omega arith);
      current = frames'.current k no_place (omega (arith, frames'.alike));
    })))

fits_is : (z : ℤ) → in_range z ≡ true → mag z < 2 ^ 63
fits_is (pos n) h = ltb-true n (2 ^ 63) h
fits_is (negsuc n) h = ltb-true n (2 ^ 63) h

-- a state with frames of its atoms and a counter in range is a state again
pub moved_is : (s : StateView) (f : Frames) (k : ℤ) → IsState s → AreOfSameAtoms f → length f.previous ≡ length s.atoms → in_range k ≡ true → IsState (moved_state s f k)
moved_is s f k h frames' same fits = record {
  title = h.title;
  step = fits_is k fits;
  sides = h.sides;
  count = rw (length-moved s.atoms f) h.count;
  atoms = moved_are s.atoms f h.atoms frames' same;
}

-- ---- the system

-- if a result is Ok after its refusal is mapped, the result is Ok with the same value
pub refused_ok : {X R S : Type 0} → (refused : R → S) (r : Result X R) (x : X) → or_refused refused r ≡ Ok x → r ≡ Ok x
refused_ok refused (Ok y) x e = cc
refused_ok refused (Err r) x e = absurd (err_is_no_ok (refused r) x e)

required : (b : Bool) (refusal : Refusal) (u : Unit {0}) → require b refusal ≡ Ok u → b ≡ true
required true refusal u e = refl
required false refusal u e = absurd (err_is_no_ok refusal u e)

-- the parts that a system was made of
pub record SystemParts (j : JobValue) (s : StateView) (system : Energy × List ℕ) : Type 0 where
  pub energy_read : energy_of j ≡ Ok system.0
  pub typed : atom_types j.types 1 s.atoms ≡ Ok system.1
  pub alike : are_alike j.frac s.frac ≡ true
  pub room : has_room j.frac (ring_of s.sides) j.cutoff ≡ true

-- a system is made of the job's energy and of the types of the state's atoms, which have room
pub system_parts : (j : JobValue) (s : StateView) (system : Energy × List ℕ) → system_of j s ≡ Ok system → SystemParts j s system
unfolding system_of types_of
system_parts j s system e =
    let a = bind_ok _ _ system e in
    let b = bind_ok _ _ system a.2 in
    let f = bind_ok _ _ b.0 b.1 in
    let c = bind_ok _ _ b.0 f.2 in
    let d = bind_ok _ _ b.0 c.2 in
    let types : c.0 ≡ b.0 = same_ok c.0 b.0 d.2 in
    let same : (a.0, b.0) ≡ system = same_ok (a.0, b.0) system b.2 in
    rw (← same)
    (record {
      energy_read = refused_ok energy_refused (energy_of j) a.0 a.1;
      typed = c.1 ∙ ap Ok types;
      alike = required (are_alike j.frac s.frac) bits_differ f.0 f.1;
      room = required (has_room j.frac (ring_of s.sides) j.cutoff) cutoff_too_long d.0 d.1;
    })
