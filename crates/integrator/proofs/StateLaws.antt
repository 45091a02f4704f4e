-- Frames of a state's atoms, and atoms with other coordinates.
use Rattle.std.proofs.Common.{◌≡◌, ◌≢◌, ℕ, ◌+◌, ◌<◌, ◌≤◌, List, length, get_or, set, arith, refl, ap, sym, ◌∙◌, inl, inr, ℤ, map, get_or-set_same, get_or-set_other}
use Rattle.std.proofs.lemmas.List.{get_or-map}
use Rattle.std.proofs.lemmas.Simd.{map-map}
use Rattle.std.proofs.lemmas.Bool.{cases_eq}
use Rattle.ring_box.specs.Places.{no_place, places_of}
use Rattle.state.specs.StateText.{AtomView, StateView}
use Rattle.integrator.specs.Forces.{numbers_from}
use Rattle.integrator.specs.Frames.{Frames, frames}
use Rattle.integrator.specs.States.{current_frame, frames_of, moved_state, nobody, moved_atom, moved_atom_at, moved_atoms, previous_frame}
use Rattle.integrator.proofs.NumberLaws.{length-numbers, made_of_numbers, number_at}

-- one atom more is moved
pub moved_more : (atoms before : List AtomView) (f : Frames) (i : ℕ) (y : AtomView) → i < length atoms → y ≡ moved_atom_at before f i
    → ((k : ℕ) → k < i → get_or atoms k nobody ≡ moved_atom_at before f k) → (k : ℕ) → k < i + 1 → get_or (set atoms i y) k nobody ≡ moved_atom_at before f k
moved_more atoms before f i y l e h k m =
    elim (cases_eq k i) [
      | inl same ↦ rw same (get_or-set_same atoms i y nobody l ∙ e)
      | inr other ↦ get_or-set_other atoms i k y nobody other ∙ h k (omega arith)
    ]

-- the atoms after it are kept
pub kept_more : (atoms before : List AtomView) (i : ℕ) (y : AtomView) → ((k : ℕ) → i ≤ k → get_or atoms k nobody ≡ get_or before k nobody)
    → (k : ℕ) → i + 1 ≤ k → get_or (set atoms i y) k nobody ≡ get_or before k nobody
kept_more atoms before i y h k m =
    let other : k ≢ i = omega arith in
    get_or-set_other atoms i k y nobody other ∙ h k (omega arith)

-- ---- atoms with other coordinates

module _ (atoms : List AtomView) (f : Frames) where
  -- moving atoms keeps their number
  pub length-moved : length (moved_atoms atoms f) ≡ length atoms
  length-moved = length-numbers (moved_atom_at atoms f) 0 (length atoms)

  -- item k of the moved atoms is atom k, moved
  pub get_or-moved : (k : ℕ) → k < length atoms → get_or (moved_atoms atoms f) k nobody ≡ moved_atom_at atoms f k
  get_or-moved = number_at (moved_atom_at atoms f) nobody (length atoms)

  -- if xs has a part of each moved atom, the list of these parts is xs
  pub part_moved : {X : Type 0} (part : AtomView → X) (d : X) (xs : List X) → length xs ≡ length atoms
      → ((k : ℕ) → k < length atoms → get_or xs k d ≡ part (moved_atom_at atoms f k)) → map part (moved_atoms atoms f) ≡ xs
  part_moved part d xs size each =
      map-map part (moved_atom_at atoms f) (numbers_from 0 (length atoms)) ∙ sym (made_of_numbers (λ k. part (moved_atom_at atoms f k)) d (length atoms) xs size each)

  -- the frames of atoms moved to f are f
  previous_moved : length f.previous ≡ length atoms → previous_frame (moved_atoms atoms f) ≡ f.previous
  previous_moved size = part_moved (λ a. a.previous) no_place f.previous size (λ k l. refl)

  current_moved : length f.current ≡ length atoms → current_frame (moved_atoms atoms f) ≡ f.current
  current_moved size = part_moved (λ a. a.current) no_place f.current size (λ k l. refl)

-- the frames of a state moved to f are f
pub frames_moved : (s : StateView) (f : Frames) (k : ℤ) → length f.previous ≡ length s.atoms → length f.current ≡ length s.atoms → frames_of (moved_state s f k) ≡ f
frames_moved s f k p c = ap (λ q. frames q (current_frame (moved_atoms s.atoms f))) (previous_moved s.atoms f p) ∙ ap (frames f.previous) (current_moved s.atoms f c)

-- atoms moved to f and then to g are the atoms moved to g
pub moved_twice : (atoms : List AtomView) (f g : Frames) → moved_atoms (moved_atoms atoms f) g ≡ moved_atoms atoms g
moved_twice atoms f g =
    let size = length-moved atoms f in
    made_of_numbers (moved_atom_at atoms g) nobody (length atoms) (moved_atoms (moved_atoms atoms f) g) (length-moved (moved_atoms atoms f) g ∙ size) (λ k l.
    get_or-moved (moved_atoms atoms f) g k (omega (arith, size)) ∙ ap (λ a. moved_atom a (places_of g.previous k) (places_of g.current k)) (get_or-moved atoms f k l))

-- moving atoms to their own frames changes no atom
pub at_home : (atoms : List AtomView) → moved_atoms atoms (frames (previous_frame atoms) (current_frame atoms)) ≡ atoms
at_home atoms =
    sym (made_of_numbers (moved_atom_at atoms (frames (previous_frame atoms) (current_frame atoms))) nobody (length atoms) atoms refl (λ k l.
    let atom = get_or atoms k nobody in
    ap (λ p. moved_atom atom p atom.current) (sym (get_or-map (λ (a : AtomView). a.previous) atoms k nobody no_place l))
    ∙ ap (λ c. moved_atom atom (places_of (previous_frame atoms) k) c) (sym (get_or-map (λ (a : AtomView). a.current) atoms k nobody no_place l))))
