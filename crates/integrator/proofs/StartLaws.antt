-- Types of atoms, one after another.
use Rattle.std.proofs.Common.{◌≡◌, ◌≢◌, ℕ, suc, ◌+◌, ◌<◌, Bool, true, false, cond, List, [], ◌∷◌, ◌++◌, length, get_or, drop, Option, Some, None, Result, Ok, Err, refl, ap, sym, ◌∙◌, add-one, append_assoc, eq-eqb, ne_eqb, append-nil, bytes_eq, map, not}
use Rattle.std.proofs.lemmas.List.{length-map}
use Rattle.fixed.specs.Fractions.{bits_of}
use Rattle.fixed.specs.declared.frac.Frac.{Frac}
use Rattle.std.proofs.Math.Seq.{drop-cons}
use Rattle.line_text.specs.Names.{name_text}
use Rattle.line_text.specs.Steps.{◌>>=◌}
use Rattle.line_text.proofs.StepLaws.{bind_err}
use Rattle.job.specs.Views.{type_value}
use Rattle.job.specs.declared.jobs.AtomType.{AtomType}
use Rattle.std.specs.List.{position, position_or_len}
use Rattle.job.specs.Values.{JobValue, TypeValue}
use Rattle.state.specs.StateText.{AtomView, StateView}
use Rattle.ring_box.specs.Cells.{has_room}
use Rattle.energy_program.specs.Faults as energies
use Rattle.fallible.specs.Failures.{Fails}
use Rattle.fallible.specs.declared.failure.Failure.{Failure}
use Rattle.fallible.proofs.FailureLaws.{fails_as}
use Rattle.integrator.specs.declared.faults.SystemFault.{SystemFault}
use Rattle.integrator.specs.StartViews.{system_refusal}
use Rattle.potential.specs.Energies.{Energy, energy_of}
use Rattle.integrator.specs.Starts.{Refusal, are_alike, bits_differ, cutoff_too_long, energy_refused, atom_types, ring_of, system_of, types_of, type_with, unknown_type}

position_or_len-map : {X Y : Type 0} → (p : Y → Bool) (f : X → Y) (xs : List X) → position_or_len p (map f xs) ≡ position_or_len (λ x. p (f x)) xs
position_or_len-map p f [] = refl
position_or_len-map p f (x ∷ xs) = ap (λ n. cond (not (p (f x))) (1 + n) 0) (position_or_len-map p f xs)

-- the index of the first image that passes is the index of the first element whose image passes
pub position-map : {X Y : Type 0} → (p : Y → Bool) (f : X → Y) (xs : List X) → position p (map f xs) ≡ position (λ x. p (f x)) xs
position-map p f xs = rw (position_or_len-map p f xs, length-map xs f) refl

-- the types found so far, followed by the types of the rest
pub with_front : List ℕ → Result (List ℕ) Refusal → Result (List ℕ) Refusal
with_front front r = r >>= λ ts. Ok (front ++ ts)

-- before any type is found, the result is the types of the rest
pub front_none : (r : Result (List ℕ) Refusal) → with_front [] r ≡ r
unfolding with_front
front_none (Ok ts) = refl
front_none (Err f) = refl

-- if no atom is left, the result is the types found so far
pub front_all : (front : List ℕ) (types : List TypeValue) (k : ℕ) → with_front front (atom_types types k []) ≡ Ok front
unfolding with_front atom_types
front_all front types k = ap Ok (append-nil front)

more_at : (front : List ℕ) (t : ℕ) (r : Result (List ℕ) Refusal) → with_front front (r >>= λ ts. Ok (t ∷ ts)) ≡ with_front (front ++ t ∷ []) r
unfolding with_front
more_at front t (Ok ts) = ap Ok (sym (append_assoc front (t ∷ []) ts))
more_at front t (Err f) = refl

-- an atom whose name a type has adds that type
pub front_more : (front : List ℕ) (types : List TypeValue) (k : ℕ) (a : AtomView) (atoms : List AtomView) (t : ℕ) → type_with types a.name ≡ Some t
    → with_front front (atom_types types k (a ∷ atoms)) ≡ with_front (front ++ t ∷ []) (atom_types types (suc k) atoms)
unfolding atom_types
front_more front types k a atoms t e = rw e (more_at front t (atom_types types (suc k) atoms))

-- an atom whose name no type has is the refusal, with its number
pub front_stops : (front : List ℕ) (types : List TypeValue) (k : ℕ) (a : AtomView) (atoms : List AtomView) → type_with types a.name ≡ None
    → with_front front (atom_types types k (a ∷ atoms)) ≡ Err (unknown_type k)
unfolding atom_types with_front
front_stops front types k a atoms e = rw e refl

-- the views of a list from the index k on: the view of item k, then the views from k + 1 on
pub map-drop : {X Y : Type 0} → (f : X → Y) (xs : List X) (k : ℕ) (x : X) → k < length xs → x ≡ get_or xs k x → map f (drop k xs) ≡ f x ∷ map f (drop (k + 1) xs)
map-drop f xs k x h e =
    ap (map f) (drop-cons xs k x h ∙ ap (λ y. y ∷ drop (suc k) xs) (sym e)) ∙ rw add-one refl

-- the type that was found by its name
pub found_type : {A : Type 0} → (types : List (AtomType A)) (name bytes : List ℕ) (r : Option ℕ) → bytes ≡ name
    → r ≡ position (λ t. bytes_eq (name_text t.name) bytes) types → type_with (map type_value types) name ≡ r
found_type types name bytes r e h =
    position-map (λ t. bytes_eq t.name name) type_value types ∙ ap (λ n. position (λ t. bytes_eq (name_text t.name) n) types) (sym e) ∙ sym h

-- ---- the types of a state's atoms

-- equal numbers of bits are equal fraction bits
pub alike : (f g : Frac) (m n : ℕ) → m ≡ bits_of f → n ≡ bits_of g → m ≡ n → are_alike f g ≡ true
alike f g m n a b e = eq-eqb (bits_of f) (bits_of g) (sym a ∙ e ∙ b)

-- different numbers of bits are different fraction bits
pub unlike : (f g : Frac) (m n : ℕ) → m ≡ bits_of f → n ≡ bits_of g → m ≢ n → are_alike f g ≡ false
unlike f g m n a b e = ne_eqb (bits_of f) (bits_of g) (λ h. e (a ∙ h ∙ sym b))

-- if the fraction bits of a job and a state differ, the types are refused with `bits_differ`
pub bits_unlike : (j : JobValue) (s : StateView) → are_alike j.frac s.frac ≡ false → types_of j s ≡ Err bits_differ
unfolding types_of
bits_unlike j s a = rw a refl

-- if an atom has no type, the types are refused
pub types_refused : (j : JobValue) (s : StateView) (failure : Failure SystemFault) → are_alike j.frac s.frac ≡ true → Fails system_refusal failure (atom_types j.types 1 s.atoms) → Fails system_refusal failure (types_of j s)
unfolding types_of
types_refused j s failure a h = fails_as system_refusal failure (atom_types j.types 1 s.atoms) (types_of j s) (λ fault e. rw (a, e) refl) h

-- if the box has no room, the types are refused with `cutoff_too_long`
pub no_room : (j : JobValue) (s : StateView) (types : List ℕ) → are_alike j.frac s.frac ≡ true → atom_types j.types 1 s.atoms ≡ Ok types → has_room j.frac (ring_of s.sides) j.cutoff ≡ false → types_of j s ≡ Err cutoff_too_long
unfolding types_of
no_room j s types a t h = rw (a, t, h) refl

-- otherwise the atoms have types
pub typed : (j : JobValue) (s : StateView) (types : List ℕ) → are_alike j.frac s.frac ≡ true → atom_types j.types 1 s.atoms ≡ Ok types → has_room j.frac (ring_of s.sides) j.cutoff ≡ true → types_of j s ≡ Ok types
unfolding types_of
typed j s types a t h = rw (a, t, h) refl

-- ---- refusals on the way

-- if the types are refused, the system is refused for the same reason
pub system_refused : (j : JobValue) (s : StateView) (energy : Energy) (failure : Failure SystemFault) → energy_of j ≡ Ok energy → Fails system_refusal failure (types_of j s) → Fails system_refusal failure (system_of j s)
unfolding system_of
system_refused j s energy failure r h =
    rw r (fails_as system_refusal failure (types_of j s) (types_of j s >>= λ types. Ok (energy, types)) (λ fault e. bind_err (types_of j s) (λ types. Ok (energy, types)) fault e) h)

-- if the energy is refused, the system is refused for the same reason
pub energy_unready : (j : JobValue) (s : StateView) (r : energies.Refusal) → energy_of j ≡ Err r → system_of j s ≡ Err (energy_refused r)
unfolding system_of
energy_unready j s r e = rw e refl

-- if neither the energy nor the types are refused, they make the system
pub system_made : (j : JobValue) (s : StateView) (energy : Energy) (types : List ℕ) → energy_of j ≡ Ok energy → types_of j s ≡ Ok types → system_of j s ≡ Ok (energy, types)
unfolding system_of
system_made j s energy types e t = rw (e, t) refl
