-- The atoms of two states, one after another.
use Rattle.std.proofs.Common.{◌≡◌, ℕ, ◌+◌, ◌<◌, ◌≤◌, List, [], ◌∷◌, ◌++◌, length, map, take, Some, slice_get, add-one, ap, refl, sym, ◌∙◌, option_map, slice_index_or, take_all}
use Rattle.std.proofs.Math.Seq.{take-suc}
use Rattle.std.proofs.lemmas.List.{length-map}
use Rattle.std.proofs.lemmas.Option.{get_or_from_slice_get, slice_get-map, slice_get_read, slice_get_within}
use Rattle.state.specs.StateText.{AtomView}
use Rattle.state.specs.StateViews.{atom_view}
use Rattle.state.specs.declared.states.Atom.{Atom}

-- the atom with this index as a value
pub viewed : (xs : List Atom) (k : ℕ) (x : Atom) → k < length xs → x ≡ slice_index_or xs k x
    → slice_get (map atom_view xs) k ≡ Some (atom_view x)
viewed xs k x within is =
    slice_get-map atom_view xs k ∙ ap (option_map atom_view) (slice_get_read xs (length xs) k x refl within is)

next_taken : (xs : List AtomView) (k : ℕ) (x : AtomView) → slice_get xs k ≡ Some x → take (k + 1) xs ≡ take k xs ++ x ∷ []
next_taken xs k x at = rw add-one (
    take-suc xs k x (slice_get_within xs k x at) ∙ ap (λ y. take k xs ++ y ∷ []) (get_or_from_slice_get xs k x x at))

-- two lists that start alike, and have the same next element, start alike up to there
pub alike_next : (xs ys : List AtomView) (k : ℕ) (x y : AtomView) → slice_get xs k ≡ Some x → slice_get ys k ≡ Some y → x ≡ y
    → take k xs ≡ take k ys → take (k + 1) xs ≡ take (k + 1) ys
alike_next xs ys k x y at at' same before =
    next_taken xs k x at ∙ ap (λ front. front ++ x ∷ []) before ∙ ap (λ z. take k ys ++ z ∷ []) same
    ∙ sym (next_taken ys k y at')

-- two lists of one length that start alike up to their end are the same
pub all_alike : (xs ys : List Atom) (k : ℕ) → length xs ≤ k → length xs ≡ length ys
    → take k (map atom_view xs) ≡ take k (map atom_view ys) → map atom_view xs ≡ map atom_view ys
all_alike xs ys k all same alike =
    sym (take_all k (map atom_view xs) (rw (length-map xs atom_view) all)) ∙ alike
    ∙ take_all k (map atom_view ys) (rw (length-map ys atom_view, ← same) all)
