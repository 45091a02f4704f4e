-- The lists that bounds name among pairs.
use Rattle.std.proofs.Common.{◌≡◌, ℕ, ◌-◌, ◌<◌, ◌≤◌, Bool, true, false, List, [], ◌∷◌, ◌++◌, length, take, drop, map, arith, refl, ap, sym, ◌∙◌, if◌then◌else◌, slice_index_or, All}
use Rattle.std.proofs.lemmas.List.{drop-append-le, drop-map, get_or-map, length-drop, length-map, map-append, take-append-le, take-map}
use Rattle.std.proofs.lemmas.List.Elements.{All-head, All-tail}
use Rattle.ring_box.specs.declared.pairs.AtomPair.{AtomPair}
use Rattle.pair_lists.specs.Lists.{part_of}

-- bounds in a list of this length
abbrev pub AreBoundsIn : ℕ → (ℕ × ℕ) → Type 0
AreBoundsIn n b = (b.0 ≤ b.1) × (b.1 ≤ n)

-- the part of a list between bounds
abbrev pub part_at : {X : Type 0} → List X → (ℕ × ℕ) → List X
part_at xs b = part_of b.0 b.1 xs

-- the numbers of a pair's atoms
abbrev pub numbers : AtomPair → ℕ × ℕ
numbers p = (p.low, p.high)

-- if a list grows, its part between bounds stays
part_kept : {X : Type 0} (xs ys : List X) (b : (ℕ × ℕ)) → AreBoundsIn (length xs) b → part_at (xs ++ ys) b ≡ part_at xs b
part_kept xs ys b is =
    ap (take (b.1 - b.0)) (drop-append-le b.0 xs ys (omega arith))
    ∙ take-append-le (b.1 - b.0) (drop b.0 xs) ys (omega (arith, length-drop b.0 xs))

parts_kept : {X : Type 0} (xs ys : List X) (bounds : List (ℕ × ℕ)) → All (AreBoundsIn (length xs)) bounds
    → map (part_at (xs ++ ys)) bounds ≡ map (part_at xs) bounds
parts_kept xs ys [] all = refl
parts_kept xs ys (b ∷ bounds) all =
    ap (λ p. p ∷ map (part_at (xs ++ ys)) bounds) (part_kept xs ys b (All-head (AreBoundsIn (length xs)) b bounds all))
    ∙ ap (λ ps. part_at xs b ∷ ps) (parts_kept xs ys bounds (All-tail (AreBoundsIn (length xs)) b bounds all))

-- if pairs are appended, or none, the lists stay
pub lists_kept : (bounds : List (ℕ × ℕ)) (old new more : List AtomPair) (b : Bool) → new ≡ (if b then old ++ more else old)
    → All (AreBoundsIn (length old)) bounds → map (part_at (map numbers new)) bounds ≡ map (part_at (map numbers old)) bounds
lists_kept bounds old new more true e all =
    ap (λ ps. map (part_at (map numbers ps)) bounds) e
    ∙ (ap (λ ps. map (part_at ps) bounds) (map-append numbers old more)
    ∙ parts_kept (map numbers old) (map numbers more) bounds (rw (length-map old numbers) all))
lists_kept bounds old new more false e all = ap (λ ps. map (part_at (map numbers ps)) bounds) e

-- the pairs between bounds are the list with the number of those bounds
pub list_found : (bounds : List (ℕ × ℕ)) (pairs : List AtomPair) (k : ℕ) (b : (ℕ × ℕ))
    → k < length (map (part_at (map numbers pairs)) bounds) → b ≡ slice_index_or bounds k b
    → map numbers (part_at pairs b) ≡ slice_index_or (map (part_at (map numbers pairs)) bounds) k []
list_found bounds pairs k b lt e =
    sym (take-map numbers (b.1 - b.0) (drop b.0 pairs))
    ∙ (ap (take (b.1 - b.0)) (sym (drop-map numbers b.0 pairs))
    ∙ (ap (part_at (map numbers pairs)) e
    ∙ sym (get_or-map (part_at (map numbers pairs)) bounds k b [] (omega (arith, length-map bounds (part_at (map numbers pairs)))))))
