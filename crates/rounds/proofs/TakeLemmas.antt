-- The first elements of a list, and the next.
use Rattle.std.proofs.Common.{◌≡◌, ℕ, suc, ◌+◌, List, [], ◌∷◌, ◌++◌, take, drop, Option, Some, slice_get, ap, sym, ◌∙◌, append-nil, append_assoc, drop-cons, take-append-drop}
use Rattle.std.proofs.lemmas.Grind.{flat_map-append}
use Rattle.std.proofs.lemmas.Option.{get_or_from_slice_get, slice_get_within}
use Rattle.rounds.specs.Tiles.{acting, additions_of, additions_of_all, tile_of, AreNextActing}
use Rattle.rounds.proofs.ActingLemmas.{take_next, tile_of_acting}
use Rattle.rounds.specs.declared.work.PairAdd.{PairAdd}

-- A list is the elements before a position, the element at it, and the elements after it.
pub split_at : {A : Type 0} (xs : List A) (k : ℕ) (x : A) → slice_get xs k ≡ Some x → xs ≡ take k xs ++ x ∷ drop (suc k) xs
split_at xs k x at =
    sym (take-append-drop k xs)
    ∙ ap (λ ys. take k xs ++ ys) (drop-cons xs k x (slice_get_within xs k x at) ∙ ap (λ y. y ∷ drop (suc k) xs) (get_or_from_slice_get xs k x x at))

-- ---- the next interacting pairs of a tile

-- The additions of the first n pairs are the additions of the first k, then of the next interacting pairs.
pub row_adds : (ps : List (Option PairAdd)) (k n : ℕ) (adds : List PairAdd) → AreNextActing ps k adds n → tile_of (take n ps) ≡ tile_of (take k ps) ++ additions_of_all adds
row_adds ps k n adds row =
    tile_of_acting (take n ps)
    ∙ (ap additions_of_all row.acting
    ∙ (flat_map-append (λ add. additions_of (Some add)) (acting (take k ps)) adds ∙ ap (λ xs. xs ++ additions_of_all adds) (sym (tile_of_acting (take k ps)))))

-- A tile's additions: first of the pairs before k, then of the next interacting pairs, then of all later pairs.
pub row_split : (ps : List (Option PairAdd)) (k n : ℕ) (adds : List PairAdd) → AreNextActing ps k adds n → tile_of ps ≡ tile_of (take k ps) ++ (additions_of_all adds ++ tile_of (drop n ps))
row_split ps k n adds row =
    ap tile_of (sym (take-append-drop n ps))
    ∙ (flat_map-append additions_of (take n ps) (drop n ps)
    ∙ (ap (λ xs. xs ++ tile_of (drop n ps)) (row_adds ps k n adds row) ∙ append_assoc (tile_of (take k ps)) (additions_of_all adds) (tile_of (drop n ps))))

-- ---- pairs that act, one after the other

-- the additions of the first pairs and of the pair after them
pub adds_next : (adds : List PairAdd) (k : ℕ) (add : PairAdd) → slice_get adds k ≡ Some add → additions_of_all (take (k + 1) adds) ≡ additions_of_all (take k adds) ++ additions_of (Some add)
adds_next adds k add at =
    ap additions_of_all (take_next adds k add at)
    ∙ (flat_map-append (λ a. additions_of (Some a)) (take k adds) (add ∷ []) ∙ ap (λ xs. additions_of_all (take k adds) ++ xs) (append-nil (additions_of (Some add))))

-- The additions of all pairs are first of the pairs before one pair, then of this pair, then of all later pairs.
pub adds_split : (adds : List PairAdd) (k : ℕ) (add : PairAdd) → slice_get adds k ≡ Some add
    → additions_of_all adds ≡ additions_of_all (take k adds) ++ (additions_of (Some add) ++ additions_of_all (drop (suc k) adds))
adds_split adds k add at = ap additions_of_all (split_at adds k add at) ∙ flat_map-append (λ a. additions_of (Some a)) (take k adds) (add ∷ drop (suc k) adds)
