-- Pairs that act, pairs that don't, and the tiles of a plan.
use Rattle.std.proofs.Common.{arith, ◌≡◌, ℕ, zero, suc, ◌+◌, ◌*◌, ◌<◌, List, [], ◌∷◌, ◌++◌, take, Option, Some, None, slice_get, ap, refl, sym, ◌∙◌, append_assoc}
use Rattle.std.proofs.lemmas.List.{take_more}
use Rattle.std.proofs.lemmas.Option.{get_or_from_slice_get, slice_get_within}
use Rattle.rounds.specs.declared.work.PairAdd.{PairAdd}
use Rattle.rounds.specs.Tiles.{Addition, IsPairOf, acting, additions_of, additions_of_all, pairs_at, tile_at, tile_of, tiles_of}

-- the first elements, and the next
pub take_next : {A : Type 0} (xs : List A) (k : ℕ) (x : A) → slice_get xs k ≡ Some x → take (k + 1) xs ≡ take k xs ++ x ∷ []
take_next xs k x at = take_more xs k x (slice_get_within xs k x at) ∙ ap (λ y. take k xs ++ y ∷ []) (get_or_from_slice_get xs k x x at)

-- of two lists, one after the other
pub acting_append : {A : Type 0} (xs ys : List (Option A)) → acting (xs ++ ys) ≡ acting xs ++ acting ys
acting_append [] ys = refl
acting_append (None ∷ xs) ys = acting_append xs ys
acting_append (Some x ∷ xs) ys = ap (λ zs. x ∷ zs) (acting_append xs ys)

-- the pairs that act among the first, and then the next pair if it acts
pub acting_next : {A : Type 0} (ps : List (Option A)) (k : ℕ) (p : Option A) → slice_get ps k ≡ Some p → acting (take (k + 1) ps) ≡ acting (take k ps) ++ acting (p ∷ [])
acting_next ps k p at = ap acting (take_next ps k p at) ∙ acting_append (take k ps) (p ∷ [])

-- those that act from k on are those that were found before, and then the next pair if it acts
pub acts_on : {A : Type 0} (ps : List (Option A)) (k n : ℕ) (found next : List A) (p : Option A) → acting (take n ps) ≡ acting (take k ps) ++ found → slice_get ps n ≡ Some p → next ≡ found ++ acting (p ∷ [])
    → acting (take (n + 1) ps) ≡ acting (take k ps) ++ next
acts_on ps k n found next p before at is =
    acting_next ps n p at ∙ (ap (λ xs. xs ++ acting (p ∷ [])) before ∙ (append_assoc (acting (take k ps)) found (acting (p ∷ [])) ∙ ap (λ xs. acting (take k ps) ++ xs) (sym is)))

-- The additions of a tile are the additions of its interacting pairs.
pub tile_of_acting : (ps : List (Option PairAdd)) → tile_of ps ≡ additions_of_all (acting ps)
tile_of_acting [] = refl
tile_of_acting (None ∷ ps) = tile_of_acting ps
tile_of_acting (Some add ∷ ps) = ap (λ xs. additions_of (Some add) ++ xs) (tile_of_acting ps)

-- the tile of a ticket is made of the plan's pairs for it
pub tile_at-tiles_of : (plan : List (List (Option PairAdd))) (t : ℕ) → tile_at (tiles_of plan) t ≡ tile_of (pairs_at plan t)
tile_at-tiles_of [] t = refl
tile_at-tiles_of (ps ∷ plan) zero = refl
tile_at-tiles_of (ps ∷ plan) (suc t) = tile_at-tiles_of plan t

-- An addition of a pair is to one of the 3 * atoms entries.
pub entry_inside : (atoms : ℕ) (p : PairAdd) (part : ℕ) (a : Addition) → IsPairOf atoms p → slice_get (additions_of (Some p)) part ≡ Some a → a.0 < 3 * atoms
entry_inside atoms p zero a pair at = let e : 3 * p.low ≡ a.0 = cc at in omega (arith, pair.ordered, pair.inside)
entry_inside atoms p (suc zero) a pair at = let e : 3 * p.low + 1 ≡ a.0 = cc at in omega (arith, pair.ordered, pair.inside)
entry_inside atoms p (suc (suc zero)) a pair at = let e : 3 * p.low + 2 ≡ a.0 = cc at in omega (arith, pair.ordered, pair.inside)
entry_inside atoms p (suc (suc (suc zero))) a pair at = let e : 3 * p.high ≡ a.0 = cc at in omega (arith, pair.inside)
entry_inside atoms p (suc (suc (suc (suc zero)))) a pair at = let e : 3 * p.high + 1 ≡ a.0 = cc at in omega (arith, pair.inside)
entry_inside atoms p (suc (suc (suc (suc (suc zero))))) a pair at = let e : 3 * p.high + 2 ≡ a.0 = cc at in omega (arith, pair.inside)
entry_inside atoms p (suc (suc (suc (suc (suc (suc part)))))) a pair at = absurd (cc at)
