-- Lists of the pairs that act: the pairs of a tile appended part by part, a list closed, and all tiles listed.
use Rattle.std.proofs.Common.{◌≡◌, ℕ, ◌+◌, ◌<◌, Bool, List, [], ◌∷◌, ◌++◌, Some, length, take, drop, map, filter, arith, refl, ap, sym, subst, ◌∙◌, nat_le, slice_get, All}
use Rattle.std.proofs.lemmas.Bool.{cond_both, leb-false}
use Rattle.std.proofs.lemmas.Grind.{flat_map-append}
use Rattle.std.proofs.lemmas.List.{append-nil, append_assoc, append_cancel_right, length-map, nil_from_length, take-append-drop, take_more}
use Rattle.std.proofs.lemmas.List.Elements.{All-nil, All-push, filter-append}
use Rattle.std.proofs.lemmas.Option.{slice_get_within}
use Rattle.ring_box.specs.declared.vectors.CellBits.{CellBits}
use Rattle.cell_tiles.specs.Tiles.{tiles_of}
use Rattle.pair_lists.specs.Lists.{ListsAndRest, all_pairs, closed_from, pairs_of}
use Rattle.pair_lists.proofs.ListLaws.{mapped_at}

-- ---- the pairs of a tile

-- pairs that are appended in no list come last
pub pairs_appended : (old new : ListsAndRest) (near : List (ℕ × ℕ)) → new.lists ≡ old.lists → new.rest ≡ old.rest ++ near
    → pairs_of new ≡ pairs_of old ++ near
pairs_appended old new near lists rest =
    ap (λ ls. all_pairs ls ++ new.rest) lists
    ∙ (ap (λ ps. all_pairs old.lists ++ ps) rest ∙ sym (append_assoc (all_pairs old.lists) old.rest near))

-- F maps lists in a row to lists in a row. If `these` are of the elements from k to before n, as the list's end has them,
-- the first n have those of the first k, then these.
pub from_start : {X Y : Type 0} (F : List X → List Y) → ((xs ys : List X) → F (xs ++ ys) ≡ F xs ++ F ys)
    → (ps : List X) (k n : ℕ) (these : List Y) → F (drop k ps) ≡ these ++ F (drop n ps) → F (take n ps) ≡ F (take k ps) ++ these
from_start F joins ps k n these e =
    append_cancel_right (F (take n ps)) (F (take k ps) ++ these) (F (drop n ps))
    (sym (joins (take n ps) (drop n ps))
    ∙ (ap F (take-append-drop n ps ∙ sym (take-append-drop k ps))
    ∙ (joins (take k ps) (drop k ps)
    ∙ (ap (λ ys. F (take k ps) ++ ys) e ∙ sym (append_assoc (F (take k ps)) these (F (drop n ps)))))))

module _ {X : Type 0} (acts : X → Bool) (ps : List X) where
  -- if the elements so far act as those at the start and the first k, then with `near` they act as the start and the first n
  pub near_listed : (start old near new : List X) (k n : ℕ) → new ≡ old ++ near
      → filter acts old ≡ filter acts start ++ filter acts (take k ps)
      → filter acts (drop k ps) ≡ filter acts near ++ filter acts (drop n ps) → filter acts new ≡ filter acts start ++ filter acts (take n ps)
  near_listed start old near new k n e before here =
      ap (filter acts) e
      ∙ (filter-append acts old near
      ∙ (ap (λ ys. ys ++ filter acts near) before
      ∙ (append_assoc (filter acts start) (filter acts (take k ps)) (filter acts near)
      ∙ ap (λ ys. filter acts start ++ ys) (sym (from_start (filter acts) (filter-append acts) ps k n (filter acts near) here)))))

-- ---- a list is closed

-- the pairs in no list, as one more list
abbrev closed : ListsAndRest → ListsAndRest
closed l = record { lists = l.lists ++ l.rest ∷ []; rest = [] }

all_pairs_closed : (l : ListsAndRest) → all_pairs (closed l).lists ≡ pairs_of l
all_pairs_closed l = flat_map-append (λ ps. ps) l.lists (l.rest ∷ []) ∙ ap (λ ps. all_pairs l.lists ++ ps) (append-nil l.rest)

module _ (least : ℕ) (l new : ListsAndRest) (e : new ≡ closed_from least l) where
  by_cases : (P : ListsAndRest → Type 0) → P (closed l) → P l → P new
  by_cases P here there = subst P (sym e) (cond_both (nat_le least (length l.rest)) (closed l) l P (λ _. here) (λ _. there))

  -- closing a list leaves the pairs and their order
  pub pairs_stay : pairs_of new ≡ pairs_of l
  pairs_stay = by_cases (λ m. pairs_of m ≡ pairs_of l) (append-nil (all_pairs (closed l).lists) ∙ all_pairs_closed l) refl

  -- if all pairs have a property, those of the lists still do
  pub closed_inside : (P : ℕ × ℕ → Type 0) → All (All P) l.lists → All P l.rest → All (All P) new.lists
  closed_inside P lists rest = by_cases (λ m. All (All P) m.lists) (All-push (All P) l.lists l.rest lists rest) lists

  -- and so do those in no list
  pub rest_inside : (P : ℕ × ℕ → Type 0) → All P l.rest → All P new.rest
  rest_inside P rest = by_cases (λ m. All P m.rest) (All-nil P) rest

-- if any pairs in no list become one, all pairs are in lists
pub all_listed : (l new : ListsAndRest) → new ≡ closed_from 1 l → all_pairs new.lists ≡ pairs_of l
all_listed l new e =
    subst (λ (m : ListsAndRest). all_pairs m.lists ≡ pairs_of l) (sym e)
    (cond_both (nat_le 1 (length l.rest)) (closed l) l (λ m. all_pairs m.lists ≡ pairs_of l) (λ _. all_pairs_closed l)
    (λ none.
    sym (append-nil (all_pairs l.lists))
    ∙ ap (λ ps. all_pairs l.lists ++ ps) (sym (nil_from_length l.rest (omega (arith, leb-false 1 (length l.rest) none))))))

-- ---- the tiles

module _ {X : Type 0} (f : X → List (ℕ × ℕ)) (xs : List X) (k : ℕ) (x : X) (at : slice_get xs k ≡ Some x) where
  mapped_within : k < length (map f xs)
  mapped_within = omega (arith, slice_get_within xs k x at, length-map xs f)

  -- what holds of all tiles' pairs holds of those of the tile at this index
  pub holds_at : (P : List (ℕ × ℕ) → Type 0) → All P (map f xs) → P (f x)
  holds_at P all = subst P (mapped_at f xs k x (f x) at) (all k (f x) mapped_within)

  -- the pairs of the tiles up to this index are those before it, then its own
  pairs_more : all_pairs (take (k + 1) (map f xs)) ≡ all_pairs (take k (map f xs)) ++ f x
  pairs_more =
      ap all_pairs (take_more (map f xs) k (f x) mapped_within ∙ ap (λ ps. take k (map f xs) ++ ps ∷ []) (mapped_at f xs k x (f x) at))
      ∙ (flat_map-append (λ ps. ps) (take k (map f xs)) (f x ∷ []) ∙ ap (λ ps. all_pairs (take k (map f xs)) ++ ps) (append-nil (f x)))

  -- if the pairs so far act as those of the tiles before this index, then with its own they act as those up to it
  pub one_more : (acts : ℕ × ℕ → Bool) (old new : List (ℕ × ℕ)) → filter acts new ≡ filter acts old ++ filter acts (f x)
      → filter acts old ≡ filter acts (all_pairs (take k (map f xs))) → filter acts new ≡ filter acts (all_pairs (take (k + 1) (map f xs)))
  one_more acts old new e before =
      e
      ∙ (ap (λ ps. ps ++ filter acts (f x)) before
      ∙ (sym (filter-append acts (all_pairs (take k (map f xs))) (f x)) ∙ ap (filter acts) (sym pairs_more)))

-- a tile of a grid is that tile of the cells with its bits
pub tile_there : (bits grid : CellBits) (k : ℕ) (tile : ℕ × ℕ) → bits ≡ grid → slice_get (tiles_of grid) k ≡ Some tile
    → slice_get (tiles_of bits) k ≡ Some tile
tile_there bits grid k tile e is = subst (λ (b : CellBits). slice_get (tiles_of b) k ≡ Some tile) (sym e) is
