-- Lists of the pairs that act: which lists are, and that the tiles are.
use Rattle.std.proofs.Common.{◌≡◌, ℕ, zero, suc, ◌<◌, ◌≤◌, Bool, true, false, cond, List, [], ◌∷◌, length, get_or, filter, sum_by, Some, None, arith, refl, ap, sym, ◌∙◌, map, is_some, option_map, nat_lt, ◌&&◌, if◌then◌else◌, slice_get, slice_index_or, All, IsPermutation}
use Rattle.std.proofs.lemmas.Bool.{and_parts, ltb-true, true≢false}
use Rattle.std.proofs.lemmas.Bool.Decides.{nat_tests}
use Rattle.std.proofs.lemmas.List.{get_or-map}
use Rattle.std.proofs.lemmas.List.Elements.{All-from_get_or}
use Rattle.std.proofs.lemmas.List.Sorted.{All-permutation, sum_by-IsPermutation}
use Rattle.std.proofs.lemmas.List.Sums.{sum_by-cons}
use Rattle.std.proofs.lemmas.Option.{get_or_from_slice_get, slice_get_within}
use Rattle.cell_tiles.specs.Cells.{IsGrid}
use Rattle.cell_tiles.specs.Cover.{Covers, are_close, is_pair, is_same, times, times_in_all}
use Rattle.cell_tiles.specs.Near.{IsPairOf, pair_acts}
use Rattle.cell_tiles.specs.Tiles.{tile_pairs}
use Rattle.cell_tiles.proofs.CellLemmas.{are_places}
use Rattle.cell_tiles.proofs.CountLemmas.{sum_flat_map, sum_passing}
use Rattle.cell_tiles.proofs.CoverLemmas.{covers}
use Rattle.cell_tiles.proofs.SumLemmas.{sums_as_all}
use Rattle.ring_box.specs.Acting.{Reach, between}
use Rattle.ring_box.specs.Cells.{NearAreNeighbours}
use Rattle.ring_box.specs.Distances.{is_near, square_of}
use Rattle.ring_box.specs.Forces.{taken_distance_of}
use Rattle.ring_box.specs.Places.{ArePlaces, places_of}
use Rattle.ring_box.specs.declared.boxes.RingBox.{RingBox}
use Rattle.ring_box.specs.declared.vectors.CellBits.{CellBits}
use Rattle.ring_box.specs.declared.vectors.Place3.{Place3}
use Rattle.pair_lists.specs.Lists.{AreListsOf, all_pairs}

-- if a test follows from another, what fails the other fails it too
fails_too : (a b : Bool) → (a ≡ true → b ≡ true) → b ≡ false → a ≡ false
fails_too true b h e = absurd (true≢false (sym (h refl) ∙ e))
fails_too false b h e = refl

-- ---- lists with the same acting pairs

module _ (acts : ℕ × ℕ → Bool) (f : ℕ × ℕ → ℕ) (idle : (p : ℕ × ℕ) → acts p ≡ false → f p ≡ 0) where
  -- an amount that is 0 for pairs that don't act has the same sum over those that act in any of the lists
  acting_sums : (lists : List (List (ℕ × ℕ))) → sum_by f (filter acts (all_pairs lists)) ≡ sum_by (λ ps. sum_by f ps) lists
  acting_sums lists = sum_passing f acts (all_pairs lists) idle ∙ sum_flat_map f (λ ps. ps) lists

-- lists whose pairs that act are those of the tiles, in the same order, serve as the tiles do
pub same_lists : (n : ℕ) (acts : ℕ × ℕ → Bool) (lists tiles : List (List (ℕ × ℕ)))
    → filter acts (all_pairs lists) ≡ filter acts (all_pairs tiles) → All (All (IsPairOf n)) lists → AreListsOf n acts tiles → AreListsOf n acts lists
same_lists n acts lists tiles e inside of =
    record {
      inside = inside;
      sums = λ f pairs are idle.
          sym (acting_sums acts f idle lists) ∙ (ap (sum_by f) e ∙ (acting_sums acts f idle tiles ∙ of.sums f pairs are idle));
    }

-- lists serve in any order
pub in_any_order : (n : ℕ) (acts : ℕ × ℕ → Bool) (lists others : List (List (ℕ × ℕ))) → IsPermutation lists others
    → AreListsOf n acts lists → AreListsOf n acts others
in_any_order n acts lists others same of =
    record {
      inside = All-permutation (All (IsPairOf n)) lists others same of.inside;
      sums = λ f pairs are idle. sum_by-IsPermutation (λ ps. sum_by f ps) lists others same ∙ of.sums f pairs are idle;
    }

-- lists also serve for fewer pairs
pub act_less : (n : ℕ) (acts less : ℕ × ℕ → Bool) (lists : List (List (ℕ × ℕ))) → ((p : ℕ × ℕ) → less p ≡ true → acts p ≡ true)
    → AreListsOf n acts lists → AreListsOf n less lists
act_less n acts less lists h of =
    record {
      inside = of.inside;
      sums = λ f pairs are idle. of.sums f pairs are (λ p e. idle p (fails_too (less p) (acts p) (h p) e));
    }

-- ---- the element at an index

-- if a list has x at an index, its image under a function has the function of x there
pub mapped_at : {X Y : Type 0} (f : X → Y) (xs : List X) (k : ℕ) (x : X) (d : Y) → slice_get xs k ≡ Some x
    → slice_index_or (map f xs) k d ≡ f x
mapped_at f xs k x d e = get_or-map f xs k x d (slice_get_within xs k x e) ∙ ap f (get_or_from_slice_get xs k x x e)

-- ---- pairs that act

decided : {A B : Type 0} (g : A → B) (a : A) (near : Bool) → is_some (option_map g (if near then Some a else None)) ≡ near
decided g a true = refl
decided g a false = refl

-- a pair acts exactly if its atoms are nearer than the cutoff
pub acts_is_near : (d : Reach) (b : RingBox) (frame : List Place3) (p : ℕ × ℕ)
    → pair_acts d b frame p ≡ is_near d.frac (square_of b (places_of frame p.0) (places_of frame p.1)) d.cutoff
acts_is_near d b frame p =
    let x = places_of frame p.0 in
    let y = places_of frame p.1 in
    decided (between b x y) (taken_distance_of d.frac b d.core x y) (is_near d.frac (square_of b x y) d.cutoff)

-- atoms that aren't close don't act
far_is_idle : (bits : CellBits) (d : Reach) (b : RingBox) (frame : List Place3) (p : ℕ × ℕ) → All ArePlaces frame → NearAreNeighbours d.frac b d.cutoff bits
    → are_close bits frame p ≡ false → pair_acts d b frame p ≡ false
far_is_idle bits d b frame p places law far =
    let x = places_of frame p.0 in
    let y = places_of frame p.1 in
    acts_is_near d b frame p
    ∙ fails_too (is_near d.frac (square_of b x y) d.cutoff) (are_close bits frame p) (law x y (are_places frame p.0 places) (are_places frame p.1 places)) far

-- ---- the tiles

-- 1 for the pair itself, and 0 for another
abbrev once : ℕ × ℕ → ℕ × ℕ → ℕ
once p q = cond (is_same p q) 1 0

once_itself : (p : ℕ × ℕ) → once p p ≡ 1
once_itself p = grind (arith, nat_tests)

listed : (ps : List (ℕ × ℕ)) (k : ℕ) → k < length ps → 1 ≤ times (get_or ps k (0, 0)) ps
listed [] k lt = absurd (omega arith)
listed (p ∷ ps) zero lt = omega (arith, once_itself p, sum_by-cons (once p) p ps)
listed (p ∷ ps) (suc k) lt = let q = get_or ps k (0, 0) in omega (arith, listed ps k (omega arith), sum_by-cons (once q) p ps)

listed_in_all : (p : ℕ × ℕ) (tiles : List (List (ℕ × ℕ))) (t : ℕ) → t < length tiles → 1 ≤ times p (get_or tiles t []) → 1 ≤ times_in_all p tiles
listed_in_all p [] t lt h = absurd (omega arith)
listed_in_all p (ps ∷ tiles) zero lt h = omega (arith, sum_by-cons (times p) ps tiles)
listed_in_all p (ps ∷ tiles) (suc t) lt h = omega (arith, listed_in_all p tiles t (omega arith) h, sum_by-cons (times p) ps tiles)

counted_is : (m : ℕ) (b : Bool) → m ≡ (if b then 1 else 0) → 1 ≤ m → b ≡ true
counted_is m true e h = refl
counted_is m false e h = absurd (omega arith)

-- a pair in some tile is two atoms of the frame, the lower first
is_listed_pair : (bits : CellBits) (frame : List Place3) (p : ℕ × ℕ) → Covers bits frame → 1 ≤ times_in_all p (tile_pairs bits frame) → IsPairOf (length frame) p
is_listed_pair bits frame p covers h =
    let n = length frame in
    let both = and_parts (is_pair n p) (are_close bits frame p) (counted_is (times_in_all p (tile_pairs bits frame)) (is_pair n p && are_close bits frame p) (covers p) h) in
    let parts = and_parts (nat_lt p.0 p.1) (nat_lt p.1 n) both.0 in
    (ltb-true p.0 p.1 parts.0, ltb-true p.1 n parts.1)

are_listed_pairs : (bits : CellBits) (frame : List Place3) → Covers bits frame → All (All (IsPairOf (length frame))) (tile_pairs bits frame)
are_listed_pairs bits frame covers =
    let n = length frame in
    let tiles = tile_pairs bits frame in
    All-from_get_or (All (IsPairOf n)) tiles []
    (λ t lt.
    let ps = get_or tiles t [] in
    All-from_get_or (IsPairOf n) ps (0, 0)
    (λ k below. is_listed_pair bits frame (get_or ps k (0, 0)) covers (listed_in_all (get_or ps k (0, 0)) tiles t lt (listed ps k below))))

-- if near atoms are in neighbouring cells, the pairs of the tiles are lists of those that act
pub tiles_listed : (bits : CellBits) (d : Reach) (b : RingBox) (frame : List Place3) → IsGrid bits → All ArePlaces frame → NearAreNeighbours d.frac b d.cutoff bits
    → AreListsOf (length frame) (pair_acts d b frame) (tile_pairs bits frame)
tiles_listed bits d b frame grid places law =
    record {
      inside = are_listed_pairs bits frame (covers bits frame grid places);
      sums = λ f pairs are idle. sums_as_all bits frame grid places f pairs are (λ p far. idle p (far_is_idle bits d b frame p places law far));
    }
