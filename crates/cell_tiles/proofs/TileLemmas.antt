-- The tiles of a grid, one after another.
use Rattle.std.proofs.Common.{◌≡◌, ℕ, zero, suc, ◌+◌, ◌-◌, ◌<◌, ◌≤◌, Bool, true, false, cond, List, [], ◌∷◌, ◌++◌, length, map, filter, get_or, refl, sym, ap, subst, ◌∙◌, arith, add-one, append-nil, append_assoc, slice_get, Some, All, flat_map, option_map}
use Rattle.std.proofs.lemmas.List.{length-map, map-append}
use Rattle.std.proofs.lemmas.List.Concat.{flat_map-append}
use Rattle.std.proofs.lemmas.List.Elements.{All-append, All-filter, All-get_or, All-map, All-nil, All-same, All-weaker, filter-append}
use Rattle.std.proofs.lemmas.List.Sorted.{All-permutation}
use Rattle.std.proofs.lemmas.Option.{get_or_from_slice_get, slice_get-map, slice_get_read, slice_get_within}
use Rattle.ring_box.specs.declared.vectors.CellBits.{CellBits}
use Rattle.cell_tiles.specs.Cells.{are_near, cells_of, numbers_below}
use Rattle.cell_tiles.specs.Tiles.{AreFar, by_quarters, tiles_by_cell, tiles_of, tiles_with}
use Rattle.cell_tiles.proofs.TurnLaws.{map_quarters, quarters_move}
use Rattle.cell_tiles.proofs.CountLemmas.{below_more, below_suc, below_zero, numbers_are_below, one_filtered}

-- the tiles of the cell d with the cells below n
abbrev pub with_below : CellBits → ℕ → ℕ → List (ℕ × ℕ)
with_below bits d n = map (λ c. (c, d)) (filter (λ c. are_near bits c d) (numbers_below n))

-- the tiles of the cells below n, each with the cells up to it
abbrev pub all_below : CellBits → ℕ → List (ℕ × ℕ)
all_below bits n = flat_map (tiles_with bits) (numbers_below n)

-- ---- one more

-- before the first cell there is no tile with d
pub with_none : (bits : CellBits) (d : ℕ) (ts : List (ℕ × ℕ)) → ts ≡ ts ++ with_below bits d 0
with_none bits d ts =
    let e : with_below bits d 0 ≡ [] = ap (λ xs. map (λ c. (c, d)) (filter (λ c. are_near bits c d) xs)) below_zero in
    sym (ap (λ us. ts ++ us) e ∙ append-nil ts)

with_more : (bits : CellBits) (d n : ℕ) (b : Bool) → are_near bits n d ≡ b → with_below bits d (n + 1) ≡ with_below bits d n ++ map (λ c. (c, d)) (cond b (n ∷ []) [])
with_more bits d n b e =
    ap (λ xs. map (λ c. (c, d)) (filter (λ c. are_near bits c d) xs)) (below_more n)
    ∙ (ap (map (λ c. (c, d))) (filter-append (λ c. are_near bits c d) (numbers_below n) (n ∷ []) ∙ ap (λ xs. filter (λ c. are_near bits c d) (numbers_below n) ++ xs) (one_filtered (λ c. are_near bits c d) n b e))
    ∙ map-append (λ c. (c, d)) (filter (λ c. are_near bits c d) (numbers_below n)) (cond b (n ∷ []) []))

-- a cell near d makes one tile more
pub with_near : (bits : CellBits) (d n : ℕ) (ts : List (ℕ × ℕ)) → are_near bits n d ≡ true → (ts ++ with_below bits d n) ++ (n, d) ∷ [] ≡ ts ++ with_below bits d (n + 1)
with_near bits d n ts e = append_assoc ts (with_below bits d n) ((n, d) ∷ []) ∙ ap (λ us. ts ++ us) (sym (with_more bits d n true e))

-- cells that aren't near d make none, one after another
far_run : (bits : CellBits) (d n k : ℕ) → AreFar bits d n (n + k) → with_below bits d n ≡ with_below bits d (n + k)
far_run bits d n zero far = ap (with_below bits d) (omega arith)
far_run bits d n (suc k) far =
    far_run bits d n k (λ e le lt. far e le (omega arith))
    ∙ (sym (with_more bits d (n + k) false (far (n + k) (omega arith) (omega arith)) ∙ append-nil (with_below bits d (n + k))) ∙ ap (with_below bits d) (omega arith))

pub with_run : (bits : CellBits) (d n m : ℕ) (ts : List (ℕ × ℕ)) → n < m → AreFar bits d n m → ts ++ with_below bits d n ≡ ts ++ with_below bits d m
with_run bits d n m ts le far =
    let end : n + (m - n) ≡ m = omega arith in
    ap (λ us. ts ++ us) (far_run bits d n (m - n) (λ e p q. far e p (omega arith)) ∙ ap (with_below bits d) end)

-- with the cells up to d all tiles of d are there
pub with_all : (bits : CellBits) (d : ℕ) → with_below bits d (d + 1) ≡ tiles_with bits d
with_all bits d = ap (with_below bits d) (add-one d)

-- before the first cell there is no tile
pub all_none : (bits : CellBits) → [] ≡ all_below bits 0
all_none bits = sym (ap (flat_map (tiles_with bits)) below_zero)

flat_suc : (bits : CellBits) (n : ℕ) → all_below bits (suc n) ≡ all_below bits n ++ tiles_with bits n
flat_suc bits n =
    ap (flat_map (tiles_with bits)) (below_suc n)
    ∙ (flat_map-append (tiles_with bits) (numbers_below n) (n ∷ []) ∙ ap (λ ts. all_below bits n ++ ts) (append-nil (tiles_with bits n)))

-- one cell more brings its tiles
pub all_more : (bits : CellBits) (n : ℕ) → all_below bits n ++ tiles_with bits n ≡ all_below bits (n + 1)
all_more bits n = sym (ap (all_below bits) (add-one n) ∙ flat_suc bits n)

-- the quarters in turn of a list of all tiles are the tiles in their order
pub all_turned : {T : Type 0} (bits : CellBits) (view : T → ℕ × ℕ) (n : ℕ) (xs ys : List T) → n ≡ cells_of bits → map view xs ≡ all_below bits n → ys ≡ by_quarters xs → map view ys ≡ tiles_of bits
all_turned bits view n xs ys end all mixed = ap (map view) mixed ∙ (map_quarters view xs ∙ ap by_quarters (all ∙ ap (all_below bits) end))

-- ---- the cells of a tile are in order, and are cells

abbrev IsTileBelow : ℕ → ℕ × ℕ → Type 0
IsTileBelow n t = (t.0 ≤ t.1) × (t.1 < n)

tiles_with_below : (bits : CellBits) (d n : ℕ) → d < n → All (IsTileBelow n) (tiles_with bits d)
tiles_with_below bits d n h =
    All-map (IsTileBelow n) (λ c. (c, d)) (filter (λ c. are_near bits c d) (numbers_below (suc d)))
    (All-weaker (λ c. c < suc d) (λ c. IsTileBelow n (c, d)) (λ c lt. (omega arith, h)) (filter (λ c. are_near bits c d) (numbers_below (suc d)))
    (All-filter (λ c. are_near bits c d) (λ c. c < suc d) (numbers_below (suc d)) (numbers_are_below (suc d))))

tiles_are_below : (bits : CellBits) (n : ℕ) → All (IsTileBelow n) (all_below bits n)
tiles_are_below bits zero = All-same (IsTileBelow 0) (all_below bits 0) [] (sym (all_none bits)) (All-nil (IsTileBelow 0))
tiles_are_below bits (suc n) =
    All-same (IsTileBelow (suc n)) (all_below bits (suc n)) (all_below bits n ++ tiles_with bits n) (flat_suc bits n)
    (All-append (IsTileBelow (suc n)) (all_below bits n) (tiles_with bits n)
    (All-weaker (IsTileBelow n) (IsTileBelow (suc n)) (λ t h. let l : t.1 < n = h.1 in (h.0, omega arith)) (all_below bits n) (tiles_are_below bits n))
    (tiles_with_below bits n (suc n) (omega arith)))

-- the tile that is read from a list of which ts is the view
pub tile_read : {T : Type 0} (view : T → ℕ × ℕ) (xs : List T) (ts : List (ℕ × ℕ)) (k : ℕ) (x : T) → map view xs ≡ ts → k < length ts → x ≡ get_or xs k x → slice_get ts k ≡ Some (view x)
tile_read view xs ts k x e lt r =
    let l : length (map view xs) ≡ length ts = ap length e in
    let m : length (map view xs) ≡ length xs = length-map xs view in
    ap (λ us. slice_get us k) (sym e) ∙ (slice_get-map view xs k ∙ ap (option_map view) (slice_get_read xs (length xs) k x refl (omega arith) r))

-- a tile has two cells of the grid, the lower number first
pub tile_at : (bits : CellBits) (k c d : ℕ) → slice_get (tiles_of bits) k ≡ Some (c, d) → (c ≤ d) × (d < cells_of bits)
tile_at bits k c d e =
    let lt = slice_get_within (tiles_of bits) k (c, d) e in
    subst (IsTileBelow (cells_of bits)) (get_or_from_slice_get (tiles_of bits) k (c, d) (0, 0) e) (All-get_or (IsTileBelow (cells_of bits)) (tiles_of bits) k (0, 0) lt (All-permutation (IsTileBelow (cells_of bits)) (tiles_by_cell bits) (tiles_of bits) (quarters_move (tiles_by_cell bits)) (tiles_are_below bits (cells_of bits))))
