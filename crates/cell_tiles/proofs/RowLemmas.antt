-- The rows of pairs of two lists of atoms: which pairs interact, if some rows have no interacting pair, and if other
-- atoms replace the second list.
use Rattle.std.proofs.Common.{◌≡◌, ℕ, zero, suc, ◌+◌, ◌*◌, ◌-◌, ◌<◌, ◌≤◌, Bool, List, [], ◌∷◌, ◌++◌, length, get_or, take, drop, filter, refl, subst, sym, ap, ◌∙◌, ⊎_elim, arith, append-nil, take-add, All}
use Rattle.std.specs.Int.{bit_at}
use Rattle.std.proofs.lemmas.Bool.{cases_lt}
use Rattle.std.proofs.lemmas.Grind.{flat_map-append}
use Rattle.std.proofs.Math.Seq.{drop-append_seam}
use Rattle.std.proofs.lemmas.List.{drop-drop, get_or-append-add, get_or_append_left, length-append, length-map, take-append-drop, take-take, take_more}
use Rattle.std.proofs.lemmas.Nat.{mul-le}
use Rattle.std.proofs.lemmas.List.Elements.{All-drop, All-take, filter-append}
use Rattle.cell_tiles.specs.Tiles.{pair_of, pairs_between, pairs_with}

module _ (acts : ℕ × ℕ → Bool) (xs ys : List ℕ) where
  -- one row more
  pub row_more : (n : ℕ) → n < length xs → filter acts (pairs_between (take (n + 1) xs) ys) ≡ filter acts (pairs_between (take n xs) ys) ++ filter acts (pairs_with (get_or xs n 0) ys)
  row_more n lt =
      let row = pairs_with (get_or xs n 0) ys in
      ap (λ zs. filter acts (pairs_between zs ys)) (take_more xs n 0 lt)
      ∙ ap (filter acts) (flat_map-append (λ (a : ℕ). pairs_with a ys) (take n xs) (get_or xs n 0 ∷ []))
      ∙ filter-append acts (pairs_between (take n xs) ys) (row ++ [])
      ∙ ap (λ ps. filter acts (pairs_between (take n xs) ys) ++ filter acts ps) (append-nil row)

  -- rows in which none acts are passed
  pub rows_passed : (n d : ℕ) → n + d ≤ length xs → ((k : ℕ) → n ≤ k → k < n + d → filter acts (pairs_with (get_or xs k 0) ys) ≡ []) → filter acts (pairs_between (take (n + d) xs) ys) ≡ filter acts (pairs_between (take n xs) ys)
  rows_passed n zero within idle = let e : n + 0 ≡ n = omega arith in ap (λ m. filter acts (pairs_between (take m xs) ys)) e
  rows_passed n (suc d) within idle =
      let e : n + suc d ≡ n + d + 1 = omega arith in
      ap (λ m. filter acts (pairs_between (take m xs) ys)) e
      ∙ row_more (n + d) (omega arith)
      ∙ ap (λ ps. filter acts (pairs_between (take (n + d) xs) ys) ++ ps) (idle (n + d) (omega arith) (omega arith))
      ∙ append-nil (filter acts (pairs_between (take (n + d) xs) ys))
      ∙ rows_passed n d (omega arith) (λ k le lt. idle k le (omega arith))

  -- up to the row r, before which none acts, and with it
  pub rows_on : (n r : ℕ) → n ≤ r → r < length xs → ((k : ℕ) → n ≤ k → k < r → filter acts (pairs_with (get_or xs k 0) ys) ≡ [])
      → filter acts (pairs_between (take (r + 1) xs) ys) ≡ filter acts (pairs_between (take n xs) ys) ++ filter acts (pairs_with (get_or xs r 0) ys)
  rows_on n r le lt idle =
      let d = r - n in
      let e : n + d ≡ r = omega arith in
      let before : filter acts (pairs_between (take r xs) ys) ≡ filter acts (pairs_between (take n xs) ys) =
      ap (λ m. filter acts (pairs_between (take m xs) ys)) (sym e) ∙ rows_passed n d (omega arith) (λ k ge below. idle k ge (omega arith)) in
      row_more r lt ∙ ap (λ ps. ps ++ filter acts (pairs_with (get_or xs r 0) ys)) before

-- a bit that is set is none of those that are passed
pub not_passed : (bits r next : ℕ) → ((k : ℕ) → k < next → bit_at bits k ≡ 0) → bit_at bits r ≡ 1 → next ≤ r
not_passed bits r next passed set =
    ⊎_elim (λ lt. let z : ◌≡◌ {A = ℕ} 0 1 = sym (passed r lt) ∙ set in absurd (omega (arith, z))) (λ le. le) (cases_lt r next)

-- the interacting pairs of rows `from` to `next`, followed by the interacting pairs of the next `seen` rows
pub rows_behind : (acts : ℕ × ℕ → Bool) (xs ys : List ℕ) (from next end seen : ℕ) → from ≤ next → seen ≤ end - next
    → filter acts (pairs_between (take (next + seen - from) (drop from xs)) ys) ≡ filter acts (pairs_between (take (next - from) (drop from xs)) ys) ++ filter acts (pairs_between (take seen (take (end - next) (drop next xs))) ys)
rows_behind acts xs ys from next end seen ge within =
    let m = next - from in
    let zs = drop from xs in
    let e : next + seen - from ≡ m + seen = omega arith in
    let f : from + m ≡ next = omega arith in
    let there : drop m zs ≡ drop next xs = drop-drop m from xs ∙ ap (λ k. drop k xs) f in
    let part : take seen (drop m zs) ≡ take seen (take (end - next) (drop next xs)) = ap (take seen) there ∙ sym (take-take seen (end - next) (drop next xs) within) in
    ap (λ k. filter acts (pairs_between (take k zs) ys)) e
    ∙ ap (λ l. filter acts (pairs_between l ys)) (take-add m seen zs)
    ∙ ap (filter acts) (flat_map-append (λ (a : ℕ). pairs_with a ys) (take m zs) (take seen (drop m zs)))
    ∙ filter-append acts (pairs_between (take m zs) ys) (pairs_between (take seen (drop m zs)) ys)
    ∙ ap (λ l. filter acts (pairs_between (take m zs) ys) ++ filter acts (pairs_between l ys)) part

-- the rows of two lists from one row on
pub rows_from_row : (xs ys : List ℕ) (row : ℕ) → row ≤ length xs → drop (row * length ys) (pairs_between xs ys) ≡ pairs_between (drop row xs) ys
rows_from_row xs ys zero h = let e : 0 * length ys ≡ 0 = omega arith in ap (λ k. drop k (pairs_between xs ys)) e
rows_from_row [] ys (suc row) h = absurd (omega arith)
rows_from_row (x ∷ xs) ys (suc row) h =
    let first = pairs_with x ys in
    let long : length first ≡ length ys = length-map ys (pair_of x) in
    let e : suc row * length ys ≡ length first + row * length ys = omega (arith, long) in
    ap (λ k. drop k (first ++ pairs_between xs ys)) e
    ∙ sym (drop-drop (row * length ys) (length first) (first ++ pairs_between xs ys))
    ∙ ap (drop (row * length ys)) (drop-append_seam first (pairs_between xs ys))
    ∙ rows_from_row xs ys row (omega arith)

-- if each atom of the first list has the same interacting pairs with ys as with zs, so have all rows together
pub same_rows : (acts : ℕ × ℕ → Bool) (xs ys zs : List ℕ) → All (λ a. filter acts (pairs_with a ys) ≡ filter acts (pairs_with a zs)) xs → filter acts (pairs_between xs ys) ≡ filter acts (pairs_between xs zs)
same_rows acts [] ys zs all = refl
same_rows acts (x ∷ xs) ys zs all =
    let first : filter acts (pairs_with x ys) ≡ filter acts (pairs_with x zs) = all 0 0 (omega arith) in
    filter-append acts (pairs_with x ys) (pairs_between xs ys)
    ∙ ap (λ ps. ps ++ filter acts (pairs_between xs ys)) first
    ∙ ap (λ ps. filter acts (pairs_with x zs) ++ ps) (same_rows acts xs ys zs (λ k d lt. all (suc k) d (omega arith)))
    ∙ sym (filter-append acts (pairs_with x zs) (pairs_between xs zs))

-- the interacting pairs from `row` on are the ones of `near` (the rows before `next`), then the ones from `next` on
pub between_near : (acts : ℕ × ℕ → Bool) (xs ys zs : List ℕ) (near : List (ℕ × ℕ)) (row next : ℕ) → row ≤ next → next ≤ length xs → filter acts near ≡ filter acts (pairs_between (take (next - row) (drop row xs)) zs)
    → All (λ a. filter acts (pairs_with a zs) ≡ filter acts (pairs_with a ys)) xs → filter acts (drop (row * length ys) (pairs_between xs ys)) ≡ filter acts near ++ filter acts (drop (next * length ys) (pairs_between xs ys))
between_near acts xs ys zs near row next le within found same =
    let m = next - row in
    let part = take m (drop row xs) in
    let f : row + m ≡ next = omega arith in
    let behind : drop m (drop row xs) ≡ drop next xs = drop-drop m row xs ∙ ap (λ k. drop k xs) f in
    let each = All-take (λ a. filter acts (pairs_with a zs) ≡ filter acts (pairs_with a ys)) m (drop row xs) (All-drop (λ a. filter acts (pairs_with a zs) ≡ filter acts (pairs_with a ys)) row xs same) in
    ap (filter acts) (rows_from_row xs ys row (omega arith))
    ∙ ap (λ l. filter acts (pairs_between l ys)) (sym (take-append-drop m (drop row xs)))
    ∙ ap (filter acts) (flat_map-append (λ (a : ℕ). pairs_with a ys) part (drop m (drop row xs)))
    ∙ filter-append acts (pairs_between part ys) (pairs_between (drop m (drop row xs)) ys)
    ∙ ap (λ ps. ps ++ filter acts (pairs_between (drop m (drop row xs)) ys)) (sym (found ∙ same_rows acts part zs ys each))
    ∙ ap (λ ps. filter acts near ++ filter acts ps) (ap (λ l. pairs_between l ys) behind ∙ sym (rows_from_row xs ys next within))

-- a later row begins later
pub more_rows : (row next w : ℕ) → row < next → 0 < w → row * w < next * w
more_rows row next w lt some = let m : (row + 1) * w ≤ next * w = mul-le (row + 1) w next w (omega arith) (omega arith) in omega arith

-- if a property holds for all pairs of two lists, it holds for the pairs of each row
pub each_row : (P : ℕ × ℕ → Type 0) (xs ys : List ℕ) → All P (pairs_between xs ys) → All (λ a. All P (pairs_with a ys)) xs
each_row P [] ys all k d lt = absurd (omega arith)
each_row P (x ∷ xs) ys all zero d lt = λ i e below.
    subst P (get_or_append_left (pairs_with x ys) (pairs_between xs ys) e i below) (all i e (omega (arith, length-append (pairs_with x ys) (pairs_between xs ys), below)))
each_row P (x ∷ xs) ys all (suc k) d lt =
    each_row P xs ys
    (λ i e below.
    subst P (get_or-append-add (pairs_with x ys) (pairs_between xs ys) i e)
    (all (length (pairs_with x ys) + i) e (omega (arith, length-append (pairs_with x ys) (pairs_between xs ys), below))))
    k d (omega arith)
