-- A step of a walk over the pairs of a tile.
use Rattle.std.proofs.Common.{◌≡◌, ℕ, ◌+◌, ◌*◌, ◌-◌, ◌/◌, ◌%◌, ◌<◌, ◌≤◌, Bool, true, false, List, ◌++◌, length, length-drop, get_or, drop, take, refl, sym, ap, ◌∙◌, ⊎_elim, arith}
use Rattle.std.proofs.lemmas.Bool.{cases_lt}
use Rattle.std.proofs.lemmas.List.{get_or-drop, get_or-map, get_or-take, length-map, length-take-le}
use Rattle.std.proofs.lemmas.List.Prefix.{at_from_reads}
use Rattle.std.proofs.lemmas.Nat.{div-add-mod', mod_below, mul-le}
use Rattle.cell_tiles.specs.Tiles.{pair_of, pairs_between, pairs_with}
use Rattle.cell_tiles.specs.Walks.{IsPositionOf, IsWalk, last_of, pairs_over, width_of}
use Rattle.cell_tiles.proofs.NumberLemmas.{among_row, get_among, get_between, length_among, length_between}

-- ---- the row and column of a pair

-- the row of a pair's number is one of the first list's atoms
pub position_row : (one : Bool) (xs ys : List ℕ) (row column k : ℕ) → IsPositionOf one xs ys row column k → k < length (pairs_over one xs ys) → row < length xs
position_row true xs ys row column k p h = among_row xs column row k p.1.0 p.1.1 h
position_row false xs ys row column k p h =
    let l = length_between xs ys in
    let n : k ≡ row * length ys + column = p.1 in
    ⊎_elim (λ lt. lt) (λ le. let m : length xs * length ys ≤ row * length ys = mul-le (length xs) (length ys) row (length ys) le (omega arith) in absurd (omega arith)) (cases_lt row (length xs))

position_pair : (one : Bool) (xs ys : List ℕ) (row column k : ℕ) → IsPositionOf one xs ys row column k → k < length (pairs_over one xs ys) → get_or (pairs_over one xs ys) k (0, 0) ≡ pair_of (get_or xs row 0) (get_or ys column 0)
position_pair true xs ys row column k p h =
    get_among xs (length xs) column row k (omega arith) p.1.0 (position_row true xs ys row column k p h) p.1.1
    ∙ ap (λ zs. pair_of (get_or xs row 0) (get_or zs column 0)) (sym p.0)
position_pair false xs ys row column k p h = get_between xs ys row column k (position_row false xs ys row column k p h) p.0 p.1

-- ---- the rest of a walk

-- a walk with pairs left is in a row of the first list
pub walk_row : {one : Bool} {xs ys : List ℕ} {row column width left : ℕ} → IsWalk one xs ys row column width left → 0 < left → row < length xs
walk_row {one} {xs} {ys} {row} {column} {width} {left} w h =
    let l : left ≤ length (pairs_over one xs ys) = w.within in
    position_row one xs ys row column (length (pairs_over one xs ys) - left) (w.position h) (omega arith)

-- the column is below the row's width, and the row is no longer than the second list
row_columns : (one : Bool) (xs ys : List ℕ) (row column k : ℕ) → IsPositionOf one xs ys row column k → k < length (pairs_over one xs ys) → (column < width_of one ys row) × (width_of one ys row ≤ length ys)
row_columns true xs ys row column k p h =
    let r : row < length xs = position_row true xs ys row column k p h in
    let e : length ys ≡ length xs = ap length p.0 in
    (p.1.0, omega arith)
row_columns false xs ys row column k p h = (p.0, omega arith)

-- the rest of a row isn't more than the rest of the pairs
row_within : (one : Bool) (xs ys : List ℕ) (row column k : ℕ) → IsPositionOf one xs ys row column k → k < length (pairs_over one xs ys) → k + (width_of one ys row - column) ≤ length (pairs_over one xs ys)
row_within true xs ys row column k p h =
    let r : row < length xs = position_row true xs ys row column k p h in
    let c : column < row = p.1.0 in
    let e : 2 * k + row ≡ row * row + 2 * column = p.1.1 in
    let l = length_among xs (length xs) (omega arith) in
    let m = length xs - 1 in
    let f : length xs ≡ m + 1 = omega arith in
    let g : (row + 1) * row ≤ (m + 1) * m = mul-le (row + 1) row (m + 1) m (omega arith) (omega arith) in
    let n : 2 * length (pairs_over true xs ys) + (m + 1) ≡ (m + 1) * (m + 1) = rw (← f) l in
    omega (arith, g, n, e, c)
row_within false xs ys row column k p h =
    let r : row < length xs = position_row false xs ys row column k p h in
    let l = length_between xs ys in
    let e : k ≡ row * length ys + column = p.1 in
    let g : (row + 1) * length ys ≤ length xs * length ys = mul-le (row + 1) (length ys) (length xs) (length ys) (omega arith) (omega arith) in
    omega (arith, g, l, e, p.0)

-- the positions of a row follow one another
along_row : (one : Bool) (xs ys : List ℕ) (row column k j : ℕ) → IsPositionOf one xs ys row column k → column + j < width_of one ys row → IsPositionOf one xs ys row (column + j) (k + j)
along_row true xs ys row column k j p h = let e : 2 * k + row ≡ row * row + 2 * column = p.1.1 in (p.0, (omega arith, omega (arith, e)))
along_row false xs ys row column k j p h = let e : k ≡ row * length ys + column = p.1 in (omega arith, omega (arith, e))

-- the first number after a row is in column 0 of the next row
next_position : (one : Bool) (xs ys : List ℕ) (row column k : ℕ) → IsPositionOf one xs ys row column k → IsPositionOf one xs ys (row + 1) 0 (k + (width_of one ys row - column))
next_position true xs ys row column k p =
    let c : column < row = p.1.0 in
    let e : 2 * k + row ≡ row * row + 2 * column = p.1.1 in
    (p.0, (omega arith, omega (arith, e, c)))
next_position false xs ys row column k p = let e : k ≡ row * length ys + column = p.1 in (omega (arith, p.0), omega (arith, e, p.0))

-- the pairs from the number k on are the rest of its row, then the pairs after this row
row_pairs : (one : Bool) (xs ys : List ℕ) (row column k : ℕ) → IsPositionOf one xs ys row column k → k < length (pairs_over one xs ys)
    → drop k (pairs_over one xs ys) ≡ pairs_with (get_or xs row 0) (take (width_of one ys row - column) (drop column ys)) ++ drop (k + (width_of one ys row - column)) (pairs_over one xs ys)
row_pairs one xs ys row column k p h =
    let n = width_of one ys row - column in
    let zs = take n (drop column ys) in
    let ps = pairs_with (get_or xs row 0) zs in
    let columns = row_columns one xs ys row column k p h in
    let within = row_within one xs ys row column k p h in
    let some : length zs ≡ n = length-take-le n (drop column ys) (omega (arith, length-drop column ys, columns.0, columns.1)) in
    let many : length ps ≡ n = length-map zs (pair_of (get_or xs row 0)) ∙ some in
    let cut = at_from_reads (0, 0) (pairs_over one xs ys) ps k (omega (arith, many, within))
    (λ j lt.
    let below : j < n = omega (arith, many, lt) in
    let inside : column + j < width_of one ys row = omega (arith, columns.0, below) in
    let here = along_row one xs ys row column k j p inside in
    let other : get_or zs j 0 ≡ get_or ys (column + j) 0 = get_or-take n (drop column ys) j 0 below ∙ get_or-drop column ys j 0 in
    position_pair one xs ys row (column + j) (k + j) here (omega (arith, within, below))
    ∙ sym (get_or-map (pair_of (get_or xs row 0)) zs j 0 (0, 0) (omega (arith, some, below)) ∙ ap (pair_of (get_or xs row 0)) other)) in
    cut ∙ ap (λ m. ps ++ drop (k + m) (pairs_over one xs ys)) many

-- ---- a row of a walk

-- a walk with pairs left is in a column of its row, and the row is no longer than the second list
pub walk_columns : {one : Bool} {xs ys : List ℕ} {row column width left : ℕ} → IsWalk one xs ys row column width left → 0 < left → (column < width) × (width ≤ length ys)
walk_columns {one} {xs} {ys} {row} {column} {width} {left} w h =
    let l : left ≤ length (pairs_over one xs ys) = w.within in
    rw w.width_is (row_columns one xs ys row column (length (pairs_over one xs ys) - left) (w.position h) (omega arith))

-- the rest of the row isn't more than the rest of the walk
pub walk_within : {one : Bool} {xs ys : List ℕ} {row column width left : ℕ} → IsWalk one xs ys row column width left → 0 < left → width - column ≤ left
walk_within {one} {xs} {ys} {row} {column} {width} {left} w h =
    let l : left ≤ length (pairs_over one xs ys) = w.within in
    let r = row_within one xs ys row column (length (pairs_over one xs ys) - left) (w.position h) (omega arith) in
    let s : length (pairs_over one xs ys) - left + (width - column) ≤ length (pairs_over one xs ys) = rw w.width_is r in
    omega (arith, s, l)

-- the remaining pairs are the rest of the row, then the pairs of the later rows
pub walk_pairs : {one : Bool} {xs ys : List ℕ} {row column width left : ℕ} → IsWalk one xs ys row column width left → 0 < left
    → last_of left (pairs_over one xs ys) ≡ pairs_with (get_or xs row 0) (take (width - column) (drop column ys)) ++ last_of (left - (width - column)) (pairs_over one xs ys)
walk_pairs {one} {xs} {ys} {row} {column} {width} {left} w h =
    let ps = pairs_over one xs ys in
    let l : left ≤ length ps = w.within in
    let t = walk_within w h in
    let e : length ps - left + (width - column) ≡ length ps - (left - (width - column)) = omega (arith, l, t) in
    let r = row_pairs one xs ys row column (length ps - left) (w.position h) (omega arith) in
    let q : last_of left ps ≡ pairs_with (get_or xs row 0) (take (width - column) (drop column ys)) ++ drop (length ps - left + (width - column)) ps = rw w.width_is r in
    q ∙ ap (λ n. pairs_with (get_or xs row 0) (take (width - column) (drop column ys)) ++ drop n ps) e

-- after the rest of a row, the walk is at the start of the next row
pub walk_on : {one : Bool} {xs ys : List ℕ} {row column width left : ℕ} (r c n : ℕ) → IsWalk one xs ys row column width left → 0 < left → r ≡ row + 1 → c ≡ 0 → n ≡ width_of one ys (row + 1) → IsWalk one xs ys r c n (left - (width - column))
walk_on {one} {xs} {ys} {row} {column} {width} {left} r c n w h e f g =
    let ps = pairs_over one xs ys in
    let l : left ≤ length ps = w.within in
    let t = walk_within w h in
    let next = next_position one xs ys row column (length ps - left) (w.position h) in
    let k : length ps - left + (width - column) ≡ length ps - (left - (width - column)) = omega (arith, l, t) in
    let at : IsPositionOf one xs ys (row + 1) 0 (length ps - left + (width - column)) = rw w.width_is next in
    record {
      few = w.few;
      within = omega (arith, l);
      width_is = rw e g;
      position = λ some. rw (e, f, ← k) at;
    }

-- ---- the start of a walk

-- if the second list has atoms, a walk from the number k on is at the row and column of k
pub between_start : (xs ys : List ℕ) (k : ℕ) → length xs ≤ 65536 → 0 < length ys → k ≤ length (pairs_between xs ys) → IsWalk false xs ys (k / length ys) (k % length ys) (length ys) (length (pairs_between xs ys) - k)
between_start xs ys k f some h = record {
  few = f;
  within = omega arith;
  width_is = refl;
  position = λ l. (mod_below k (length ys) some, omega (arith, div-add-mod' k (length ys)));
}

-- if the second list is empty, the walk is at row 0 and column 0, and no pair is left
pub between_nothing : (xs ys : List ℕ) (k : ℕ) → length xs ≤ 65536 → length ys ≡ 0 → k ≤ length (pairs_between xs ys) → IsWalk false xs ys 0 0 (length ys) (length (pairs_between xs ys) - k)
between_nothing xs ys k f none h =
    let n : length (pairs_between xs ys) ≡ 0 = length_between xs ys ∙ (ap (λ n. length xs * n) none ∙ zeros (length xs)) in
    record {
      few = f;
      within = omega arith;
      width_is = refl;
      position = λ l. absurd (omega arith);
    }
  where
    zeros : (n : ℕ) → n * 0 ≡ 0
    zeros n = omega arith
