-- How many pairs lists have, and which pair has a number.
use Rattle.std.proofs.Common.{◌≡◌, ℕ, zero, suc, ◌+◌, ◌*◌, ◌/◌, ◌%◌, ◌-◌, ◌<◌, ◌≤◌, ◌⊎◌, inl, inr, List, [], ◌∷◌, ◌++◌, length, take, get_or, Some, refl, sym, ap, ◌∙◌, ⊎_elim, arith, slice_get}
use Rattle.std.proofs.lemmas.Bool.{cases_lt, cases_eq}
use Rattle.std.proofs.lemmas.List.{length-append, length-map, length-take-le, get_or-map, get_or-take, get_or_append_left, get_or-append_right}
use Rattle.std.proofs.lemmas.Nat.{mul-le, div_below, mod_below, div-add-mod'}
use Rattle.std.proofs.lemmas.Option.{slice_get-get_or}
use Rattle.fixed.specs.Roots.{IsSquareRoot}
use Rattle.cell_tiles.specs.Tiles.{pair_of, pairs_among, pairs_between, pairs_with}
use Rattle.cell_tiles.proofs.PairLemmas.{among_none, among_suc}

length_with : (a : ℕ) (bs : List ℕ) → length (pairs_with a bs) ≡ length bs
length_with a bs = length-map bs (pair_of a)

-- ---- two lists

-- the number of pairs of two lists is the product of their lengths
pub length_between : (xs ys : List ℕ) → length (pairs_between xs ys) ≡ length xs * length ys
length_between [] ys = omega arith
length_between (x ∷ xs) ys = omega (arith, length-append (pairs_with x ys) (pairs_between xs ys), length_with x ys, length_between xs ys)

-- if two lists have a pair, the second list has an atom
pub between_some : (xs ys : List ℕ) (k : ℕ) → k < length (pairs_between xs ys) → 0 < length ys
between_some xs ys k h = grind (arith, length_between xs ys)

-- the row of a number is an atom of the first list
pub between_row : (xs ys : List ℕ) (k : ℕ) → k < length (pairs_between xs ys) → k / length ys < length xs
between_row xs ys k h = let l = length_between xs ys in div_below k (length ys) (length xs) (between_some xs ys k h) (omega arith)

-- its column is an atom of the second
pub between_column : (xs ys : List ℕ) (k : ℕ) → k < length (pairs_between xs ys) → k % length ys < length ys
between_column xs ys k h = mod_below k (length ys) (between_some xs ys k h)

-- the pair with the number of row i and column j consists of the first list's atom i and the second list's atom j
pub get_between : (xs ys : List ℕ) (i j n : ℕ) → i < length xs → j < length ys → n ≡ i * length ys + j → get_or (pairs_between xs ys) n (0, 0) ≡ pair_of (get_or xs i 0) (get_or ys j 0)
get_between [] ys i j n p q e = absurd (omega arith)
get_between (x ∷ xs) ys zero j n p q e =
    let l = length_with x ys in
    let same : n ≡ j = omega arith in
    get_or_append_left (pairs_with x ys) (pairs_between xs ys) (0, 0) n (omega arith)
    ∙ (ap (λ m. get_or (pairs_with x ys) m (0, 0)) same ∙ get_or-map (pair_of x) ys j 0 (0, 0) q)
get_between (x ∷ xs) ys (suc i) j n p q e =
    let l = length_with x ys in
    let more : n ≡ length ys + (i * length ys + j) = omega arith in
    get_or-append_right (pairs_with x ys) (pairs_between xs ys) (length ys) n (0, 0) l (omega arith)
    ∙ get_between xs ys i j (n - length ys) (omega arith) q (omega arith)

-- the pair with the number k consists of the atoms at its row, k / length ys, and its column, k % length ys
pub between_at : (xs ys : List ℕ) (k : ℕ) → k < length (pairs_between xs ys) → slice_get (pairs_between xs ys) k ≡ Some (pair_of (get_or xs (k / length ys) 0) (get_or ys (k % length ys) 0))
between_at xs ys k h =
    slice_get-get_or (pairs_between xs ys) k (0, 0) h
    ∙ ap Some (get_between xs ys (k / length ys) (k % length ys) k (between_row xs ys k h) (between_column xs ys k h) (sym (div-add-mod' k (length ys))))

-- ---- one list

-- m atoms of one list make half of m * m - m pairs
pub length_among : (xs : List ℕ) (m : ℕ) → m ≤ length xs → 2 * length (pairs_among xs m) + m ≡ m * m
length_among xs zero h = rw (among_none xs) (omega arith)
length_among xs (suc m) h =
    rw (among_suc xs m) (omega (arith, length_among xs m (omega arith), length-append (pairs_among xs m) (pairs_with (get_or xs m 0) (take m xs)), length_with (get_or xs m 0) (take m xs), length-take-le m xs (omega arith)))

-- the code counts the pairs of one list as half of the length's square less the length
pub among_count : (xs : List ℕ) → (length xs * length xs - length xs) / 2 ≡ length (pairs_among xs (length xs))
among_count xs = let l = length_among xs (length xs) (omega arith) in omega arith

-- if j < m, each number in row j is below the first number of row m
number_below : (i j k m l : ℕ) → i < j → j < m → 2 * k + j ≡ j * j + 2 * i → 2 * l + m ≡ m * m → k < l
number_below i j k (suc m) l p q e f = omega (arith, mul-le (j + 1) j (suc m) m (omega arith) (omega arith))
number_below i j k zero l p q e f = absurd (omega arith)

-- the pair with the number of row j and column i consists of the list's atoms j and i
pub get_among : (xs : List ℕ) (m i j k : ℕ) → m ≤ length xs → i < j → j < m → 2 * k + j ≡ j * j + 2 * i → get_or (pairs_among xs m) k (0, 0) ≡ pair_of (get_or xs j 0) (get_or xs i 0)
get_among xs zero i j k h p q e = absurd (omega arith)
get_among xs (suc m) i j k h p q e =
    let l = length_among xs m (omega arith) in
    let t : length (take m xs) ≡ m = length-take-le m xs (omega arith) in
    ap (λ ps. get_or ps k (0, 0)) (among_suc xs m) ∙ ⊎_elim last (λ ne. before (get_among xs m i j k (omega arith) p (omega arith) e) ne) (cases_eq j m)
  where
    last : j ≡ m → get_or (pairs_among xs m ++ pairs_with (get_or xs m 0) (take m xs)) k (0, 0) ≡ pair_of (get_or xs j 0) (get_or xs i 0)
    last f =
        let l = length_among xs m (omega arith) in
        let t : length (take m xs) ≡ m = length-take-le m xs (omega arith) in
        let square : j * j ≡ m * m = ap (λ n. n * n) f in
        let index : k ≡ length (pairs_among xs m) + i = omega arith in
        let rest : k - length (pairs_among xs m) ≡ i = omega arith in
        get_or-append_right (pairs_among xs m) (pairs_with (get_or xs m 0) (take m xs)) (length (pairs_among xs m)) k (0, 0) refl (omega arith)
        ∙ (ap (λ n. get_or (pairs_with (get_or xs m 0) (take m xs)) n (0, 0)) rest
        ∙ (get_or-map (pair_of (get_or xs m 0)) (take m xs) i 0 (0, 0) (omega arith)
        ∙ (ap (pair_of (get_or xs m 0)) (get_or-take m xs i 0 (omega arith)) ∙ ap (λ n. pair_of (get_or xs n 0) (get_or xs i 0)) (sym f))))

    before : get_or (pairs_among xs m) k (0, 0) ≡ pair_of (get_or xs j 0) (get_or xs i 0) → (j ≡ m → ⊥) → get_or (pairs_among xs m ++ pairs_with (get_or xs m 0) (take m xs)) k (0, 0) ≡ pair_of (get_or xs j 0) (get_or xs i 0)
    before rest ne =
        let l = length_among xs m (omega arith) in
        let inside : k < length (pairs_among xs m) = number_below i j k m (length (pairs_among xs m)) p (omega arith) e l in
        get_or_append_left (pairs_among xs m) (pairs_with (get_or xs m 0) (take m xs)) (0, 0) k inside ∙ rest

-- the row of a number is one of the list's
pub among_row : (xs : List ℕ) (i j k : ℕ) → i < j → 2 * k + j ≡ j * j + 2 * i → k < length (pairs_among xs (length xs)) → j < length xs
among_row xs i j k p e h =
    ⊎_elim (λ lt. lt) (λ le. absurd (beyond (length xs) j le p e h (length_among xs (length xs) (omega arith)))) (cases_lt j (length xs))
  where
    beyond : (m j : ℕ) → m ≤ j → i < j → 2 * k + j ≡ j * j + 2 * i → k < length (pairs_among xs (length xs)) → 2 * length (pairs_among xs (length xs)) + m ≡ m * m → ⊥
    beyond zero j le p e h f = omega arith
    beyond (suc m) zero le p e h f = omega arith
    beyond (suc m) (suc j) le p e h f = omega (arith, mul-le (suc m) m (suc j) j (omega arith) (omega arith))

-- `get_among` for any number below the number of pairs; `slice_get` finds the pair
pub among_at : (xs : List ℕ) (i j k : ℕ) → i < j → 2 * k + j ≡ j * j + 2 * i → k < length (pairs_among xs (length xs)) → slice_get (pairs_among xs (length xs)) k ≡ Some (pair_of (get_or xs j 0) (get_or xs i 0))
among_at xs i j k p e h =
    slice_get-get_or (pairs_among xs (length xs)) k (0, 0) h
    ∙ ap Some (get_among xs (length xs) i j k (omega arith) p (among_row xs i j k p e h) e)

-- a number up to the pairs of at most 65536 atoms fits 32 bits
pub among_few : (xs : List ℕ) (k : ℕ) → length xs ≤ 65536 → k ≤ length (pairs_among xs (length xs)) → k < 4294967296
among_few xs k h p =
    let l = length_among xs (length xs) (omega arith) in
    let s : length xs * length xs ≤ 65536 * 65536 = mul-le (length xs) (length xs) 65536 65536 h h in
    omega arith

-- ---- the row of a number, by its root

half_square : (j : ℕ) → (t : ℕ) × (2 * t + j ≡ j * j)
half_square zero = (0, omega arith)
half_square (suc j) = let h = half_square j in (h.0 + j, omega (arith, h.1))

row_from_root : (k r : ℕ) → IsSquareRoot (8 * k + 1) r → ((r + 1) / 2 * ((r + 1) / 2) ≤ 2 * k + (r + 1) / 2) × (2 * k < (r + 1) / 2 * ((r + 1) / 2) + (r + 1) / 2)
row_from_root k r s = by_half ((r + 1) / 2) s.square_le above (⊎_elim (λ (e : 2 * ((r + 1) / 2) ≡ r). inl e) (λ ne. inr (omega arith)) (cases_eq (2 * ((r + 1) / 2)) r))
  where
    above : 8 * k + 1 < (r + 1) * (r + 1)
    above = ⊎_elim (λ lt. lt) (λ le. let g : r + 1 ≤ r = s.greatest (r + 1) le in absurd (omega arith)) (cases_lt (8 * k + 1) ((r + 1) * (r + 1)))

    by_half : (j : ℕ) → r * r ≤ 8 * k + 1 → 8 * k + 1 < (r + 1) * (r + 1) → (2 * j ≡ r) ⊎ (2 * j ≡ r + 1) → (j * j ≤ 2 * k + j) × (2 * k < j * j + j)
    by_half j low high (inl e) = let square : r * r ≡ 2 * j * (2 * j) = ap (λ n. n * n) (sym e) in (omega arith, omega arith)
    by_half j low high (inr e) = let square : (r + 1) * (r + 1) ≡ 2 * j * (2 * j) = ap (λ n. n * n) (sym e) in (omega arith, omega arith)

-- the row computed from the square root begins at or before the number k
pub row_fits : (k r : ℕ) → IsSquareRoot (8 * k + 1) r → ((r + 1) / 2 * ((r + 1) / 2) - (r + 1) / 2) / 2 ≤ k
row_fits k r s =
    let b = row_from_root k r s in
    let t = half_square ((r + 1) / 2) in
    omega (arith, b.0, b.1, t.1)

-- the number k is past the row's beginning by less than the row's number, so by a column of the row
pub row_within : (k r : ℕ) → IsSquareRoot (8 * k + 1) r → k - ((r + 1) / 2 * ((r + 1) / 2) - (r + 1) / 2) / 2 < (r + 1) / 2
row_within k r s =
    let b = row_from_root k r s in
    let t = half_square ((r + 1) / 2) in
    omega (arith, b.0, b.1, t.1)

-- the row and the column have the number k
pub row_number : (k r : ℕ) → IsSquareRoot (8 * k + 1) r → 2 * k + (r + 1) / 2 ≡ (r + 1) / 2 * ((r + 1) / 2) + 2 * (k - ((r + 1) / 2 * ((r + 1) / 2) - (r + 1) / 2) / 2)
row_number k r s =
    let b = row_from_root k r s in
    let t = half_square ((r + 1) / 2) in
    omega (arith, b.0, b.1, t.1)
