-- Each pair of atoms in one cell or in neighbouring cells occurs in the tiles once, and no other pair does.
use Rattle.std.proofs.Common.{◌≡◌, ℕ, suc, ◌+◌, ◌*◌, ◌<◌, ◌≤◌, ◌≢◌, Bool, true, false, cond, ◌&&◌, eqb, ltb, List, [], length, filter, sum_by, refl, sym, ap, ◌∙◌, ⊎_elim, arith, All}
use Rattle.std.proofs.lemmas.Bool.Decides.{nat_tests}
use Rattle.std.proofs.lemmas.Bool.{cases_lt, cases_eq, eq-eqb, ne_eqb, lt-ltb, le-ltb, le-leb, lt-leb}
use Rattle.std.proofs.lemmas.List.{get_or_past, take_all}
use Rattle.std.proofs.lemmas.List.Sorted.{sum_by-IsPermutation}
use Rattle.ring_box.specs.Places.{ArePlaces, places_of}
use Rattle.ring_box.specs.declared.vectors.CellBits.{CellBits}
use Rattle.ring_box.specs.declared.vectors.Place3.{Place3}
use Rattle.cell_tiles.specs.Cells.{IsGrid, are_near, cell_number, cells_of, members_among, members_of, numbers_below}
use Rattle.cell_tiles.specs.Tiles.{members_at, pairs_in, tiles_by_cell, tiles_of, tiles_with}
use Rattle.cell_tiles.specs.Cover.{Covers, are_close, is_pair, times}
use Rattle.cell_tiles.proofs.CountLemmas.{count, same, same_here, same_else, sum_below_one, sum_below_same, sum_filter, sum_flat_map, sum_map, sum_nothing}
use Rattle.cell_tiles.proofs.CellLemmas.{are_places, near_are_neighbours, near_sym, number_below}
use Rattle.cell_tiles.proofs.MemberLemmas.{length_members, members_here}
use Rattle.cell_tiles.proofs.TurnLaws.{quarters_move}
use Rattle.cell_tiles.proofs.PairLemmas.{one_way, other_way, times_among, times_between}

-- ---- how often an atom occurs in a cell

counts_nothing : (b : Bool) (x : ℕ) → x ≡ 0 → cond b x 0 ≡ 0
counts_nothing b x e = grind arith

-- 1 if the atom a is one of n and its cell number k is c, otherwise 0
abbrev inside : ℕ → ℕ → ℕ → ℕ → ℕ
inside n a k c = cond (ltb a n) (same k c) 0

count_members : (bits : CellBits) (frame : List Place3) (n a c : ℕ) → count a (members_among bits frame n c) ≡ inside n a (cell_number bits (places_of frame a)) c
count_members bits frame n a c =
    let p : ℕ → Bool = λ b. eqb (cell_number bits (places_of frame b)) c in
    sum_filter (same a) p (numbers_below n)
    ∙ (sum_below_one (λ b. cond (p b) (same a b) 0) a n (λ b ne. counts_nothing (p b) (same a b) (same_else a b (λ e. ne (sym e))))
    ∙ ap (λ m. cond (ltb a n) (cond (p a) m 0) 0) (same_here a a refl))

-- ---- how often a pair occurs in a tile

-- the count of a pair in a tile, if its atoms are in the cells p and q
abbrev in_tile : ℕ → ℕ → ℕ → ℕ → ℕ
in_tile c d p q = cond (eqb c d) (same p c * same q c) (same p c * same q d + same q c * same p d)

at_most : (b : Bool) (k c : ℕ) → cond b (same k c) 0 ≤ 1
at_most b k c = grind (arith, nat_tests)

one_cell : (lo hi n p q c : ℕ) → other_way lo hi * (inside n lo p c * inside n hi q c) ≡ cond (is_pair n (lo, hi)) (same p c * same q c) 0
one_cell lo hi n p q c =
    ⊎_elim
    (λ lt. rw (lt-ltb lo hi lt) (⊎_elim (λ in'. rw (lt-ltb hi n in', lt-ltb lo n (omega arith)) (omega arith)) (λ out. rw (le-ltb hi n out) (omega arith)) (cases_lt hi n)))
    (λ le. rw (le-ltb lo hi le) (omega arith)) (cases_lt lo hi)

apart : (a b : Bool) (u v w p q c d : ℕ) → p ≡ q → c ≢ d → u * cond a (same q d) 0 * cond b (same p c) 0 + 0 * v * w ≡ 0
apart a b u v w p q c d e ne = grind (arith, nat_tests)

two_cells : (lo hi n p q c d : ℕ) → (lo ≡ hi → p ≡ q) → c ≢ d → one_way lo hi * inside n hi q d * inside n lo p c + other_way lo hi * inside n lo p d * inside n hi q c
    ≡ cond (is_pair n (lo, hi)) (same p c * same q d + same q c * same p d) 0
two_cells lo hi n p q c d one ne =
    ⊎_elim
    (λ lt. rw (le-leb lo hi (omega arith), lt-ltb lo hi lt)
    (⊎_elim (λ in'. rw (lt-ltb hi n in', lt-ltb lo n (omega arith)) (omega arith)) (λ out. rw (le-ltb hi n out) (omega arith)) (cases_lt hi n)))
    (λ le. rw (le-ltb lo hi le)
    (⊎_elim
    (λ e. apart (ltb hi n) (ltb lo n) (one_way lo hi) (inside n lo p d) (inside n hi q c) p q c d (one e) ne)
    (λ other. rw (lt-leb lo hi (omega arith)) (omega arith)) (cases_eq lo hi)))
    (cases_lt lo hi)

-- ---- the sum over all tiles

over_tiles : (bits : CellBits) (f : ℕ × ℕ → ℕ) → sum_by f (tiles_of bits) ≡ sum_by (λ d. sum_by (λ c. cond (are_near bits c d) (f (c, d)) 0) (numbers_below (suc d))) (numbers_below (cells_of bits))
over_tiles bits f =
    sum_by-IsPermutation f (tiles_by_cell bits) (tiles_of bits) (quarters_move (tiles_by_cell bits))
    ∙ (sum_flat_map f (tiles_with bits) (numbers_below (cells_of bits))
    ∙ (λ i. sum_by (λ d. row d i) (numbers_below (cells_of bits))))
  where
    row : (d : ℕ) → sum_by f (tiles_with bits d) ≡ sum_by (λ c. cond (are_near bits c d) (f (c, d)) 0) (numbers_below (suc d))
    row d =
        sum_map f (λ c. (c, d)) (filter (λ c. are_near bits c d) (numbers_below (suc d)))
        ∙ sum_filter (λ c. f (c, d)) (λ c. are_near bits c d) (numbers_below (suc d))

-- the sum of a function that is 1 on the tile of the cells p and q, p the lower, and 0 on others
one_tile : (bits : CellBits) (f : ℕ × ℕ → ℕ) (p q : ℕ) → p ≤ q → q < cells_of bits → ((c d : ℕ) → c ≤ d → f (c, d) ≡ same p c * same q d) → sum_by f (tiles_of bits) ≡ cond (are_near bits p q) 1 0
one_tile bits f p q le below h =
    over_tiles bits f
    ∙ ((λ i. sum_by (λ d. row d i) (numbers_below (cells_of bits)))
    ∙ (sum_below_one (λ d. cond (ltb p (suc d)) (cond (are_near bits p d) (same p p * same q d) 0) 0) q (cells_of bits) (λ d ne. other (ltb p (suc d)) (are_near bits p d) (same p p) (same q d) (same_else q d (λ e. ne (sym e))))
    ∙ rw (lt-ltb q (cells_of bits) below, lt-ltb p (suc q) (omega arith), same_here p p refl, same_here q q refl) refl))
  where
    other : (b t : Bool) (x y : ℕ) → y ≡ 0 → cond b (cond t (x * y) 0) 0 ≡ 0
    other b t x y e = grind arith

    first : (b : Bool) (x y : ℕ) → x ≡ 0 → cond b (x * y) 0 ≡ 0
    first b x y e = grind arith

    row : (d : ℕ) → sum_by (λ c. cond (are_near bits c d) (f (c, d)) 0) (numbers_below (suc d)) ≡ cond (ltb p (suc d)) (cond (are_near bits p d) (same p p * same q d) 0) 0
    row d =
        sum_below_same (λ c. cond (are_near bits c d) (f (c, d)) 0) (λ c. cond (are_near bits c d) (same p c * same q d) 0) (suc d) (λ c l. ap (λ m. cond (are_near bits c d) m 0) (h c d (omega arith)))
        ∙ sum_below_one (λ c. cond (are_near bits c d) (same p c * same q d) 0) p (suc d) (λ c ne. first (are_near bits c d) (same p c) (same q d) (same_else p c (λ e. ne (sym e))))

-- two atoms in the cells p and q, in the tile of the cells c and d
low_first : (p q c d : ℕ) → p ≤ q → c ≤ d → in_tile c d p q ≡ same p c * same q d
low_first p q c d h k = grind (arith, nat_tests)

high_first : (p q c d : ℕ) → q < p → c ≤ d → in_tile c d p q ≡ same q c * same p d
high_first p q c d h k = grind (arith, nat_tests)

either_near : (bits : CellBits) (p q : ℕ) → p < cells_of bits → q < cells_of bits → sum_by (λ t. in_tile t.0 t.1 p q) (tiles_of bits) ≡ cond (are_near bits p q) 1 0
either_near bits p q k l =
    ⊎_elim
    (λ lt. one_tile bits (λ t. in_tile t.0 t.1 p q) q p (omega arith) k (λ c d le. high_first p q c d lt le) ∙ ap (λ b. cond b 1 0) (near_sym bits q p))
    (λ le. one_tile bits (λ t. in_tile t.0 t.1 p q) p q le l (λ c d o. low_first p q c d le o)) (cases_lt q p)

-- ---- the tiles of a frame

module _ (bits : CellBits) (frame : List Place3) (g : IsGrid bits) (places : All ArePlaces frame) where
  abbrev number : ℕ → ℕ
  number a = cell_number bits (places_of frame a)

  abbrev atoms_at : ℕ → List ℕ
  atoms_at c = members_at (members_of bits frame) c

  number_is_below : (a : ℕ) → number a < cells_of bits
  number_is_below a = number_below bits (places_of frame a) g (are_places frame a places)

  counted : (a c : ℕ) → count a (atoms_at c) ≡ inside (length frame) a (number a) c
  counted a c =
      ⊎_elim (λ lt. ap (count a) (members_here bits frame (length frame) c lt) ∙ count_members bits frame (length frame) a c)
      (λ le.
      let none : same (number a) c ≡ 0 = same_else (number a) c (λ e. omega (arith, number_is_below a, le)) in
      ap (count a) (get_or_past (members_of bits frame) c [] (omega (arith, length_members bits frame (length frame), le))) ∙ sym (counts_nothing (ltb a (length frame)) (same (number a) c) none))
      (cases_lt c (cells_of bits))

  times_at : (lo hi c d : ℕ) → times (lo, hi) (pairs_in (members_of bits frame) (c, d)) ≡ cond (is_pair (length frame) (lo, hi)) (in_tile c d (number lo) (number hi)) 0
  times_at lo hi c d = ⊎_elim one two (cases_eq c d)
    where
      one : c ≡ d → times (lo, hi) (pairs_in (members_of bits frame) (c, d)) ≡ cond (is_pair (length frame) (lo, hi)) (in_tile c d (number lo) (number hi)) 0
      one e =
          let xs = atoms_at c in
          let whole = take_all (length xs) xs (omega arith) in
          rw (eq-eqb c d e)
          (times_among lo hi xs (length xs) (omega arith) (λ _. rw (whole, counted lo c) (at_most (ltb lo (length frame)) (number lo) c))
          ∙ rw (whole, counted lo c, counted hi c) (one_cell lo hi (length frame) (number lo) (number hi) c))

      two : c ≢ d → times (lo, hi) (pairs_in (members_of bits frame) (c, d)) ≡ cond (is_pair (length frame) (lo, hi)) (in_tile c d (number lo) (number hi)) 0
      two ne =
          rw (ne_eqb c d ne)
          (times_between lo hi (atoms_at c) (atoms_at d)
          ∙ rw (counted lo c, counted hi c, counted lo d, counted hi d) (two_cells lo hi (length frame) (number lo) (number hi) c d (λ e. ap number e) ne))

  -- the tiles have each pair of atoms of neighbouring cells once, and no other pair
  pub covers : Covers bits frame
  covers p =
      sum_map (times p) (pairs_in (members_of bits frame)) (tiles_of bits)
      ∙ ((λ i. sum_by (λ t. times_at p.0 p.1 t.0 t.1 i) (tiles_of bits))
      ∙ by_pair (is_pair (length frame) p))
    where
      by_pair : (b : Bool) → sum_by (λ t. cond b (in_tile t.0 t.1 (number p.0) (number p.1)) 0) (tiles_of bits) ≡ cond (b && are_close bits frame p) 1 0
      by_pair true =
          either_near bits (number p.0) (number p.1) (number_is_below p.0) (number_is_below p.1)
          ∙ ap (λ b. cond b 1 0) (near_are_neighbours bits (places_of frame p.0) (places_of frame p.1) g (are_places frame p.0 places) (are_places frame p.1 places))
      by_pair false = sum_nothing (λ _. 0) (tiles_of bits) (λ _. refl)
