-- The atoms of each cell, as one atom after another is put into its cell.
use Rattle.std.proofs.Common.{◌≡◌, ℕ, ◌+◌, ◌<◌, ◌≤◌, ◌≢◌, Bool, true, false, cond, eqb, List, [], ◌∷◌, ◌++◌, length, filter, get_or, set, replicate, sym, ap, ◌∙◌, ⊎_elim, arith, append-nil, All}
use Rattle.std.proofs.lemmas.Bool.{cases_eq, cases_lt, eq-eqb, ne_eqb}
use Rattle.std.proofs.lemmas.List.{ext_get_or, get_or-map, get_or-replicate, get_or-set_other, get_or-set_same, get_or_past, length-map, length-replicate, length-set}
use Rattle.std.proofs.lemmas.List.Elements.{All-filter, All-from_get_or, filter-append}
use Rattle.std.proofs.lemmas.List.Sums.{count_by-le-length, length-filter}
use Rattle.ring_box.specs.declared.vectors.CellBits.{CellBits}
use Rattle.ring_box.specs.declared.vectors.Place3.{Place3}
use Rattle.ring_box.specs.Places.{places_of}
use Rattle.cell_tiles.specs.Cells.{cell_number, cells_of, first_members, members_among, members_of, numbers_below}
use Rattle.cell_tiles.specs.Tiles.{members_at}
use Rattle.cell_tiles.proofs.CountLemmas.{below_more, below_zero, get_below, length_below, numbers_are_below, one_filtered}

-- there is a list of atoms for each cell
pub length_members : (bits : CellBits) (frame : List Place3) (n : ℕ) → length (first_members bits frame n) ≡ cells_of bits
length_members bits frame n = length-map (numbers_below (cells_of bits)) (members_among bits frame n) ∙ length_below (cells_of bits)

-- the list for the cell c consists of the atoms in the cell c
pub members_here : (bits : CellBits) (frame : List Place3) (n c : ℕ) → c < cells_of bits → get_or (first_members bits frame n) c [] ≡ members_among bits frame n c
members_here bits frame n c h =
    let l = length_below (cells_of bits) in
    get_or-map (members_among bits frame n) (numbers_below (cells_of bits)) c 0 [] (omega arith)
    ∙ ap (members_among bits frame n) (get_below (cells_of bits) c 0 h)

among_none : (bits : CellBits) (frame : List Place3) (c : ℕ) → members_among bits frame 0 c ≡ []
among_none bits frame c = ap (filter (λ a. eqb (cell_number bits (places_of frame a)) c)) below_zero

among_more : (bits : CellBits) (frame : List Place3) (n c : ℕ) (b : Bool) → eqb (cell_number bits (places_of frame n)) c ≡ b →
    members_among bits frame (n + 1) c ≡ members_among bits frame n c ++ cond b (n ∷ []) []
among_more bits frame n c b e =
    let p : ℕ → Bool = λ a. eqb (cell_number bits (places_of frame a)) c in
    ap (filter p) (below_more n) ∙ (filter-append p (numbers_below n) (n ∷ []) ∙ ap (λ xs. filter p (numbers_below n) ++ xs) (one_filtered p n b e))

-- before the first atom each cell is empty
pub no_members : (bits : CellBits) (frame : List Place3) → replicate (cells_of bits) [] ≡ first_members bits frame 0
no_members bits frame =
    let l = length_members bits frame 0 in
    let r : length (replicate {A = List ℕ} (cells_of bits) []) ≡ cells_of bits = length-replicate (cells_of bits) [] in
    ext_get_or [] (replicate (cells_of bits) []) (first_members bits frame 0) (omega arith)
    (λ c h. let lt : c < cells_of bits = omega arith in get_or-replicate (cells_of bits) c [] [] lt ∙ sym (members_here bits frame 0 c lt ∙ among_none bits frame c))

-- appending the atom n to the list of its cell gives the members of the first n + 1 atoms
pub next_member : (bits : CellBits) (frame : List Place3) (n k : ℕ) → k ≡ cell_number bits (places_of frame n) → k < cells_of bits →
    set (first_members bits frame n) k (members_at (first_members bits frame n) k ++ n ∷ []) ≡ first_members bits frame (n + 1)
next_member bits frame n k e h =
    let xs = members_at (first_members bits frame n) k ++ n ∷ [] in
    let l = length_members bits frame n in
    let m = length_members bits frame (n + 1) in
    let s = length-set (first_members bits frame n) k xs in
    ext_get_or [] (set (first_members bits frame n) k xs) (first_members bits frame (n + 1)) (omega arith)
    (λ c lt. ⊎_elim (λ i. here c i (omega arith)) (λ ne. other c ne (omega arith)) (cases_eq c k))
  where
    here : (c : ℕ) → c ≡ k → k < length (first_members bits frame n) → get_or (set (first_members bits frame n) k (members_at (first_members bits frame n) k ++ n ∷ [])) c [] ≡ get_or (first_members bits frame (n + 1)) c []
    here c i lt =
        rw i
        (get_or-set_same (first_members bits frame n) k (members_at (first_members bits frame n) k ++ n ∷ []) [] lt
        ∙ ap (λ xs. xs ++ n ∷ []) (members_here bits frame n k h)
        ∙ sym (members_here bits frame (n + 1) k h ∙ among_more bits frame n k true (eq-eqb _ _ (sym e))))

    other : (c : ℕ) → c ≢ k → c < cells_of bits → get_or (set (first_members bits frame n) k (members_at (first_members bits frame n) k ++ n ∷ [])) c [] ≡ get_or (first_members bits frame (n + 1)) c []
    other c ne lt =
        get_or-set_other (first_members bits frame n) k c (members_at (first_members bits frame n) k ++ n ∷ []) [] ne
        ∙ members_here bits frame n c lt
        ∙ sym (members_here bits frame (n + 1) c lt ∙ among_more bits frame n c false (ne_eqb _ _ (λ q. ne (sym q ∙ sym e))) ∙ append-nil (members_among bits frame n c))

-- the atoms of a cell are atoms of the frame
pub members_inside : (bits : CellBits) (frame : List Place3) → All (λ xs. All (λ a. a < length frame) xs) (members_of bits frame)
members_inside bits frame =
    let l = length_members bits frame (length frame) in
    All-from_get_or (λ xs. All (λ a. a < length frame) xs) (members_of bits frame) [] (λ c lt. here c (omega arith))
  where
    here : (c : ℕ) → c < cells_of bits → All (λ a. a < length frame) (get_or (members_of bits frame) c [])
    here c lt =
        rw (members_here bits frame (length frame) c lt) (All-filter (λ a. eqb (cell_number bits (places_of frame a)) c) (λ a. a < length frame) (numbers_below (length frame)) (numbers_are_below (length frame)))

-- no cell has more atoms than there are
pub few_members : (bits : CellBits) (frame : List Place3) (n m : ℕ) → n ≤ m → All (λ xs. length xs ≤ m) (first_members bits frame n)
few_members bits frame n m h =
    let l = length_members bits frame n in
    All-from_get_or (λ xs. length xs ≤ m) (first_members bits frame n) [] (λ c lt. here c (omega arith))
  where
    here : (c : ℕ) → c < cells_of bits → length (get_or (first_members bits frame n) c []) ≤ m
    here c lt =
        let p : ℕ → Bool = λ a. eqb (cell_number bits (places_of frame a)) c in
        rw (members_here bits frame n c lt) (omega (arith, length-filter p (numbers_below n), count_by-le-length p (numbers_below n), length_below n))

-- a cell that holds an atom is one of the cells that there are
pub cell_inside : (bits : CellBits) (frame : List Place3) (members : List (List ℕ)) (c : ℕ) → members ≡ members_of bits frame → 0 < length (members_at members c) → c < cells_of bits
cell_inside bits frame members c are some =
    let l : length members ≡ cells_of bits = ap length are ∙ length_members bits frame (length frame) in
    ⊎_elim (λ lt. omega arith) (λ le. let none : length (members_at members c) ≡ 0 = ap length (get_or_past members c [] le) in absurd (omega arith)) (cases_lt c (length members))
