-- The pairs of a tile that may act, as they are listed.
use Rattle.std.proofs.Common.{◌≡◌, ℕ, zero, suc, ◌+◌, ◌<◌, ◌≤◌, Bool, true, false, List, [], ◌∷◌, ◌++◌, length, get_or, take, drop, filter, None, inl, inr, refl, subst, sym, ap, ◌∙◌, arith, eqb, eqb-true, length-append, length-drop, nat_lt, All}
use Rattle.std.proofs.lemmas.Bool.{cases_Bool}
use Rattle.std.proofs.lemmas.List.{append_assoc, drop-append-le, drop-drop, drop_all, get_or-map, get_or_append_left, length-map, take-append-drop}
use Rattle.std.proofs.lemmas.List.Elements.{All-drop, All-from_get_or, All-get_or, All-take, All-weaker, filter-append, filter_passes}
use Rattle.ring_box.specs.Acting.{AreInCell, Reach, acting_of}
use Rattle.ring_box.specs.Places.{ArePlaces, places_of}
use Rattle.ring_box.specs.declared.boxes.RingBox.{RingBox}
use Rattle.ring_box.proofs.ActingLemmas.{idle_turned}
use Rattle.ring_box.specs.declared.vectors.CellBits.{CellBits}
use Rattle.ring_box.specs.declared.vectors.Place3.{Place3}
use Rattle.cell_tiles.specs.Cells.{IsGrid, cell_number, cells_of, members_of, numbers_below, numbers_of}
use Rattle.cell_tiles.specs.Near.{IsPairOf, pair_acts}
use Rattle.cell_tiles.specs.Tiles.{members_at, pair_of, pairs_with}
use Rattle.cell_tiles.proofs.CellLemmas.{are_places, numbers_back}
use Rattle.cell_tiles.proofs.MemberLemmas.{members_here}

-- ---- the atoms of a pair

both_inside : (n a b : ℕ) → IsPairOf n (pair_of a b) → (a < n) × (b < n)
both_inside n a b p =
    elim (cases_Bool (nat_lt a b)) [
      | inl e ↦ let q : IsPairOf n (a, b) = rw e at p in (omega (arith, q.0, q.1), q.1)
      | inr e ↦ let q : IsPairOf n (b, a) = rw e at p in (q.1, omega (arith, q.0, q.1))
    ]

-- if the pairs of an atom with others are pairs of n atoms, so is its pair with each of the others
pub pair_inside : (n a : ℕ) (bs : List ℕ) (j : ℕ) → All (IsPairOf n) (pairs_with a bs) → j < length bs → IsPairOf n (pair_of a (get_or bs j 0))
pair_inside n a bs j all lt =
    rw (get_or-map (pair_of a) bs j 0 (0, 0) lt) at (All-get_or (IsPairOf n) (pairs_with a bs) j (0, 0) (omega (arith, length-map bs (pair_of a), lt)) all)

-- if an atom has pairs with others and they are pairs of n atoms, the atom is one of the n
pub first_inside : (n a : ℕ) (bs : List ℕ) (j : ℕ) → All (IsPairOf n) (pairs_with a bs) → j < length bs → a < n
first_inside n a bs j all lt = (both_inside n a (get_or bs j 0) (pair_inside n a bs j all lt)).0

-- two atoms that don't act are a pair that doesn't
pub pair_idle : (d : Reach) (b : RingBox) (frame : List Place3) (i j : ℕ) → All ArePlaces frame → acting_of d b (places_of frame i) (places_of frame j) ≡ None → pair_acts d b frame (pair_of i j) ≡ false
pair_idle d b frame i j places h =
    elim (cases_Bool (nat_lt i j)) [
      | inl e ↦ rw (e, h) refl
      | inr e ↦ rw (e, idle_turned d b (places_of frame i) (places_of frame j) (are_places frame i places) (are_places frame j places) h) refl
    ]

-- ---- cells

-- an atom lies in the cell that has its number
pub lies_in : (bits : CellBits) (p : Place3) (c : ℕ) → IsGrid bits → ArePlaces p → cell_number bits p ≡ c → AreInCell bits (numbers_of bits c) p
lies_in bits p c g h e =
    subst (λ n. AreInCell bits n p) (sym (numbers_back bits p g h) ∙ ap (numbers_of bits) e) ((h.x, refl), (h.y, refl), (h.z, refl))

-- ---- lists of those that act

module _ (acts : ℕ × ℕ → Bool) where
  -- if no element of a list passes the test, filtering any prefix gives the empty list
  pub none_left : (n : ℕ) (ps : List (ℕ × ℕ)) → ((j : ℕ) → j < length ps → acts (get_or ps j (0, 0)) ≡ false) → filter acts (take n ps) ≡ []
  none_left zero ps h = refl
  none_left (suc n) [] h = refl
  none_left (suc n) (p ∷ ps) h = rw (h 0 (omega arith)) (none_left n ps (λ j lt. h (suc j) (omega arith)))

  -- some of a row are come past
  come_past : (ps near new row rest : List (ℕ × ℕ)) (k next seen : ℕ) → drop next ps ≡ row ++ rest → seen ≤ length row → filter acts new ≡ filter acts near ++ filter acts (take seen row)
      → filter acts (drop k ps) ≡ filter acts near ++ filter acts (drop next ps) → filter acts (drop k ps) ≡ filter acts new ++ filter acts (drop (next + seen) ps)
  come_past ps near new row rest k next seen here within listed before =
      let behind : drop (next + seen) ps ≡ drop seen row ++ rest = sym (drop-drop seen next ps) ∙ (ap (drop seen) here ∙ drop-append-le seen row rest within) in
      let split : row ++ rest ≡ take seen row ++ drop (next + seen) ps =
      ap (λ ys. ys ++ rest) (sym (take-append-drop seen row)) ∙ (append_assoc (take seen row) (drop seen row) rest ∙ ap (λ ys. take seen row ++ ys) (sym behind)) in
      before
      ∙ (ap (λ ys. filter acts near ++ ys) (ap (filter acts) (here ∙ split) ∙ filter-append acts (take seen row) (drop (next + seen) ps))
      ∙ (sym (append_assoc (filter acts near) (filter acts (take seen row)) (filter acts (drop (next + seen) ps))) ∙ ap (λ ys. ys ++ filter acts (drop (next + seen) ps)) (sym listed)))

-- ---- rows

-- a row at the start of the remaining pairs is no longer than the remaining pairs
row_fits : (ps row rest : List (ℕ × ℕ)) (next : ℕ) → next ≤ length ps → drop next ps ≡ row ++ rest → next + length row ≤ length ps
row_fits ps row rest next h here = omega (arith, length-drop next ps, ap length here, length-append row rest)

-- so many pairs of an atom with others are of those that are left, and are come past
pub row_seen : (acts : ℕ × ℕ → Bool) (ps near new rest : List (ℕ × ℕ)) (atom : ℕ) (others : List ℕ) (k next seen : ℕ) → next ≤ length ps → drop next ps ≡ pairs_with atom others ++ rest → seen ≤ length others
    → filter acts new ≡ filter acts near ++ filter acts (take seen (pairs_with atom others)) → filter acts (drop k ps) ≡ filter acts near ++ filter acts (drop next ps)
    → (next + seen ≤ length ps) × (filter acts (drop k ps) ≡ filter acts new ++ filter acts (drop (next + seen) ps))
row_seen acts ps near new rest atom others k next seen within here some listed before =
    let many = length-map others (pair_of atom) in (
      omega (arith, row_fits ps (pairs_with atom others) rest next within here, many, some),
      come_past acts ps near new (pairs_with atom others) rest k next seen here (omega (arith, many, some)) listed before,
    )

-- after a row, the remaining pairs begin at the index `next + seen`
pub row_passed : (ps row rest : List (ℕ × ℕ)) (next seen : ℕ) → drop next ps ≡ row ++ rest → seen ≡ length row → rest ≡ drop (next + seen) ps
row_passed ps row rest next seen here all =
    sym (sym (drop-drop seen next ps) ∙ (ap (drop seen) here ∙ (drop-append-le seen row rest (omega arith) ∙ ap (λ ys. ys ++ rest) (drop_all seen row (omega arith)))))

-- a property of all pairs from a number on is one of a row there
pub row_all : (P : ℕ × ℕ → Type 0) (ps row rest : List (ℕ × ℕ)) (next : ℕ) → All P ps → drop next ps ≡ row ++ rest → All P row
row_all P ps row rest next all here =
    let behind : All P (row ++ rest) = subst (All P) here (All-drop P next ps all) in
    All-from_get_or P row (0, 0) (λ i lt. subst P (get_or_append_left row rest (0, 0) i lt) (All-get_or P (row ++ rest) i (0, 0) (omega (arith, length-append row rest, lt)) behind))

-- the atoms of a cell have its number
pub members_lie : (bits : CellBits) (frame : List Place3) (c : ℕ) → c < cells_of bits → All (λ a. cell_number bits (places_of frame a) ≡ c) (members_at (members_of bits frame) c)
members_lie bits frame c h =
    let here = members_here bits frame (length frame) c h in
    let passes = filter_passes (λ a. eqb (cell_number bits (places_of frame a)) c) (numbers_below (length frame)) in
    rw here (All-weaker (λ a. eqb (cell_number bits (places_of frame a)) c ≡ true) (λ a. cell_number bits (places_of frame a) ≡ c) (λ a e. eqb-true _ _ e) _ passes)

-- so has each of some of them
pub part_lies : (P : ℕ → Type 0) (xs ys : List ℕ) (from count : ℕ) → xs ≡ take count (drop from ys) → All P ys → All P xs
part_lies P xs ys from count part all = rw part (All-take P count (drop from ys) (All-drop P from ys all))
