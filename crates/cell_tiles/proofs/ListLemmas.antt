-- A list of pairs that is written pair by pair, some blocks at once, row by row.
use Rattle.std.proofs.Common.{◌≡◌, ℕ, ◌+◌, ◌*◌, ◌/◌, ◌%◌, ◌^◌, ◌<◌, ◌≤◌, Bool, false, None, List, [], ◌++◌, length, get_or, take, drop, map, filter, subst, sym, ap, ◌∙◌, arith, take-add, All}
use Rattle.std.specs.Coded.{Coded-set, coded_bool}
use Rattle.std.specs.Int.{bit_at}
use Rattle.std.proofs.Math.Logic.{∥∥₁_elim}
use Rattle.std.proofs.lemmas.List.{append_assoc, drop-map, get_or-drop, get_or-map, get_or-take, length-append, length-drop, length-map, length-take-le, map-append, take-map, take_all}
use Rattle.std.proofs.lemmas.List.Elements.{All-append, All-drop, All-get_or, All-map, All-take, All-weaker, filter-append}
use Rattle.std.proofs.lemmas.Simd.{map-map}
use Rattle.ring_box.proofs.ActingLemmas.{idle_turned}
use Rattle.ring_box.specs.Acting.{Reach, acting_of}
use Rattle.place_blocks.specs.Blocks.{AreInSpan, IsCoarseReach, IsLane, LeavesOutOfSpan}
use Rattle.ring_box.specs.Places.{ArePlaces, places_of}
use Rattle.place_blocks.specs.declared.blocks.Block.{Block}
use Rattle.ring_box.specs.declared.boxes.RingBox.{RingBox}
use Rattle.place_blocks.specs.declared.coarse_reaches.CoarseReach.{CoarseReach}
use Rattle.place_blocks.specs.declared.upper_halves.CellSpan.{CellSpan}
use Rattle.ring_box.specs.declared.vectors.Place3.{Place3}
use Rattle.cell_tiles.specs.Cells.{AreInBlocks, AreLanes, no_block, numbers_below}
use Rattle.cell_tiles.specs.Near.{lanes_of, pair_acts}
use Rattle.cell_tiles.specs.Tiles.{pair_of, pairs_with}
use Rattle.cell_tiles.proofs.CellLemmas.{are_places}
use Rattle.cell_tiles.proofs.LaneLemmas.{by_indices, each_lane_below, lanes_act, length_lanes}
use Rattle.cell_tiles.proofs.NearLemmas.{none_left, pair_idle}

-- ---- some blocks at once

-- if two atoms don't interact according to the coarse test, neither does their pair, in either order
pub out_idle : (d : Reach) (b : RingBox) (frame : List Place3) (coarse : CoarseReach) (i j : ℕ) → All ArePlaces frame → ∥ IsCoarseReach d b coarse ∥₁
    → (IsCoarseReach d b coarse → acting_of d b (places_of frame i) (places_of frame j) ≡ None) → pair_acts d b frame (pair_of i j) ≡ false
out_idle d b frame coarse i j places reach out = ∥∥₁_elim reach (Coded-set coded_bool _ _) (λ r. pair_idle d b frame i j places (out r))

module _ (a : ℕ) (bs : List ℕ) where
  -- the pairs of an atom with the other atoms at these indices
  abbrev pub pairs_at : List ℕ → List (ℕ × ℕ)
  pairs_at js = map (λ j. pair_of a (get_or bs j 0)) js

  pairs_all : pairs_at (numbers_below (length bs)) ≡ pairs_with a bs
  pairs_all = sym (map-map (pair_of a) (λ (j : ℕ). get_or bs j 0) (numbers_below (length bs))) ∙ ap (map (pair_of a)) (by_indices bs)

  -- once the pairs of those lanes are added whose bits are set, those that act are there
  pub marked_act : (acts : ℕ × ℕ → Bool) (bits : ℕ) (old new : List (ℕ × ℕ)) → bits < 2 ^ length bs → length bs ≤ 64 → ((j : ℕ) → j < length bs → bit_at bits j ≡ 0 → acts (pair_of a (get_or bs j 0)) ≡ false)
      → new ≡ old ++ pairs_at (lanes_of bits) → filter acts new ≡ filter acts old ++ filter acts (pairs_with a bs)
  marked_act acts bits old new small few idle is =
      ap (filter acts) is ∙ filter-append acts old (pairs_at (lanes_of bits))
      ∙ ap (λ ys. filter acts old ++ ys) (lanes_act acts (λ j. pair_of a (get_or bs j 0)) bits (length bs) small few idle ∙ ap (filter acts) pairs_all)

  -- they are pairs of the row
  pub marked_listed : (P : ℕ × ℕ → Type 0) (bits : ℕ) (old new : List (ℕ × ℕ)) → bits < 2 ^ length bs → length bs ≤ 64 → All P (pairs_with a bs) → All P old → new ≡ old ++ pairs_at (lanes_of bits) → All P new
  marked_listed P bits old new small few all before is =
      let each : All (λ j. P (pair_of a (get_or bs j 0))) (lanes_of bits) =
      All-weaker (λ j. j < length bs) (λ j. P (pair_of a (get_or bs j 0)))
      (λ j lt. subst P (get_or-map (pair_of a) bs j 0 (0, 0) lt) (All-get_or P (pairs_with a bs) j (0, 0) (omega (arith, length-map bs (pair_of a), lt)) all)) (lanes_of bits) (each_lane_below bits (length bs) small few) in
      rw is (All-append P old (pairs_at (lanes_of bits)) before (All-map P (λ (j : ℕ). pair_of a (get_or bs j 0)) _ each))

  -- and no more than the row has
  pub marked_few : (bits : ℕ) (old new : List (ℕ × ℕ)) → bits < 2 ^ length bs → length bs ≤ 64 → new ≡ old ++ pairs_at (lanes_of bits) → length new ≤ length old + length bs
  marked_few bits old new small few is =
      omega (arith, ap length is, length-append old (pairs_at (lanes_of bits)), length-map (lanes_of bits) (λ (j : ℕ). pair_of a (get_or bs j 0)), length_lanes bits (length bs) small few)

-- ---- a row, part by part

-- a part of a row
part_is : (a s n : ℕ) (bs : List ℕ) → pairs_with a (take n (drop s bs)) ≡ take n (drop s (pairs_with a bs))
part_is a s n bs = sym (take-map (pair_of a) n (drop s bs)) ∙ ap (take n) (sym (drop-map (pair_of a) s bs))

-- a row is passed by one part more
pub part_passed : (acts : ℕ × ℕ → Bool) (a s n t : ℕ) (bs : List ℕ) (old now new : List (ℕ × ℕ)) → t ≡ s + n → filter acts new ≡ filter acts now ++ filter acts (pairs_with a (take n (drop s bs)))
    → filter acts now ≡ filter acts old ++ filter acts (take s (pairs_with a bs)) → filter acts new ≡ filter acts old ++ filter acts (take t (pairs_with a bs))
part_passed acts a s n t bs old now new end part before =
    let ps = pairs_with a bs in
    part ∙ ap (λ ys. ys ++ filter acts (pairs_with a (take n (drop s bs)))) before
    ∙ append_assoc (filter acts old) (filter acts (take s ps)) (filter acts (pairs_with a (take n (drop s bs))))
    ∙ ap (λ ys. filter acts old ++ ys)
    (ap (λ ys. filter acts (take s ps) ++ filter acts ys) (part_is a s n bs) ∙ sym (filter-append acts (take s ps) (take n (drop s ps))) ∙ ap (filter acts) (sym (take-add s n ps) ∙ ap (λ k. take k ps) (sym end)))

-- if a property holds for each pair of a row, it holds for each pair of a part of the row
pub part_all : (P : ℕ × ℕ → Type 0) (a s n : ℕ) (bs : List ℕ) → All P (pairs_with a bs) → All P (pairs_with a (take n (drop s bs)))
part_all P a s n bs all = rw (part_is a s n bs) (All-take P n (drop s (pairs_with a bs)) (All-drop P s (pairs_with a bs) all))

-- the atoms of a part of a row have lanes of the m blocks that the part reaches
pub part_in_blocks : (frame : List Place3) (blocks : List Block) (first s n m : ℕ) (bs : List ℕ) → (first + s) % 16 + n ≤ 16 * m → s + n ≤ length bs → AreInBlocks frame blocks first bs
    → AreInBlocks frame (take m (drop ((first + s) / 16) blocks)) ((first + s) % 16) (take n (drop s bs))
part_in_blocks frame blocks first s n m bs reached within lanes i lt =
    let q = (first + s) / 16 in
    let k = (first + s) % 16 + i in
    let long : length (take n (drop s bs)) ≡ n = length-take-le n (drop s bs) (omega (arith, length-drop s bs)) in
    let below : i < n = omega arith in
    let atom : get_or (take n (drop s bs)) i 0 ≡ get_or bs (s + i) 0 = get_or-take n (drop s bs) i 0 below ∙ get_or-drop s bs i 0 in
    let there : q + k / 16 ≡ (first + (s + i)) / 16 = omega arith in
    let block : get_or (take m (drop q blocks)) (k / 16) no_block ≡ get_or blocks ((first + (s + i)) / 16) no_block =
    get_or-take m (drop q blocks) (k / 16) no_block (omega arith) ∙ get_or-drop q blocks (k / 16) no_block ∙ ap (λ j. get_or blocks j no_block) there in
    let lane : (first + (s + i)) % 16 ≡ k % 16 = omega arith in
    let here : IsLane (get_or blocks ((first + (s + i)) / 16) no_block) ((first + (s + i)) % 16) (places_of frame (get_or bs (s + i) 0)) = lanes (s + i) (omega arith) in
    rw (block, atom, ← lane) here

-- the atoms of a row cut from ys at `column` have the lanes of ys from `column` on
pub row_lanes : (frame : List Place3) (blocks : List Block) (column : ℕ) (bs ys : List ℕ) → bs ≡ take (length bs) (drop column ys) → column + length bs ≤ length ys → AreInBlocks frame blocks 0 ys → AreInBlocks frame blocks column bs
row_lanes frame blocks column bs ys part within lanes i lt =
    let atom : get_or bs i 0 ≡ get_or ys (column + i) 0 = ap (λ xs. get_or xs i 0) part ∙ get_or-take (length bs) (drop column ys) i 0 lt ∙ get_or-drop column ys i 0 in
    let zero_more : 0 + (column + i) ≡ column + i = omega arith in
    let here : IsLane (get_or blocks ((0 + (column + i)) / 16) no_block) ((0 + (column + i)) % 16) (places_of frame (get_or ys (column + i) 0)) = lanes (column + i) (omega arith) in
    rw atom (subst (λ k. IsLane (get_or blocks (k / 16) no_block) (k % 16) (places_of frame (get_or ys (column + i) 0))) zero_more here)

-- ---- atoms that are gathered

-- appending the marked atoms to the gathered ones appends the pairs with the marked atoms
pub gathered_more : (a : ℕ) (bs old new : List ℕ) (bits : ℕ) → new ≡ old ++ map (λ j. get_or bs j 0) (lanes_of bits) → pairs_with a new ≡ pairs_with a old ++ pairs_at a bs (lanes_of bits)
gathered_more a bs old new bits is =
    ap (pairs_with a) is ∙ map-append (pair_of a) old (map (λ j. get_or bs j 0) (lanes_of bits)) ∙ ap (λ ys. pairs_with a old ++ ys) (map-map (pair_of a) (λ (j : ℕ). get_or bs j 0) (lanes_of bits))

-- if a property holds for the candidates and for the gathered atoms, it holds after marked candidates are appended
pub gathered_all : (P : ℕ → Type 0) (bs old new : List ℕ) (bits : ℕ) → bits < 2 ^ length bs → length bs ≤ 64 → All P bs → All P old → new ≡ old ++ map (λ j. get_or bs j 0) (lanes_of bits) → All P new
gathered_all P bs old new bits small few all before is =
    let each = All-weaker (λ j. j < length bs) (λ j. P (get_or bs j 0)) (λ j lt. All-get_or P bs j 0 lt all) (lanes_of bits) (each_lane_below bits (length bs) small few) in
    rw is (All-append P old (map (λ j. get_or bs j 0) (lanes_of bits)) before (All-map P (λ (j : ℕ). get_or bs j 0) _ each))

-- n atoms from index s on, all within one block, have the lanes of this block from the lane s % 16 on
pub own_lanes : (frame : List Place3) (blocks : List Block) (s n : ℕ) (bs : List ℕ) → s % 16 + n ≤ 16 → s + n ≤ length bs → AreInBlocks frame blocks 0 bs → AreLanes frame (get_or blocks (s / 16) no_block) (s % 16) (take n (drop s bs))
own_lanes frame blocks s n bs one within lanes i lt =
    let long : length (take n (drop s bs)) ≡ n = length-take-le n (drop s bs) (omega (arith, length-drop s bs)) in
    let below : i < n = omega arith in
    let atom : get_or (take n (drop s bs)) i 0 ≡ get_or bs (s + i) 0 = get_or-take n (drop s bs) i 0 below ∙ get_or-drop s bs i 0 in
    let same : (0 + (s + i)) / 16 ≡ s / 16 = omega arith in
    let lane : (0 + (s + i)) % 16 ≡ s % 16 + i = omega arith in
    let here : IsLane (get_or blocks ((0 + (s + i)) / 16) no_block) ((0 + (s + i)) % 16) (places_of frame (get_or bs (s + i) 0)) = lanes (s + i) (omega arith) in
    rw (atom, ← same, ← lane) here

-- if s is a multiple of 16, the atoms have the lanes from the lane 0 on
pub first_lanes : (frame : List Place3) (blocks : List Block) (s n : ℕ) (bs : List ℕ) → s % 16 ≡ 0 → n ≤ 16 → s + n ≤ length bs → AreInBlocks frame blocks 0 bs → AreLanes frame (get_or blocks (s / 16) no_block) 0 (take n (drop s bs))
first_lanes frame blocks s n bs aligned few within lanes =
    subst (λ k. AreLanes frame (get_or blocks (s / 16) no_block) k (take n (drop s bs))) aligned (own_lanes frame blocks s n bs (omega arith) within lanes)

-- an atom in a lane whose bit isn't set makes no pair that acts with any of those in a span
pub row_idle : (d : Reach) (b : RingBox) (frame : List Place3) (coarse : CoarseReach) (block : Block) (span : CellSpan) (bits first : ℕ) (atoms ys : List ℕ) (j : ℕ) → All ArePlaces frame → ∥ IsCoarseReach d b coarse ∥₁
    → ((d : Reach) (b : RingBox) → IsCoarseReach d b coarse → LeavesOutOfSpan d b block span bits) → All (λ y. AreInSpan span (places_of frame y)) ys → AreLanes frame block first atoms → first + length atoms ≤ 16 → j < length atoms
    → bit_at bits (first + j) ≡ 0 → filter (pair_acts d b frame) (pairs_with (get_or atoms j 0) ys) ≡ []
row_idle d b frame coarse block span bits first atoms ys j places reach left_out spans lanes within lt unset =
    let a = get_or atoms j 0 in
    let ps = pairs_with a ys in
    let acts = pair_acts d b frame in
    ap (filter acts) (sym (take_all (length ps) ps (omega arith)))
    ∙ none_left acts (length ps) ps
    (λ i below.
    let inside : i < length ys = omega (arith, length-map ys (pair_of a), below) in
    let y = get_or ys i 0 in
    ap acts (get_or-map (pair_of a) ys i 0 (0, 0) inside)
    ∙ out_idle d b frame coarse a y places reach
    (λ r.
    idle_turned d b (places_of frame y) (places_of frame a) (are_places frame y places) (are_places frame a places)
    (left_out d b r (first + j) (places_of frame y) (places_of frame a) (omega (arith, within, lt)) (All-get_or (λ y. AreInSpan span (places_of frame y)) ys i 0 inside spans) (lanes j lt) unset)))
