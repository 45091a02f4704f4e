-- Blocks that are laid out beside atoms, one after another.
use Rattle.std.proofs.Common.{◌≡◌, ◌≢◌, ℕ, ◌+◌, ◌*◌, ◌/◌, ◌%◌, ◌<◌, ◌≤◌, List, [], ◌∷◌, ◌++◌, length, get_or, set, drop, map, refl, subst, sym, ap, ◌∙◌, ⊎_elim, arith}
use Rattle.std.proofs.lemmas.Bool.{cases_eq, cases_lt}
use Rattle.std.proofs.lemmas.List.{get_or-drop, get_or-set_other, get_or-set_same, get_or_append_left, get_or_past, get_or_push, length-drop, length-map, length_push, map-set}
use Rattle.place_blocks.specs.Blocks.{AreUpperHalves, IsLane, halves_at}
use Rattle.ring_box.specs.Places.{places_of}
use Rattle.place_blocks.specs.declared.blocks.Block.{Block}
use Rattle.place_blocks.specs.declared.upper_halves.UpperHalves.{UpperHalves}
use Rattle.ring_box.specs.declared.vectors.Place3.{Place3}
use Rattle.cell_tiles.specs.Cells.{AreBlocks, AreInBlocks, no_block}

-- one block more
pub block_more : (frame : List Place3) (atoms : List ℕ) (bs : List Block) (n : ℕ) (x : Block) → length bs ≡ n
    → ((i : ℕ) → i < n * 16 → i < length atoms → IsLane (get_or bs (i / 16) no_block) (i % 16) (places_of frame (get_or atoms i 0)))
    → ((j : ℕ) → j < 16 → j < length (drop (16 * n) atoms) → IsLane x j (places_of frame (get_or (drop (16 * n) atoms) j 0)))
    → (i : ℕ) → i < (n + 1) * 16 → i < length atoms → IsLane (get_or (bs ++ x ∷ []) (i / 16) no_block) (i % 16) (places_of frame (get_or atoms i 0))
block_more frame atoms bs n x long before block i lt inside =
    ⊎_elim (λ below. rw (get_or_append_left bs (x ∷ []) no_block (i / 16) (omega arith)) (before i below inside)) last (cases_lt i (n * 16))
  where
    last : n * 16 ≤ i → IsLane (get_or (bs ++ x ∷ []) (i / 16) no_block) (i % 16) (places_of frame (get_or atoms i 0))
    last le =
        let e : length bs ≡ i / 16 = omega arith in
        let there : 16 * n + i % 16 ≡ i = omega arith in
        let atom : get_or (drop (16 * n) atoms) (i % 16) 0 ≡ get_or atoms i 0 = get_or-drop (16 * n) atoms (i % 16) 0 ∙ ap (λ k. get_or atoms k 0) there in
        let here = block (i % 16) (omega arith) (omega (arith, length-drop (16 * n) atoms)) in
        rw (get_or_push bs x no_block (i / 16) e, ← atom) here

module _ (frame : List Place3) {Y : Type 0} (blocks_of : Y → List Block) where
  -- the blocks of one cell more
  pub cell_more : (members : List (List ℕ)) (blocks : List Y) (n : ℕ) (y : Y) → n < length blocks → AreBlocks frame (get_or members n []) (blocks_of y)
      → ((c : ℕ) → c < n → AreBlocks frame (get_or members c []) (get_or (map blocks_of blocks) c []))
      → (c : ℕ) → c < n + 1 → AreBlocks frame (get_or members c []) (get_or (map blocks_of (set blocks n y)) c [])
  cell_more members blocks n y lt here before c below =
      subst (λ bs. AreBlocks frame (get_or members c []) (get_or bs c [])) (sym (map-set blocks_of blocks n y))
      (⊎_elim
      (λ (e : c ≡ n). rw (e, get_or-set_same (map blocks_of blocks) n (blocks_of y) [] (omega (arith, length-map blocks blocks_of))) here)
      (λ ne. rw (get_or-set_other (map blocks_of blocks) n c (blocks_of y) [] ne) (before c (omega arith)))
      (cases_eq c n))

-- past the last cell the look-ups return empty lists, which satisfy `AreBlocks`
pub no_cell : (frame : List Place3) (members : List (List ℕ)) (blocks : List (List Block)) (c : ℕ) → length members ≤ c → length blocks ≤ c → AreBlocks frame (get_or members c []) (get_or blocks c [])
no_cell frame members blocks c m b = rw (get_or_past members c [] m, get_or_past blocks c [] b) (record { long = refl; lanes = λ i lt. absurd (omega arith) })

-- ---- lanes that are filled one after another

-- a lane more is filled
pub lane_more : (frame : List Place3) (blocks : List Block) (n x : ℕ) (xs : List ℕ) (here : Block) (halves : UpperHalves) → length xs ≡ n → n / 16 < length blocks
    → halves_at here (n % 16) ≡ halves → ((k : ℕ) → k ≢ n % 16 → halves_at here k ≡ halves_at (get_or blocks (n / 16) no_block) k) → AreUpperHalves halves (places_of frame x)
    → AreInBlocks frame blocks 0 xs → AreInBlocks frame (set blocks (n / 16) here) 0 (xs ++ x ∷ [])
lane_more frame blocks n x xs here halves long room set_to kept is before i lt =
    ⊎_elim last earlier (cases_eq i n)
  where
    last : i ≡ n → IsLane (get_or (set blocks (n / 16) here) ((0 + i) / 16) no_block) ((0 + i) % 16) (places_of frame (get_or (xs ++ x ∷ []) i 0))
    last e =
        let m : 0 + i ≡ n = omega arith in
        let atom : get_or (xs ++ x ∷ []) i 0 ≡ x = get_or_push xs x 0 i (omega arith) in
        let block : get_or (set blocks (n / 16) here) (n / 16) no_block ≡ here = get_or-set_same blocks (n / 16) here no_block room in
        subst (λ k. IsLane (get_or (set blocks (n / 16) here) (k / 16) no_block) (k % 16) (places_of frame (get_or (xs ++ x ∷ []) i 0))) (sym m)
        (subst (λ a. IsLane (get_or (set blocks (n / 16) here) (n / 16) no_block) (n % 16) (places_of frame a)) (sym atom)
        (subst (λ b. IsLane b (n % 16) (places_of frame x)) (sym block) (subst (λ h. AreUpperHalves h (places_of frame x)) (sym set_to) is)))

    earlier : i ≢ n → IsLane (get_or (set blocks (n / 16) here) ((0 + i) / 16) no_block) ((0 + i) % 16) (places_of frame (get_or (xs ++ x ∷ []) i 0))
    earlier ne =
        let below : i < length xs = omega (arith, length_push xs x) in
        let atom : get_or (xs ++ x ∷ []) i 0 ≡ get_or xs i 0 = get_or_append_left xs (x ∷ []) 0 i below in
        subst (λ a. IsLane (get_or (set blocks (n / 16) here) ((0 + i) / 16) no_block) ((0 + i) % 16) (places_of frame a)) (sym atom)
        (⊎_elim
        (λ (same : (0 + i) / 16 ≡ n / 16).
        let block : get_or (set blocks (n / 16) here) ((0 + i) / 16) no_block ≡ here = ap (λ j. get_or (set blocks (n / 16) here) j no_block) same ∙ get_or-set_same blocks (n / 16) here no_block room in
        let other : (0 + i) % 16 ≢ n % 16 = λ e. ne (omega arith) in
        let halves_kept : halves_at here ((0 + i) % 16) ≡ halves_at (get_or blocks ((0 + i) / 16) no_block) ((0 + i) % 16) = kept ((0 + i) % 16) other ∙ ap (λ j. halves_at (get_or blocks j no_block) ((0 + i) % 16)) (sym same) in
        subst (λ b. IsLane b ((0 + i) % 16) (places_of frame (get_or xs i 0))) (sym block) (subst (λ h. AreUpperHalves h (places_of frame (get_or xs i 0))) (sym halves_kept) (before i below)))
        (λ ne'. subst (λ b. IsLane b ((0 + i) % 16) (places_of frame (get_or xs i 0))) (sym (get_or-set_other blocks (n / 16) ((0 + i) / 16) here no_block ne')) (before i below))
        (cases_eq ((0 + i) / 16) (n / 16)))
