-- The interacting pairs of a frame, list by list: their sums equal the sums over all pairs of the frame.
use Rattle.std.proofs.Common.{◌≡◌, ℕ, ◌+◌, ◌*◌, ◌%◌, ◌^◌, ◌<◌, ◌≤◌, List, [], ◌∷◌, ◌++◌, length, map, take, ℤ, pos, ◌+ℤ◌, Some, drop, arith, append-nil, refl, ap, ap₂, subst, sym, ◌∙◌, slice_index_or, unsigned_abs, flat_map}
use Rattle.std.proofs.lemmas.Grind.{flat_map-append, take_at_read}
use Rattle.std.proofs.lemmas.List.{append_assoc, length-append, map-append, take-append-drop}
use Rattle.cell_tiles.specs.Near.{pair_acts}
use Rattle.pair_lists.specs.Lists.{AreListsOf}
use Rattle.ring_box.specs.declared.found_pairs.FoundPair.{FoundPair}
use Rattle.rounds.proofs.WordLemmas.{tiles_total, words_told}
use Rattle.rounds.proofs.ActingLemmas.{acting_append, tile_of_acting}
use Rattle.rounds.specs.Tiles.{acting, additions_of, additions_of_all, on_entry, tile_of, total}
use Rattle.rounds.specs.Tiles as round
use Rattle.rounds.specs.declared.work.PairAdd.{PairAdd}
use Rattle.integrator.proofs.ForceLaws.{frame_pairs}
use Rattle.integrator.specs.Forces.{pairs_of}
use Rattle.integrator.specs.Frames.{Frame}
use Rattle.integrator.specs.declared.systems.System.{System}
use Rattle.potential.specs.declared.slope_kernels.SlopeKernel.{SlopeKernel}
use Rattle.frame_sums.proofs.EnergyTileLaws.{all_told, energy_small, energy_worth}
use Rattle.frame_sums.proofs.FrameSumLaws.{total_of_found}
use Rattle.frame_sums.proofs.RowLaws.{all_found}
use Rattle.frame_sums.proofs.TileLaws.{frame_round}
use Rattle.frame_sums.proofs.TotalLaws.{integer_total, integers}
use Rattle.frame_sums.specs.ForceSums.{AreForcesOfPairs}
use Rattle.frame_sums.specs.Rounds.{AreForces, add_of, plan_of}
use Rattle.frame_sums.specs.Rows.{AreNextFound, add_found, found_in, found_of, pairs_found, reach_of}
use Rattle.frame_sums.specs.SafeEnergies.{AllHaveEnergies, IsEnergyOf, IsEnergyOfPairs, energy_between, found_energy}
use Rattle.frame_sums.specs.SafeSystems.{IsSafeSystem}
use Rattle.frame_sums.specs.Sums.{sum_over}

-- the additions of the pairs `done`, then the additions of the pairs `found`, are the additions of both lists together
pub additions_follow : {A : Type 0} (s : System (SlopeKernel A) A) (done found : List FoundPair) (adds : List PairAdd) → adds ≡ map (add_found s) found
    → additions_of_all (map (add_found s) done) ++ additions_of_all adds ≡ additions_of_all (map (add_found s) (done ++ found))
additions_follow s done found adds are =
    sym (flat_map-append (λ add. additions_of (Some add)) (map (add_found s) done) adds)
    ∙ ap additions_of_all (ap (λ xs. map (add_found s) done ++ xs) are ∙ sym (map-append (add_found s) done found))

module _ {A : Type 0} (s : System (SlopeKernel A) A) (frame : Frame) where
  -- ---- within a tile

  -- no more of the first pairs act than of all
  pub few_first : (ps : List (ℕ × ℕ)) (n : ℕ) → length (acting (map (found_of s frame) (take n ps))) ≤ length (acting (map (found_of s frame) ps))
  few_first ps n =
      let F = found_of s frame in
      let parts = acting_append (map F (take n ps)) (map F (drop n ps)) in
      let whole : map F (take n ps) ++ map F (drop n ps) ≡ map F ps = sym (map-append F (take n ps) (drop n ps)) ∙ ap (map F) (take-append-drop n ps) in
      omega (arith, ap length parts, ap (λ os. length (acting os)) whole, length-append (acting (map F (take n ps))) (acting (map F (drop n ps))))

  -- if there is room for all interacting pairs of the tile, there is room for the pairs found next
  pub row_fits : (done : List FoundPair) (ps : List (ℕ × ℕ)) (k n : ℕ) (found : List FoundPair) → AreNextFound s frame ps k found n
      → length done + length (acting (map (found_of s frame) ps)) < 2 ^ 32 → length (done ++ acting (map (found_of s frame) (take k ps))) + length found < 2 ^ 32
  row_fits done ps k n found is few =
      let F = found_of s frame in
      let before = acting (map F (take k ps)) in
      omega (arith, few, few_first ps n, ap length is.acting, length-append before found, length-append done before)

  -- the pairs before the number n, after those that were there
  pub row_follows : (done : List FoundPair) (ps : List (ℕ × ℕ)) (k n : ℕ) (found : List FoundPair) → AreNextFound s frame ps k found n
      → (done ++ acting (map (found_of s frame) (take k ps))) ++ found ≡ done ++ acting (map (found_of s frame) (take n ps))
  row_follows done ps k n found is =
      append_assoc done (acting (map (found_of s frame) (take k ps))) found ∙ ap (λ xs. done ++ xs) (sym is.acting)

  -- ---- list by list

  -- the pairs found in t + 1 lists are the pairs found in t lists, then the pairs found in the list t
  pub found_next : (lists : List (List (ℕ × ℕ))) (t : ℕ) → t < length lists
      → pairs_found s frame (take (t + 1) lists) ≡ pairs_found s frame (take t lists) ++ found_in s frame (slice_index_or lists t [])
  found_next lists t lt =
      let next = slice_index_or lists t [] in
      ap (pairs_found s frame) (take_at_read lists t [] lt).1
      ∙ (flat_map-append (found_in s frame) (take t lists) (next ∷ []) ∙ ap (λ xs. pairs_found s frame (take t lists) ++ xs) (append-nil (found_in s frame next)))

  found_in_first : (lists : List (List (ℕ × ℕ))) (t : ℕ) → length (pairs_found s frame (take t lists)) ≤ length (pairs_found s frame lists)
  found_in_first lists t =
      let parts = flat_map-append (found_in s frame) (take t lists) (drop t lists) in
      let whole : pairs_found s frame (take t lists ++ drop t lists) ≡ pairs_found s frame lists = ap (pairs_found s frame) (take-append-drop t lists) in
      omega (arith, ap length parts, ap length whole, length-append (pairs_found s frame (take t lists)) (pairs_found s frame (drop t lists)))

  -- the pairs of the first lists and of the next are no more than all
  pub few_with_next : (lists : List (List (ℕ × ℕ))) (t : ℕ) → t < length lists
      → length (pairs_found s frame (take t lists)) + length (found_in s frame (slice_index_or lists t [])) ≤ length (pairs_found s frame lists)
  few_with_next lists t lt =
      omega (arith, found_in_first lists (t + 1), ap length (found_next lists t lt), length-append (pairs_found s frame (take t lists)) (found_in s frame (slice_index_or lists t [])))

  -- ---- additions

  -- the additions of the pairs found in some lists are the additions of the tiles of their plan, one after another
  additions_in : (lists : List (List (ℕ × ℕ))) → additions_of_all (map (add_found s) (pairs_found s frame lists)) ≡ flat_map tile_of (plan_of s frame lists)
  additions_in [] = refl
  additions_in (ps ∷ lists) =
      let found = found_in s frame ps in
      ap additions_of_all (map-append (add_found s) found (pairs_found s frame lists))
      ∙ (flat_map-append (λ add. additions_of (Some add)) (map (add_found s) found) (map (add_found s) (pairs_found s frame lists))
      ∙ ap₂ (λ xs ys. xs ++ ys) (ap additions_of_all (sym (all_found s frame ps)) ∙ sym (tile_of_acting (map (add_of s frame) ps))) (additions_in lists))

  module _ (accepted : IsSafeSystem s) (lists : List (List (ℕ × ℕ))) (are : AreListsOf (length frame) (pair_acts (reach_of s) s.ring frame) lists)
      (atoms : length frame ≡ length s.types.items) where
    -- the sums of their forces are the forces on the atoms
    pub forces_of_found : (sums : List ℤ) → AreForcesOfPairs s (pairs_found s frame lists) sums → AreForces s frame sums
    forces_of_found sums added =
        let plan = plan_of s frame lists in
        let adds = additions_of_all (map (add_found s) (pairs_found s frame lists)) in
        let same : adds ≡ flat_map tile_of plan = additions_in lists in
        frame_round s frame lists accepted are atoms sums
        (words_told (λ k. on_entry k adds) (total (round.tiles_of plan)) (3 * length s.types.items) (3 * length frame) sums added (omega (arith, atoms))
        (λ k lt. ap (λ m. m % 2 ^ 64) (ap (on_entry k) same ∙ tiles_total plan k)))

    -- the energy of the pairs found is the energy of the frame, and its magnitude is below 2^95
    pub energy_of_found : (t : System (SlopeKernel A) A) → s ≡ t → AllHaveEnergies t → (z : ℤ) → IsEnergyOfPairs s (pairs_found s frame lists) z → IsEnergyOf t frame z × (unsigned_abs z < 2 ^ 95)
    energy_of_found t same given z is =
        let had = subst (λ u. AllHaveEnergies u) (sym same) given in
        let n = length frame in
        let pairs = frame_pairs n 0 n (omega arith) in
        let sum : sum_over (found_energy s) (pairs_found s frame lists) ≡ sum_over (energy_between s frame) (pairs_of n) =
        integer_total (found_energy s) (pairs_found s frame lists)
        ∙ (total_of_found s accepted frame lists are atoms (pos 0) (λ a b. a +ℤ b) integers (found_energy s) (energy_between s frame) (λ i j ordered below. energy_worth s frame (i, j))
        ∙ sym (integer_total (energy_between s frame) (pairs_of n))) in
        let told : IsEnergyOf s frame z = all_told s accepted had frame n (pairs_of n) (omega (arith, atoms)) pairs ∙ ap Some (sym (is.value ∙ sum)) in
        (subst (λ u. IsEnergyOf u frame z) same told, energy_small s accepted had frame z atoms told)
