-- The sums over lists of a frame's pairs equal the sums over all pairs of the frame.
use Rattle.std.proofs.Common.{◌≡◌, ℕ, ◌+◌, ◌*◌, ◌^◌, ◌<◌, ◌≤◌, List, length, map, ℤ, Option, Some, None, arith, refl, ap, ap₂, sym, ◌∙◌, option_map, slice_index, unwrap_or, mul-le-mul_left, flat_map}
use Rattle.std.proofs.lemmas.List.{length-map}
use Rattle.cell_tiles.proofs.SumLemmas.{IsAddition, numbers}
use Rattle.cell_tiles.specs.Near.{pair_acts}
use Rattle.pair_lists.specs.Lists.{AreListsOf}
use Rattle.ring_box.specs.Forces.{acting_distance_of, force_along_of, no_force}
use Rattle.ring_box.specs.Places.{places_of}
use Rattle.ring_box.specs.declared.found_pairs.FoundPair.{FoundPair}
use Rattle.ring_box.specs.declared.vectors.Place3.{Place3}
use Rattle.ring_box.specs.declared.vectors.Vector.{Vector}
use Rattle.rounds.proofs.CountLemmas.{sum_flat_map}
use Rattle.integrator.proofs.ForceLaws.{frame_pairs}
use Rattle.integrator.specs.Forces.{pairs_of}
use Rattle.integrator.specs.Frames.{Frame, pair_force}
use Rattle.integrator.specs.declared.systems.System.{System}
use Rattle.observables.specs.Bounds.{AreBounded}
use Rattle.observables.specs.declared.observations.PairSums.{PairSums}
use Rattle.observables.specs.declared.observations.PairTotals.{PairTotals}
use Rattle.potential.specs.Potentials.{minus, potential_of, slope_at}
use Rattle.potential.specs.declared.slope_kernels.SlopeKernel.{SlopeKernel}
use Rattle.frame_sums.specs.FrameSums.{ArePairTotals, if_acting, pair_sums, pair_sums_of}
use Rattle.frame_sums.specs.PairEnergies.{energy_of}
use Rattle.frame_sums.specs.PairSums.{AreSumsOfPairs, no_sums, plus_sums, sums_between, sums_of, sums_over}
use Rattle.frame_sums.specs.Rounds.{acting_force, pair_add}
use Rattle.frame_sums.specs.Rows.{add_found, found_of, pairs_found, reach_of}
use Rattle.frame_sums.specs.SafeSystems.{IsSafeSystem, safe_dynamics}
use Rattle.frame_sums.specs.Sums.{total_over}
use Rattle.frame_sums.proofs.PairSumLaws.{bounded_weaker, sums_laws}
use Rattle.frame_sums.proofs.RowLaws.{found_adds, not_found}
use Rattle.frame_sums.proofs.SafeLaws.{forced, slopes}
use Rattle.frame_sums.proofs.TileLaws.{are_pairs, twice_pairs}
use Rattle.frame_sums.proofs.TotalLaws.{given, given_map, one_total, ones_total, some_total, total_alike, total_found, total_map}

-- ---- a pair

module _ {A : Type 0} (s : System (SlopeKernel A) A) (frame : Frame) where
  -- the sums over a pair, if it interacts and its force is the one that a round adds
  given_at : (p : ℕ × ℕ) (x y : Place3) (force : ℤ → Vector ℤ) (o : Option ℤ) → places_of frame p.0 ≡ x → places_of frame p.1 ≡ y
      → given no_sums (sums_of s.frac s.ring s.core frame) (option_map (pair_add p.0 p.1) (option_map force o))
      ≡ if_acting (sums_between s.frac s.ring s.core (unwrap_or (option_map force o) no_force) x y) o
  given_at p x y force None at_x at_y = refl
  given_at p x y force (Some r) at_x at_y = ap₂ (sums_between s.frac s.ring s.core (force r)) at_x at_y

  pair_given : IsSafeSystem s → (i j : ℕ) → i < j → j < length s.types.items
      → given no_sums (sums_of s.frac s.ring s.core frame) (option_map (add_found s) (found_of s frame (i, j))) ≡ pair_sums (safe_dynamics s) frame (i, j)
  pair_given accepted i j ordered below =
      let x = places_of frame i in
      let y = places_of frame j in
      let slope = λ (r : ℤ). slope_at (potential_of s.kernel) (slice_index s.types.items i) (slice_index s.types.items j) r in
      let o = acting_distance_of s.frac s.ring s.core s.cutoff x y in
      let has : pair_force (safe_dynamics s) frame (i, j) ≡ Some (unwrap_or (acting_force s frame (i, j)) no_force) =
      forced s.kernel.verified.bound s.ring slope o x y (slopes s accepted i j (omega arith) below x y) in
      ap (given no_sums (sums_of s.frac s.ring s.core frame)) (found_adds s frame (i, j))
      ∙ (given_at (i, j) x y (λ r. force_along_of s.ring (minus (slope r)) x y) o refl refl
      ∙ sym (ap (λ f. if_acting (sums_between s.frac s.ring s.core (unwrap_or f no_force) x y) o) has))

-- ---- all pairs

module _ {A : Type 0} (s : System (SlopeKernel A) A) (accepted : IsSafeSystem s) (frame : Frame) (lists : List (List (ℕ × ℕ))) (are : AreListsOf (length frame) (pair_acts (reach_of s) s.ring frame) lists)
    (atoms : length frame ≡ length s.types.items) where
  -- the total over the pairs found is the total over all pairs, if pairs that aren't found have the value zero
  pub total_of_found : {S : Type 0} (zero : S) (plus : S → S → S) → IsAddition zero plus → (f : FoundPair → S) (value : ℕ × ℕ → S)
      → ((i j : ℕ) → i < j → j < length frame → given zero f (found_of s frame (i, j)) ≡ value (i, j)) → total_over zero plus f (pairs_found s frame lists) ≡ total_over zero plus value (pairs_of (length frame))
  total_of_found zero plus laws f value each =
      let n = length frame in
      let g = λ (p : ℕ × ℕ). given zero f (found_of s frame p) in
      total_found zero plus laws f (found_of s frame) lists
      ∙ (one_total zero plus laws g (pair_acts (reach_of s) s.ring frame) (λ p idle. ap (given zero f) (not_found s frame p idle)) (flat_map (λ ps. ps) lists) (pairs_of n)
      (λ w idle. sum_flat_map w (λ ps. ps) lists ∙ are.sums w (pairs_of n) (are_pairs n) idle)
      ∙ total_alike zero plus laws g value n each (pairs_of n) (frame_pairs n 0 n (omega arith)))

  -- fewer than 2^32 pairs are found
  pub few_found : length (pairs_found s frame lists) < 2 ^ 32
  few_found =
      let n = length frame in
      let F = found_of s frame in
      let same = total_of_found 0 (λ a b. a + b) numbers (λ _. 1) (λ p. given 0 (λ _. 1) (F p)) (λ i j ordered below. refl) in
      let size : length s.types.items ≡ length s.masses.items = s.atoms in
      let most : length s.masses.items ≤ 65536 = s.most_atoms in
      let squares : n * n ≤ n * 65536 = mul-le-mul_left n (omega arith) in
      omega (arith, same, ones_total (pairs_found s frame lists), some_total F (pairs_of n), twice_pairs 0 n, squares)

  -- the sums over the pairs found are the sums over all pairs
  sums_told : sums_over (sums_of s.frac s.ring s.core frame) (map (add_found s) (pairs_found s frame lists)) ≡ pair_sums_of (safe_dynamics s) frame
  sums_told =
      let f = sums_of s.frac s.ring s.core frame in
      total_map no_sums plus_sums sums_laws f (add_found s) (pairs_found s frame lists)
      ∙ total_of_found no_sums plus_sums sums_laws (λ x. f (add_found s x)) (pair_sums (safe_dynamics s) frame)
      (λ i j ordered below. given_map no_sums f (add_found s) (found_of s frame (i, j)) ∙ pair_given s frame accepted i j ordered (omega (arith, below, atoms)))

  -- With the energy of the frame, the sums over the pairs found are the totals of the frame. The system `t` is equal.
  pub totals_of_found : (t : System (SlopeKernel A) A) → s ≡ t → (value : ℕ × ℕ → ℤ → Option ℤ) (totals : PairTotals)
      → AreSumsOfPairs s.frac s.ring s.core frame (map (add_found s) (pairs_found s frame lists)) totals.sums
      → energy_of (safe_dynamics t) value frame ≡ Some totals.energy → ArePairTotals (safe_dynamics t) value frame totals
  totals_of_found t same value totals of_pairs energy = record {
    energy = energy;
    sums = of_pairs.value ∙ (sums_told ∙ ap (λ u. pair_sums_of (safe_dynamics u) frame) same);
  }

  -- no more than the bounds of 2^32 pairs
  pub sums_bounded : (sums : PairSums) → AreSumsOfPairs s.frac s.ring s.core frame (map (add_found s) (pairs_found s frame lists)) sums → AreBounded (2 ^ 32) sums
  sums_bounded sums of_pairs =
      bounded_weaker (length (map (add_found s) (pairs_found s frame lists))) (2 ^ 32) sums
      (omega (arith, few_found, length-map (pairs_found s frame lists) (add_found s))) of_pairs.bounded
