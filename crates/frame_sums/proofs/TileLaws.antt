-- All pairs of a frame, each once; and lists of pairs: the plan of their forces, and the sums of a round over them.
use Rattle.std.proofs.Common.{◌≡◌, ℕ, zero, suc, ◌+◌, ◌*◌, ◌^◌, ◌<◌, false, cond, List, [], length, get_or, ℤ, arith, refl, ap, subst, sym, ◌∙◌, map, option_map, nat_le, nat_lt, ◌==◌, ◌&&◌, if◌then◌else◌, slice_index, slice_index_or, All}
use Rattle.std.proofs.lemmas.Bool.Decides.{nat_tests}
use Rattle.std.proofs.lemmas.List.{get_or-map, length-append, length-map}
use Rattle.std.proofs.lemmas.List.Sums.{sum_by-append, sum_by-cons}
use Rattle.cell_tiles.specs.Cover.{ArePairs, is_pair, is_same, times}
use Rattle.cell_tiles.specs.Near.{pair_acts}
use Rattle.cell_tiles.specs.Near as near
use Rattle.pair_lists.specs.Lists.{AreListsOf}
use Rattle.pair_lists.specs.PairLists.{IsPrepared, PreparedPairs, lists_of}
use Rattle.ring_box.specs.Forces.{acting_distance_of}
use Rattle.ring_box.specs.Places.{places_of}
use Rattle.rounds.specs.Totals.{AreTotals}
use Rattle.rounds.proofs.ExactLemmas.{comes_out}
use Rattle.rounds.specs.Tiles.{IsPairOf, additions_of, on_entry, pairs_at}
use Rattle.rounds.specs.Tiles as round
use Rattle.integrator.specs.Forces.{pairs_from, pairs_of, pairs_with}
use Rattle.integrator.specs.Frames.{Frame, pair_force}
use Rattle.integrator.specs.declared.systems.System.{System}
use Rattle.frame_sums.proofs.RoundLaws.{AddsForce, round_forces, weight}
use Rattle.frame_sums.proofs.RowLaws.{found_adds, not_found}
use Rattle.frame_sums.proofs.SafeLaws.{bound_fits, forced, has_force, slopes}
use Rattle.frame_sums.specs.Rounds.{AreForces, acting_force, add_of, plan_of}
use Rattle.frame_sums.specs.Rows.{add_found, reach_of}
use Rattle.frame_sums.specs.SafeSystems.{IsSafeSystem, safe_dynamics}
use Rattle.potential.specs.Potentials.{potential_of, slope_at}
use Rattle.potential.specs.declared.slope_kernels.SlopeKernel.{SlopeKernel}

-- ---- each pair occurs once among all pairs

-- 1 for the pair itself, and 0 for another
abbrev once : ℕ × ℕ → ℕ × ℕ → ℕ
once p q = cond (is_same p q) 1 0

module _ (p : ℕ × ℕ) where
  row_times : (i j m : ℕ) → times p (pairs_with i j m) ≡ cond ((p.0 == i) && (nat_le j p.1 && nat_lt p.1 (j + m))) 1 0
  unfolding pairs_with
  row_times i j zero = grind (arith, nat_tests)
  row_times i j (suc m) = let rest = row_times i (suc j) m in grind (arith, nat_tests, rest, sum_by-cons (once p) (i, j) (pairs_with i (suc j) m))

  rows_times : (i m : ℕ) → times p (pairs_from i m) ≡ cond (nat_le i p.0 && (nat_lt p.0 p.1 && nat_lt p.1 (i + m))) 1 0
  unfolding pairs_from
  rows_times i zero = grind (arith, nat_tests)
  rows_times i (suc m) =
      let row = row_times i (suc i) m in
      let rest = rows_times (suc i) m in
      grind (arith, nat_tests, row, rest, sum_by-append (once p) (pairs_with i (suc i) m) (pairs_from (suc i) m))

  pair_once : (n : ℕ) → times p (pairs_of n) ≡ (if is_pair n p then 1 else 0)
  pair_once n = let all = rows_times 0 n in grind (arith, nat_tests, all)

-- each pair of n atoms, the lower first, occurs once in the list of their pairs, and no other pair does
pub are_pairs : (n : ℕ) → ArePairs n (pairs_of n)
are_pairs n p = pair_once p n

-- ---- the list of a tile

-- the plan of a tile has the force of each pair of its list, if the pair interacts
pub tile_planned : {A : Type 0} (s : System (SlopeKernel A) A) (frame : Frame) (lists : List (List (ℕ × ℕ))) (t : ℕ) → t < length lists
    → pairs_at (plan_of s frame lists) t ≡ map (add_of s frame) (slice_index_or lists t [])
tile_planned s frame lists t lt = get_or-map (λ (ps : List (ℕ × ℕ)). map (add_of s frame) ps) lists t [] [] lt

-- there are as many tiles in the plan as lists, and as many pairs in a tile of the plan as in its list
pub plan_length : {A : Type 0} (s : System (SlopeKernel A) A) (frame : Frame) (lists : List (List (ℕ × ℕ))) → length (plan_of s frame lists) ≡ length lists
plan_length s frame lists = length-map lists (λ (ps : List (ℕ × ℕ)). map (add_of s frame) ps)

pub tile_length : {A : Type 0} (s : System (SlopeKernel A) A) (frame : Frame) (lists : List (List (ℕ × ℕ))) (t : ℕ) → t < length lists
    → length (pairs_at (plan_of s frame lists) t) ≡ length (slice_index_or lists t [])
tile_length s frame lists t lt = ap length (tile_planned s frame lists t lt) ∙ length-map (slice_index_or lists t []) (add_of s frame)

-- if a list has a pair, there are two atoms, so the bound on derivatives is below 2^63 and negatives fit 64 bits
pub bound_by_pair : {A : Type 0} (s : System (SlopeKernel A) A) (n : ℕ) (lists : List (List (ℕ × ℕ))) (t k : ℕ) → IsSafeSystem s → All (All (near.IsPairOf n)) lists → n ≡ length s.types.items
    → t < length lists → k < length (slice_index_or lists t []) → s.kernel.verified.bound < 2 ^ 63
bound_by_pair s n lists t k accepted inside atoms at_tile at_pair =
    let p = get_or (slice_index_or lists t []) k (0, 0) in
    let pair : near.IsPairOf n p = inside t [] at_tile k (0, 0) at_pair in
    bound_fits s accepted p.0 p.1 pair.0 (omega (arith, pair.1, atoms))

-- ---- how many pairs there are

length_row : (i j m : ℕ) → length (pairs_with i j m) ≡ m
unfolding pairs_with
length_row i j zero = refl
length_row i j (suc m) = omega (arith, length_row i (suc j) m)

-- half of the square of the atoms, less half of the atoms
pub twice_pairs : (i m : ℕ) → 2 * length (pairs_from i m) + m ≡ m * m
unfolding pairs_from
twice_pairs i zero = refl
twice_pairs i (suc m) =
    omega (arith, twice_pairs (suc i) m, length-append (pairs_with i (suc i) m) (pairs_from (suc i) m), length_row i (suc i) m)

-- ---- the sums of a round

-- the lists of the frame that was prepared last are lists of the pairs that interact at the system's distances
pub prepared_lists : {A : Type 0} (s : System (SlopeKernel A) A) (frame : Frame) (p : PreparedPairs) → p.ring ≡ s.ring → p.reach ≡ reach_of s → IsPrepared p frame
    → AreListsOf (length frame) (pair_acts (reach_of s) s.ring frame) (lists_of p)
prepared_lists s frame p ring reach prepared =
    subst (λ b. AreListsOf (length frame) (pair_acts (reach_of s) b frame) (lists_of p)) ring
    (subst (λ d. AreListsOf (length frame) (pair_acts d p.ring frame) (lists_of p)) reach prepared.listed)

module _ {A : Type 0} (s : System (SlopeKernel A) A) (frame : Frame) where
  -- a pair that doesn't interact adds nothing
  idle_adds_nothing : (e : ℕ) (p : ℕ × ℕ) → pair_acts (reach_of s) s.ring frame p ≡ false → weight (add_of s frame) e p ≡ 0
  idle_adds_nothing e p idle = ap (λ o. on_entry e (additions_of o)) (sym (found_adds s frame p) ∙ ap (option_map (add_found s)) (not_found s frame p idle))

  adds_force : IsSafeSystem s → (i j : ℕ) → i < j → j < length s.types.items → AddsForce (pair_force (safe_dynamics s) frame) (add_of s frame) (i, j)
  adds_force accepted i j apart below =
      let x = places_of frame i in
      let y = places_of frame j in
      record {
        acting = acting_force s frame (i, j);
        adds = refl;
        is = forced s.kernel.verified.bound s.ring (λ r. slope_at (potential_of s.kernel) (slice_index s.types.items i) (slice_index s.types.items j) r)
            (acting_distance_of s.frac s.ring s.core s.cutoff x y) x y (slopes s accepted i j (omega arith) below x y);
      }

  -- totals of a round over lists of the frame's pairs are the forces on its atoms
  pub frame_round : (lists : List (List (ℕ × ℕ))) → IsSafeSystem s → AreListsOf (length frame) (pair_acts (reach_of s) s.ring frame) lists → length frame ≡ length s.types.items
      → (sums : List ℤ) → AreTotals (round.tiles_of (plan_of s frame lists)) (length frame) sums → AreForces s frame sums
  frame_round lists accepted are atoms sums totals =
      let size : length frame ≡ length s.masses.items = atoms ∙ s.atoms in (
        totals.count,
        round_forces s.kernel.verified.bound (length frame) (pair_force (safe_dynamics s) frame) (add_of s frame)
            (λ i j apart below. has_force s accepted frame i j apart (omega arith))
            (λ i j apart below. adds_force accepted i j apart (omega arith))
            (rw size accepted.fits)
            lists sums
            (λ e. are.sums (weight (add_of s frame) e) (pairs_of (length frame)) (are_pairs (length frame)) (idle_adds_nothing e))
            (λ plan words atom axis axes fits. comes_out atom axis axes plan words fits) totals,
      )
