-- The sums of a round over the tiles of a frame are the exact forces on its atoms.
use Rattle.std.proofs.Common.{◌≡◌, ℕ, zero, suc, ◌+◌, ◌-◌, ◌*◌, ◌%◌, ◌^◌, ◌<◌, ◌≤◌, Bool, true, false, List, [], ◌∷◌, ℤ, pos, ◌+ℤ◌, Option, Some, None, arith, refl, ap, sym, ◌∙◌, add-zero, map, sum_by, option_map, unwrap_or, neg_ℤ, is_some, ◌==◌, if◌then◌else◌, FitsSigned, true≢false}
use Rattle.std.specs.Int.{w64, cast_signed}
use Rattle.std.specs.List.{list_all}
use Rattle.std.proofs.lemmas.Int.{ints, fits_signed_from_abs}
use Rattle.std.proofs.lemmas.List.Folds.{fold-map}
use Rattle.std.proofs.lemmas.List.Sums.{sum_by-cons}
use Rattle.std.proofs.lemmas.Bool.Decides.{nat_tests}
use Rattle.std.proofs.lemmas.Nat.{mul-le}
use Rattle.std.proofs.lemmas.Option.{same_Some}
use Rattle.rounds.proofs.CountLemmas.{sum_flat_map}
use Rattle.rounds.specs.ExactSums.{PlanHasWords, TileHasWords, TotalsComeOut, exact_force, force_on, tile_force}
use Rattle.rounds.specs.Tiles.{additions_of, amount_on, component, on_entry, tile_of, tiles_of, total}
use Rattle.rounds.specs.declared.work.PairAdd.{PairAdd}
use Rattle.rounds.specs.Totals.{AreTotals}
use Rattle.ring_box.specs.Forces.{IsWithin, no_force}
use Rattle.ring_box.specs.declared.vectors.Vector.{Vector}
use Rattle.integrator.specs.Forces.{force_or_none, forces_of, negative, numbers_from, pairs_of, plus, share_of, sum_of_shares}
use Rattle.integrator.proofs.BoundLaws.{forces_within}
use Rattle.integrator.proofs.ForceLaws.{ArePairsOf, frame_pairs, pairs_parts}
use Rattle.integrator.proofs.NumberLaws.{length-numbers, made_of_numbers, number_at}
use Rattle.frame_sums.proofs.SafeLaws.{HasForce}
use Rattle.frame_sums.specs.Rounds.{forces_from, forces_in, pair_add}

-- ---- additions of pairs to an entry

-- the amount that a pair adds to the entry e of the table
abbrev pub weight : (ℕ × ℕ → Option PairAdd) → ℕ → ℕ × ℕ → ℕ
weight add e p = on_entry e (additions_of (add p))

-- the amount that a tile adds to an entry is the sum over its pairs
pub tile_weight : (add : ℕ × ℕ → Option PairAdd) (e : ℕ) (ps : List (ℕ × ℕ)) → on_entry e (tile_of (map add ps)) ≡ sum_by (weight add e) ps
tile_weight add e ps = sum_flat_map (amount_on e) additions_of (map add ps) ∙ fold-map (λ n o. n + on_entry e (additions_of o)) add 0 ps

-- the amount that all tiles add to an entry is the sum over the pairs of all tiles
pub total_weight : (add : ℕ × ℕ → Option PairAdd) (e : ℕ) (tiles : List (List (ℕ × ℕ)))
    → total (tiles_of (map (λ ps. map add ps) tiles)) e ≡ sum_by (λ ps. sum_by (weight add e) ps) tiles
total_weight add e tiles =
    fold-map (λ n x. n + on_entry e x) tile_of 0 (map (λ ps. map add ps) tiles)
    ∙ fold-map (λ n x. n + on_entry e (tile_of x)) (λ ps. map add ps) 0 tiles
    ∙ (λ i. sum_by (λ ps. tile_weight add e ps i) tiles)

-- ---- the force of each pair, as it is added and as it acts

-- a pair adds its force to its lower atom, and the negative to its higher one
pub record AddsForce (force : ℕ × ℕ → Option (Vector ℤ)) (add : ℕ × ℕ → Option PairAdd) (p : ℕ × ℕ) : Type 0 where
  pub acting : Option (Vector ℤ)
  pub adds : add p ≡ option_map (pair_add p.0 p.1) acting
  pub is : force p ≡ Some (unwrap_or acting no_force)

-- a part of a force, as it is added
abbrev part : Vector ℤ → ℕ → ℤ
part f axis = component (f.x ∷ f.y ∷ f.z ∷ []) axis

none_part : (axis : ℕ) → part no_force axis ≡ pos 0
none_part zero = refl
none_part (suc zero) = refl
none_part (suc (suc zero)) = refl
none_part (suc (suc (suc k))) = refl

negative_part : (f : Vector ℤ) (axis : ℕ) → axis < 3 → part (negative f) axis ≡ neg_ℤ (part f axis)
negative_part f zero h = refl
negative_part f (suc zero) h = refl
negative_part f (suc (suc zero)) h = refl
negative_part f (suc (suc (suc k))) h = absurd (omega arith)

plus_part : (f g : Vector ℤ) (axis : ℕ) → axis < 3 → part (plus f g) axis ≡ part f axis +ℤ part g axis
plus_part f g zero h = refl
plus_part f g (suc zero) h = refl
plus_part f g (suc (suc zero)) h = refl
plus_part f g (suc (suc (suc k))) h = absurd (omega arith)

chosen_part : (low high : Bool) (f : Vector ℤ) (axis : ℕ) → axis < 3 → (low ≡ true → high ≡ false)
    → (if low then part f axis else pos 0) +ℤ (if high then neg_ℤ (part f axis) else pos 0)
    ≡ part (if low then f else if high then negative f else no_force) axis
chosen_part true true v axis h apart = absurd (true≢false (apart refl))
chosen_part true false v axis h apart = omega (arith, ints)
chosen_part false true v axis h apart = omega (arith, ints, negative_part v axis h)
chosen_part false false v axis h apart = sym (none_part axis)

chosen_none : (low high : Bool) (axis : ℕ) → pos 0 ≡ part (if low then no_force else if high then negative no_force else no_force) axis
chosen_none true high axis = sym (none_part axis)
chosen_none false true axis = sym (none_part axis)
chosen_none false false axis = sym (none_part axis)

one_of_two : (i j a : ℕ) → i < j → (i == a) ≡ true → (j == a) ≡ false
one_of_two i j a h e = grind (arith, nat_tests)

-- the force that a pair adds to an atom along an axis is the atom's share of the pair's force
share_added : (force : ℕ × ℕ → Option (Vector ℤ)) (add : ℕ × ℕ → Option PairAdd) (p : ℕ × ℕ) (a axis : ℕ) → p.0 < p.1 → axis < 3 → (acting : Option (Vector ℤ))
    → add p ≡ option_map (pair_add p.0 p.1) acting → force p ≡ Some (unwrap_or acting no_force)
    → force_on a axis (add p) ≡ part (share_of p (force_or_none force p) a) axis
share_added force add p a axis apart h None adds is = rw (adds, is) (chosen_none (p.0 == a) (p.1 == a) axis)
share_added force add p a axis apart h (Some v) adds is = rw (adds, is) (chosen_part (p.0 == a) (p.1 == a) v axis h (one_of_two p.0 p.1 a apart))

-- ---- all pairs

same_force : (x y z : ℤ) (f : Vector ℤ) → x ≡ f.x → y ≡ f.y → z ≡ f.z → ◌≡◌ {A = Vector ℤ} (record { x = x; y = y; z = z }) f
same_force x y z f p q r = rw (p, q, r) refl

fits_from_within : (b : ℕ) (f : Vector ℤ) (axis : ℕ) → b < 2 ^ 63 → IsWithin b f → axis < 3 → FitsSigned w64 (part f axis)
fits_from_within b f zero h w lt = fits_signed_from_abs w64 f.x (omega (arith, w.x))
fits_from_within b f (suc zero) h w lt = fits_signed_from_abs w64 f.y (omega (arith, w.y))
fits_from_within b f (suc (suc zero)) h w lt = fits_signed_from_abs w64 f.z (omega (arith, w.z))
fits_from_within b f (suc (suc (suc k))) h w lt = absurd (omega arith)

added_words : (b : ℕ) (p : ℕ × ℕ) (acting : Option (Vector ℤ)) (rest : List (Option PairAdd)) → b < 2 ^ 63 → IsWithin b (unwrap_or acting no_force) → TileHasWords rest
    → TileHasWords (option_map (pair_add p.0 p.1) acting ∷ rest)
added_words b p None rest h w more = more
added_words b p (Some v) rest h w more = (λ axis lt. fits_from_within b v axis h w lt, more)

module _ (b n : ℕ) (force : ℕ × ℕ → Option (Vector ℤ)) (add : ℕ × ℕ → Option PairAdd)
    (has : (i j : ℕ) → i < j → j < n → HasForce b (force (i, j)))
    (adds : (i j : ℕ) → i < j → j < n → AddsForce force add (i, j))
    (fits : b * (n - 1) < 2 ^ 63) where
  pair_fits : (i j : ℕ) → i < j → j < n → b < 2 ^ 63
  pair_fits i j apart below =
      let least : b * 1 ≤ b * (n - 1) = mul-le b 1 b (n - 1) (omega arith) (omega arith) in
      omega arith

  forces_there : (ps : List (ℕ × ℕ)) → ArePairsOf n ps → list_all (λ p. is_some (force p)) ps ≡ true
  forces_there [] h = refl
  forces_there (p ∷ ps) h =
      let q = pairs_parts n p ps h in
      let f = has p.0 p.1 q.0.apart q.0.below in
      rw f.has (forces_there ps q.1)

  words : (ps : List (ℕ × ℕ)) → ArePairsOf n ps → TileHasWords (map add ps)
  words [] h = tt
  words (p ∷ ps) h =
      let q = pairs_parts n p ps h in
      let f = has p.0 p.1 q.0.apart q.0.below in
      let a = adds p.0 p.1 q.0.apart q.0.below in
      let same : f.v ≡ unwrap_or a.acting no_force = same_Some f.v (unwrap_or a.acting no_force) (sym f.has ∙ a.is) in
      rw a.adds (added_words b p a.acting (map add ps) (pair_fits p.0 p.1 q.0.apart q.0.below) (rw (← same) f.small) (words ps q.1))

  shares_added : (ps : List (ℕ × ℕ)) (a axis : ℕ) → ArePairsOf n ps → axis < 3 → tile_force a axis (map add ps) ≡ part (sum_of_shares (force_or_none force) ps a) axis
  unfolding sum_of_shares
  shares_added [] a axis h lt = sym (none_part axis)
  shares_added (p ∷ ps) a axis h lt =
      let q = pairs_parts n p ps h in
      let f = adds p.0 p.1 q.0.apart q.0.below in
      let first : force_on a axis (add p) ≡ part (share_of p (force_or_none force p) a) axis = share_added force add p a axis q.0.apart lt f.acting f.adds f.is in
      let rest : tile_force a axis (map add ps) ≡ part (sum_of_shares (force_or_none force) ps a) axis = shares_added ps a axis q.1 lt in
      ap (λ z. z +ℤ tile_force a axis (map add ps)) first
      ∙ ap (λ z. part (share_of p (force_or_none force p) a) axis +ℤ z) rest
      ∙ sym (plus_part (share_of p (force_or_none force p) a) (sum_of_shares (force_or_none force) ps a) axis lt)

  all_pairs : ArePairsOf n (pairs_of n)
  all_pairs = frame_pairs n 0 n (omega arith)

  -- all pairs in one tile
  abbrev one_tile : List (List (Option PairAdd))
  one_tile = map add (pairs_of n) ∷ []

  one_tile_is : (a axis : ℕ) → axis < 3 → exact_force a axis one_tile ≡ part (sum_of_shares (force_or_none force) (pairs_of n) a) axis
  one_tile_is a axis lt = omega (arith, ints, shares_added (pairs_of n) a axis all_pairs lt)

  share_fits : (a axis : ℕ) → axis < 3 → FitsSigned w64 (exact_force a axis one_tile)
  share_fits a axis lt =
      let small = forces_within b force n
      (λ i j v apart below e. let f = has i j apart below in let same : f.v ≡ v = same_Some f.v v (sym f.has ∙ e) in rw (← same) f.small)
      a in
      rw (one_tile_is a axis lt) (fits_from_within (b * (n - 1)) (sum_of_shares (force_or_none force) (pairs_of n) a) axis fits small lt)

  module _ (tiles : List (List (ℕ × ℕ))) (sums : List ℤ)
      (same : (e : ℕ) → sum_by (λ ps. sum_by (weight add e) ps) tiles ≡ sum_by (weight add e) (pairs_of n))
      (comes_out : (plan : List (List (Option PairAdd))) → PlanHasWords plan → TotalsComeOut plan)
      (totals : AreTotals (tiles_of (map (λ ps. map add ps) tiles)) n sums) where
    same_total : (e : ℕ) → total (tiles_of (map (λ ps. map add ps) tiles)) e ≡ total (tiles_of one_tile) e
    same_total e =
        total_weight add e tiles ∙ same e
        ∙ sym (total_weight add e (pairs_of n ∷ []) ∙ sum_by-cons (λ ps. sum_by (weight add e) ps) (pairs_of n) [] ∙ add-zero (sum_by (weight add e) (pairs_of n)))

    entry : (a axis : ℕ) → a < n → axis < 3 → component sums (3 * a + axis) ≡ part (sum_of_shares (force_or_none force) (pairs_of n) a) axis
    entry a axis below lt =
        totals.each (3 * a + axis) (omega arith)
        ∙ ap (λ t. cast_signed w64 (t % 2 ^ 64)) (same_total (3 * a + axis))
        ∙ comes_out one_tile (words (pairs_of n) all_pairs, tt) a axis lt (share_fits a axis lt)
        ∙ one_tile_is a axis lt

    force_is : (a : ℕ) → a < n → forces_in sums a ≡ sum_of_shares (force_or_none force) (pairs_of n) a
    force_is a below =
        same_force (component sums (3 * a)) (component sums (3 * a + 1)) (component sums (3 * a + 2)) (sum_of_shares (force_or_none force) (pairs_of n) a)
        (ap (component sums) (sym (add-zero (3 * a))) ∙ entry a 0 below (omega arith)) (entry a 1 below (omega arith)) (entry a 2 below (omega arith))

    -- the sums of a round over tiles that come to all pairs are the forces
    pub round_forces : forces_of force n ≡ Some (forces_from sums n)
    round_forces =
        let g = sum_of_shares (force_or_none force) (pairs_of n) in
        let same : forces_from sums n ≡ map g (numbers_from 0 n) =
        made_of_numbers g no_force n (forces_from sums n) (length-numbers (forces_in sums) 0 n) (λ a l. number_at (forces_in sums) no_force n a l ∙ force_is a l) in
        rw (forces_there (pairs_of n) all_pairs) (ap Some (sym same))
