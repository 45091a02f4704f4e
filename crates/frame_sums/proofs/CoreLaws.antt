-- Pairs nearer than the core: which squares they have, and that each of them interacts.
use Rattle.std.proofs.Common.{◌≡◌, ℕ, zero, suc, List, [], ◌∷◌, length, sum_by, ℤ, pos, negsuc, Some, None, arith, refl, sym, ap, ◌∙◌, ◌≤ℤ◌, ◌<ℤ◌, Bool, true, false, nat_lt, if◌then◌else◌}
use Rattle.std.specs.Int.{from_bool}
use Rattle.std.proofs.lemmas.Bool.Decides.{nat_tests}
use Rattle.std.proofs.lemmas.Int.{ints}
use Rattle.std.proofs.lemmas.List.Sums.{sum_by-cons}
use Rattle.fixed.specs.declared.frac.Frac.{Frac}
use Rattle.fixed.specs.declared.frac.Frac.TheVariants.{F24, F32, F40}
use Rattle.ring_box.specs.Acting.{limit_of}
use Rattle.ring_box.specs.Distances.{is_near, square_of}
use Rattle.ring_box.specs.Forces.{taken_distance_of}
use Rattle.ring_box.specs.Places.{places_of}
use Rattle.ring_box.proofs.DistanceLemmas.{near_limit}
use Rattle.integrator.specs.Forces.{force_or_none, pairs_of}
use Rattle.integrator.specs.Frames.{Dynamics, Frame, pair_force}
use Rattle.observables.specs.declared.observations.PairSums.{PairSums}
use Rattle.frame_sums.specs.FrameSums.{core_pairs_of, if_acting, is_in_core, pair_sums, pair_sums_of}
use Rattle.frame_sums.specs.PairSums.{core_pair_at, sums_between, sums_over}

-- no square is below the limit of a core of 0
pub none_nearer : (f : Frac) → limit_of f (pos 0) ≡ 0
none_nearer F24 = refl
none_nearer F32 = refl
none_nearer F40 = refl

-- a square is below the limit of a core if and only if its distance is below the core
near_core : (f : Frac) (s : ℕ) (core : ℤ) → pos 0 ≤ℤ core → nat_lt s (limit_of f core) ≡ is_near f s core
near_core f s (pos zero) h = rw (none_nearer f) (grind (arith, ints, nat_tests))
near_core f s (pos (suc n)) h = near_limit f s (pos (suc n)) (omega (arith, ints))
near_core f s (negsuc n) h = absurd (omega (arith, ints))

counted : (near : Bool) → from_bool near ≡ (if near then 1 else 0)
counted true = refl
counted false = refl

pub core_pair_is : (f : Frac) (s limit : ℕ) (core : ℤ) → pos 0 ≤ℤ core → limit ≡ limit_of f core → from_bool (nat_lt s limit) ≡ core_pair_at f core s
core_pair_is f s limit core h is = counted (nat_lt s limit) ∙ rw is (ap (λ near. if near then 1 else 0) (near_core f s core h))

-- a pair that doesn't interact isn't nearer than the core
far_from_core : (f : Frac) (s : ℕ) (core cutoff : ℤ) → core <ℤ cutoff → is_near f s cutoff ≡ false → core_pair_at f core s ≡ 0
far_from_core f s core cutoff lt far =
    let out : is_near f s core ≡ false = grind (arith, ints, nat_tests, far) in
    ap (λ near. if near then 1 else 0) out

-- the number of pairs of a list is the sum of the numbers of its elements
counts_over : {X : Type 0} (f : X → PairSums) (xs : List X) → (sums_over f xs).core_pairs ≡ sum_by (λ x. (f x).core_pairs) xs
counts_over f [] = refl
counts_over f (x ∷ xs) = omega (arith, counts_over f xs, sum_by-cons (λ y. (f y).core_pairs) x xs)

count_at : (near : Bool) (r : ℤ) (sums : PairSums) → (near ≡ false → sums.core_pairs ≡ 0) → (if_acting sums (if near then Some r else None)).core_pairs ≡ sums.core_pairs
count_at true r sums h = refl
count_at false r sums h = sym (h refl)

-- a pair is counted if and only if it is nearer than the core
pair_count_told : (d : Dynamics) (frame : Frame) (p : ℕ × ℕ) → d.core <ℤ d.cutoff → (pair_sums d frame p).core_pairs ≡ (if is_in_core d frame p then 1 else 0)
pair_count_told d frame p below =
    let x = places_of frame p.0 in
    let y = places_of frame p.1 in
    let s = square_of d.ring x y in
    count_at (is_near d.frac s d.cutoff) (taken_distance_of d.frac d.ring d.core x y) (sums_between d.frac d.ring d.core (force_or_none (pair_force d frame) p) x y)
    (far_from_core d.frac s d.core d.cutoff below)

pub core_told : (d : Dynamics) (frame : Frame) → d.core <ℤ d.cutoff → (pair_sums_of d frame).core_pairs ≡ core_pairs_of d frame
core_told d frame below =
    counts_over (pair_sums d frame) (pairs_of (length frame)) ∙ (λ i. sum_by (λ p. pair_count_told d frame p below i) (pairs_of (length frame)))
