-- Steps of a coordinate: powers of two that cancel in the displacement, and reversal.
use Rattle.std.proofs.Common.{◌≡◌, ℕ, ◌*◌, ◌^◌, ◌<◌, ℤ, pos, negsuc, arith, sym, ◌+ℤ◌, ◌-ℤ◌, ◌*ℤ◌}
use Rattle.std.proofs.lemmas.Int.{ints}
use Rattle.fixed.specs.Rounding.{nearest_of}
use Rattle.fixed.specs.Fractions.{bits_of}
use Rattle.fixed.specs.declared.frac.Frac.{Frac}
use Rattle.fixed.specs.declared.frac.Frac.TheVariants.{F24, F32, F40}
use Rattle.fixed.proofs.IntegerLaws.{times_times}
use Rattle.fixed.proofs.NearestLemmas.{nearest_cancel}
use Rattle.ring_box.specs.Places.{place_at}
use Rattle.ring_box.proofs.PlaceLemmas.{place_and_turns}
use Rattle.integrator.specs.Displacement.{factor_above, factor_below, next_place_of}

-- a common factor k of numerator and denominator cancels
scaled_alike : (x : ℤ) (t w k t' w' : ℕ) → 0 < k → t' ≡ t * k → w' ≡ w * k → nearest_of (x *ℤ pos t) (pos w) ≡ nearest_of (x *ℤ pos t') (pos w')
scaled_alike x t w k t' w' p e f =
    rw (e, f, ← times_times x t k) (sym (nearest_cancel (x *ℤ pos t) w k p))

-- with the common powers of two cancelled the displacement is the same
pub cancelled : (f : Frac) (force : ℤ) (t w : ℕ) → nearest_of (force *ℤ pos (t * factor_above f)) (pos (w * factor_below f)) ≡ nearest_of (force *ℤ pos (t * 2 ^ 32)) (pos (w * 2 ^ bits_of f))
cancelled F24 force t w = scaled_alike force (t * 256) (w * 1) 16777216 (t * 2 ^ 32) (w * 2 ^ 24) (omega arith) (omega arith) (omega arith)
cancelled F32 force t w = scaled_alike force (t * 1) (w * 1) 4294967296 (t * 2 ^ 32) (w * 2 ^ 32) (omega arith) (omega arith) (omega arith)
cancelled F40 force t w = scaled_alike force (t * 1) (w * 256) 4294967296 (t * 2 ^ 32) (w * 2 ^ 40) (omega arith) (omega arith) (omega arith)

-- if z = p + k * 2^32 with p below 2^32, the coordinate of z is p
place_of_sum : (z : ℤ) (p : ℕ) (k : ℤ) → p < 2 ^ 32 → z ≡ pos p +ℤ k *ℤ pos (2 ^ 32) → place_at z ≡ p
place_of_sum (pos n) p k h e = omega (arith, ints)
place_of_sum (negsuc n) p k h e = omega (arith, ints)

-- a second step about the same middle coordinate, with the same displacement, restores the coordinate
pub there_and_back : (p c : ℕ) (d : ℤ) → p < 2 ^ 32 → next_place_of (next_place_of p c d) c d ≡ p
there_and_back p c d h =
    let t = place_and_turns (pos (2 * c) -ℤ pos p +ℤ d) in
    let e = t.1 in
    place_of_sum (pos (2 * c) -ℤ pos (next_place_of p c d) +ℤ d) p t.0 h (omega (arith, ints))
