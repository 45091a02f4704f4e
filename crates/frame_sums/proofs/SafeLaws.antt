-- Accepted derivatives: an interacting pair has a derivative, and each pair has a force that fits.
use Rattle.std.proofs.Common.{◌≡◌, ℕ, ◌-◌, ◌*◌, ◌^◌, ◌<◌, ◌≤◌, Bool, true, false, length, ℤ, pos, Option, Some, None, arith, refl, ap, ◌∙◌, neg_ℤ, unwrap_or, option_map, ◌≤ℤ◌, ◌<ℤ◌, ◌==◌, if◌then◌else◌, IfSome, slice_index}
use Rattle.std.proofs.lemmas.Nat.{mul-le}
use Rattle.std.proofs.lemmas.Option.{same_Some}
use Rattle.fixed.specs.declared.frac.Frac.{Frac}
use Rattle.ring_box.specs.declared.boxes.RingBox.{RingBox}
use Rattle.ring_box.specs.declared.vectors.Place3.{Place3}
use Rattle.ring_box.specs.declared.vectors.Vector.{Vector}
use Rattle.ring_box.specs.Distances.{distance_at, is_near, square_of}
use Rattle.ring_box.specs.Forces.{IsWithin, acting_distance_of, force_along_of, no_force, taken_distance_of}
use Rattle.ring_box.proofs.ForceLemmas.{max_high, max_low}
use Rattle.integrator.proofs.BoundLaws.{along_within, none_within}
use Rattle.ring_box.specs.Places.{places_of}
use Rattle.integrator.specs.Frames.{Frame, force_at, pair_force}
use Rattle.potential.specs.Potentials.{minus, potential_of, slope_at}
use Rattle.potential.proofs.PotentialLaws.{HasNumber, has_slope, minus_is}
use Rattle.frame_sums.specs.SafeSystems.{IsSafeSystem, safe_dynamics}
use Rattle.potential.specs.declared.slope_kernels.SlopeKernel.{SlopeKernel}
use Rattle.integrator.specs.declared.systems.System.{System}

-- ---- the distance at which a pair acts

in_range_at : (f : Frac) (ring : RingBox) (core cutoff : ℤ) (p q : Place3) (r : ℤ) (near : Bool) → core <ℤ cutoff → is_near f (square_of ring p q) cutoff ≡ near
    → (if near then Some (taken_distance_of f ring core p q) else None) ≡ Some r → (core ≤ℤ r) × (r <ℤ cutoff)
in_range_at f ring core cutoff p q r true h e s =
    let d = pos (distance_at f (square_of ring p q)) in
    rw (← same_Some (taken_distance_of f ring core p q) r s) (max_low d core, max_high d core cutoff e h)
in_range_at f ring core cutoff p q r false h e s = absurd (cc)

-- two atoms act at a distance from the core to before the cutoff
pub in_range : (f : Frac) (ring : RingBox) (core cutoff : ℤ) (p q : Place3) (r : ℤ) → core <ℤ cutoff → acting_distance_of f ring core cutoff p q ≡ Some r → (core ≤ℤ r) × (r <ℤ cutoff)
in_range f ring core cutoff p q r h e = in_range_at f ring core cutoff p q r (is_near f (square_of ring p q) cutoff) h refl e

-- ---- the force of a pair

along : (ring : RingBox) (p q : Place3) (g : ℤ) (together : Bool) → (square_of ring p q == 0) ≡ together
    → (if together then Some no_force else Some (force_along_of ring (neg_ℤ g) p q)) ≡ Some (force_along_of ring (neg_ℤ g) p q)
along ring p q g true e = rw e refl
along ring p q g false e = refl

forced_at : (ring : RingBox) (slope : ℤ → Option ℤ) (r v : ℤ) (p q : Place3) → slope r ≡ Some v → force_at ring slope (Some r) p q ≡ Some (force_along_of ring (minus (slope r)) p q)
forced_at ring slope r v p q e =
    let same : force_at ring slope (Some r) p q ≡ (if square_of ring p q == 0 then Some no_force else Some (force_along_of ring (neg_ℤ v) p q)) = rw e refl in
    same ∙ along ring p q v (square_of ring p q == 0) refl ∙ ap (λ g. Some (force_along_of ring g p q)) (minus_is (slope r) v e)

-- if the pair has a derivative at its distance in o, the pair has a force; without a distance the force is 0
pub forced : (b : ℕ) (ring : RingBox) (slope : ℤ → Option ℤ) (o : Option ℤ) (p q : Place3) → ((r : ℤ) → o ≡ Some r → HasNumber b (slope r))
    → force_at ring slope o p q ≡ Some (unwrap_or (option_map (λ r. force_along_of ring (minus (slope r)) p q) o) no_force)
forced b ring slope None p q h = refl
forced b ring slope (Some r) p q h = let s = h r refl in forced_at ring slope r s.v p q s.has

-- and no component of it passes the greatest slope
pub forced_within : (b : ℕ) (ring : RingBox) (slope : ℤ → Option ℤ) (o : Option ℤ) (p q : Place3) → ((r : ℤ) → o ≡ Some r → HasNumber b (slope r))
    → IfSome (option_map (λ r. force_along_of ring (minus (slope r)) p q) o) (IsWithin b)
forced_within b ring slope None p q h = tt
forced_within b ring slope (Some r) p q h =
    let s = h r refl in
    rw (← minus_is (slope r) s.v s.has) (along_within b ring s.v p q s.small)

within_or_none : (b : ℕ) (o : Option (Vector ℤ)) → IfSome o (IsWithin b) → IsWithin b (unwrap_or o no_force)
within_or_none b None h = none_within b
within_or_none b (Some v) h = h

-- a pair's force, with no component of a greater magnitude
pub record HasForce (b : ℕ) (o : Option (Vector ℤ)) : Type 0 where
  pub v : Vector ℤ
  pub has : o ≡ Some v
  pub small : IsWithin b v

-- ---- a system

module _ {A : Type 0} (s : System (SlopeKernel A) A) (accepted : IsSafeSystem s) where
  -- with two atoms or more no slope is the least number
  pub bound_fits : (i j : ℕ) → i < j → j < length s.types.items → s.kernel.verified.bound < 2 ^ 63
  bound_fits i j apart below =
      let same : length s.types.items ≡ length s.masses.items = s.atoms in
      let b = s.kernel.verified.bound in
      let least : b * 1 ≤ b * (length s.masses.items - 1) = mul-le b 1 b (length s.masses.items - 1) (omega arith) (omega arith) in
      let fits : b * (length s.masses.items - 1) < 2 ^ 63 = accepted.fits in
      omega arith

  pub slopes : (i j : ℕ) → i < length s.types.items → j < length s.types.items → (p q : Place3) (r : ℤ) → acting_distance_of s.frac s.ring s.core s.cutoff p q ≡ Some r
      → HasNumber s.kernel.verified.bound (slope_at (potential_of s.kernel) (slice_index s.types.items i) (slice_index s.types.items j) r)
  slopes i j first second p q r e =
      let range = in_range s.frac s.ring s.core s.cutoff p q r s.below_cutoff e in
      has_slope s.kernel (slice_index s.types.items i) (slice_index s.types.items j) r (accepted.known i 0 first) (accepted.known j 0 second) (rw accepted.core range.0) (rw accepted.cutoff range.1)

  pub has_force : (frame : Frame) (i j : ℕ) → i < j → j < length s.types.items → HasForce s.kernel.verified.bound (pair_force (safe_dynamics s) frame (i, j))
  has_force frame i j apart below =
      let p = places_of frame i in
      let q = places_of frame j in
      let slope = λ (r : ℤ). slope_at (potential_of s.kernel) (slice_index s.types.items i) (slice_index s.types.items j) r in
      let o = acting_distance_of s.frac s.ring s.core s.cutoff p q in
      let h = slopes i j (omega arith) below p q in
      record {
        v = unwrap_or (option_map (λ r. force_along_of s.ring (minus (slope r)) p q) o) no_force;
        has = forced s.kernel.verified.bound s.ring slope o p q h;
        small = within_or_none s.kernel.verified.bound (option_map (λ r. force_along_of s.ring (minus (slope r)) p q) o) (forced_within s.kernel.verified.bound s.ring slope o p q h);
      }
