-- Sums of a frame's forces are bounded, as each slope is.
use Rattle.std.proofs.Common.{ℕ, ◌<◌, ◌≤◌, List, ℤ, ◌≡◌, ◌-◌, ◌*◌, Option, Some, None, refl, get_or, true, false, Bool, unsigned_abs, neg_ℤ, option_map, is_some, map, ◌==◌, if◌then◌else◌}
use Rattle.std.specs.List.{All, list_all}
use Rattle.std.proofs.lemmas.List.Elements.{All-weaker, All-map}
use Rattle.std.proofs.lemmas.Option.{same_Some}
use Rattle.ring_box.specs.declared.boxes.RingBox.{RingBox}
use Rattle.ring_box.specs.Distances.{square_of}
use Rattle.ring_box.specs.Forces.{IsWithin, force_along_of, no_force}
use Rattle.ring_box.specs.declared.vectors.Place3.{Place3}
use Rattle.ring_box.specs.declared.vectors.Vector.{Vector}
use Rattle.integrator.specs.Forces.{sum_of_shares, pairs_of, force_or_none, forces_of, numbers_from}
use Rattle.line_text.proofs.StepLaws.{none_is_no_some}
use Rattle.integrator.specs.Frames.{force_at}
use Rattle.integrator.proofs.BoundLaws.{along_within, forces_within, none_within, within-weaker}

-- sums that are all within a bound are within a greater one
pub all_within-weaker : (b c : ℕ) (sums : List (Vector ℤ)) → b ≤ c → All (IsWithin b) sums → All (IsWithin c) sums
all_within-weaker b c sums h = All-weaker (IsWithin b) (IsWithin c) (λ v. within-weaker b c h) sums

mapped_within : (b : ℕ) (ring : RingBox) (o : Option ℤ) (p q : Place3) (v : Vector ℤ) → ((g : ℤ) → o ≡ Some g → unsigned_abs g ≤ b)
    → option_map (λ g. force_along_of ring (neg_ℤ g) p q) o ≡ Some v → IsWithin b v
mapped_within b ring None p q v h e = absurd (none_is_no_some v e)
mapped_within b ring (Some g) p q v h e = rw (← same_Some (force_along_of ring (neg_ℤ g) p q) v e) (along_within b ring g p q (h g refl))

apart_within : (b : ℕ) (ring : RingBox) (together : Bool) (o : Option ℤ) (p q : Place3) (v : Vector ℤ) → ((g : ℤ) → o ≡ Some g → unsigned_abs g ≤ b)
    → (if together then Some no_force else option_map (λ g. force_along_of ring (neg_ℤ g) p q) o) ≡ Some v → IsWithin b v
apart_within b ring true o p q v h e = rw (← same_Some no_force v e) (none_within b)
apart_within b ring false o p q v h e = mapped_within b ring o p q v h e

-- a pair's force is at most the greatest slope
pub force_at_within : (b : ℕ) (ring : RingBox) (slope : ℤ → Option ℤ) (r : Option ℤ) (p q : Place3) (v : Vector ℤ) → ((r g : ℤ) → slope r ≡ Some g → unsigned_abs g ≤ b)
    → force_at ring slope r p q ≡ Some v → IsWithin b v
force_at_within b ring slope None p q v h e = rw (← same_Some no_force v e) (none_within b)
force_at_within b ring slope (Some r) p q v h e = apart_within b ring (square_of ring p q == 0) (slope r) p q v (h r) e

-- ---- the forces of a frame

chosen_is : (c : Bool) (x y : List (Vector ℤ)) → ◌≡◌ {A = Option (List (Vector ℤ))} (if c then Some x else None) (Some y) → x ≡ y
chosen_is true x y e = cc
chosen_is false x y e = cc

-- if the force of each pair of n atoms is within b, the forces of the frame are within b times n - 1
pub found_within : (b : ℕ) (force : ℕ × ℕ → Option (Vector ℤ)) (n : ℕ) (out : List (Vector ℤ)) → ((i j : ℕ) (v : Vector ℤ) → i < j → j < n → force (i, j) ≡ Some v → IsWithin b v)
    → forces_of force n ≡ Some out → All (IsWithin (b * (n - 1))) out
found_within b force n out h e =
    let g = sum_of_shares (force_or_none force) (pairs_of n) in
    let same : map g (numbers_from 0 n) ≡ out = chosen_is (list_all (λ p. is_some (force p)) (pairs_of n)) (map g (numbers_from 0 n)) out e in
    rw (← same) (All-map (IsWithin (b * (n - 1))) g (numbers_from 0 n) (λ k d l. forces_within b force n h (get_or (numbers_from 0 n) k d)))
