-- What the virial and the least square of a frame are over all pairs.
use Rattle.std.proofs.Common.{◌≡◌, ℕ, List, [], ◌∷◌, length, ℤ, pos, Option, Some, None, arith, refl, ap, sym, ◌∙◌, ◌*ℤ◌, option_map, unwrap_or}
use Rattle.std.proofs.lemmas.Int.{ints}
use Rattle.fixed.specs.declared.frac.Frac.{Frac}
use Rattle.ring_box.proofs.AxisLemmas.{same_axes}
use Rattle.ring_box.specs.Axes.{along, component_along}
use Rattle.ring_box.specs.Distances.{square_of}
use Rattle.ring_box.specs.Forces.{acting_distance_of, no_force}
use Rattle.ring_box.specs.Places.{difference, places_of}
use Rattle.ring_box.specs.declared.boxes.RingBox.{RingBox}
use Rattle.ring_box.specs.declared.vectors.Axis.{Axis}
use Rattle.ring_box.specs.declared.vectors.Axis.TheVariants.{X, Y, Z}
use Rattle.ring_box.specs.declared.vectors.Place3.{Place3}
use Rattle.ring_box.specs.declared.vectors.Vector.{Vector}
use Rattle.integrator.specs.Forces.{pairs_of}
use Rattle.integrator.specs.Frames.{Dynamics, Frame, force_at}
use Rattle.observables.specs.declared.observations.PairSums.{PairSums}
use Rattle.frame_sums.specs.FrameSums.{acting_square, if_acting, least_square_of, pair_sums, pair_sums_of, pair_virial, virial_of}
use Rattle.frame_sums.specs.PairSums.{no_tensor, plus_tensors, sums_between, sums_over, virial_between}
use Rattle.frame_sums.specs.Sums.{least_over, lesser, tensors_over}

-- ---- the virial

-- the virial of a list is the sum of the virials of its elements
virials_over : {X : Type 0} (f : X → PairSums) (xs : List X) → (sums_over f xs).virial ≡ tensors_over (λ x. (f x).virial) xs
virials_over f [] = refl
virials_over f (x ∷ xs) = ap (plus_tensors (f x).virial) (virials_over f xs)

nothing_times : (z : ℤ) → pos 0 *ℤ z ≡ pos 0
nothing_times z = omega (arith, ints)

none_along : (axis : Axis) → component_along axis no_force ≡ pos 0
none_along X = refl
none_along Y = refl
none_along Z = refl

-- without a force there is no virial
no_virial : (p q : Place3) → virial_between no_force p q ≡ no_tensor
no_virial p q =
    same_axes _ _ (λ a. same_axes _ _ (λ b. ap (λ z. z *ℤ difference (along b p) (along b q)) (none_along a) ∙ nothing_times (difference (along b p) (along b q))))

virial_at : (frac : Frac) (ring : RingBox) (core : ℤ) (slope : ℤ → Option ℤ) (p q : Place3) (o : Option ℤ)
    → (if_acting (sums_between frac ring core (unwrap_or (force_at ring slope o p q) no_force) p q) o).virial ≡ virial_between (unwrap_or (force_at ring slope o p q) no_force) p q
virial_at frac ring core slope p q None = sym (no_virial p q)
virial_at frac ring core slope p q (Some r) = refl

pair_virial_told : (d : Dynamics) (frame : Frame) (p : ℕ × ℕ) → (pair_sums d frame p).virial ≡ pair_virial d frame p
pair_virial_told d frame p =
    let x = places_of frame p.0 in
    let y = places_of frame p.1 in
    virial_at d.frac d.ring d.core (d.slope p) x y (acting_distance_of d.frac d.ring d.core d.cutoff x y)

pub virial_told : (d : Dynamics) (frame : Frame) → (pair_sums_of d frame).virial ≡ virial_of d frame
virial_told d frame =
    virials_over (pair_sums d frame) (pairs_of (length frame))
    ∙ (λ i. tensors_over (λ p. pair_virial_told d frame p i) (pairs_of (length frame)))

-- ---- the least square

least_of_all : {X : Type 0} (f : X → PairSums) (xs : List X) → (sums_over f xs).nearest ≡ least_over (λ x. (f x).nearest) xs
least_of_all f [] = refl
least_of_all f (x ∷ xs) = ap (lesser (f x).nearest) (least_of_all f xs)

nearest_at : (frac : Frac) (ring : RingBox) (core : ℤ) (f : Vector ℤ) (p q : Place3) (o : Option ℤ)
    → (if_acting (sums_between frac ring core f p q) o).nearest ≡ option_map (λ r. square_of ring p q) o
nearest_at frac ring core f p q None = refl
nearest_at frac ring core f p q (Some r) = refl

pair_nearest_told : (d : Dynamics) (frame : Frame) (p : ℕ × ℕ) → (pair_sums d frame p).nearest ≡ acting_square d frame p
pair_nearest_told d frame p =
    let x = places_of frame p.0 in
    let y = places_of frame p.1 in
    let o = acting_distance_of d.frac d.ring d.core d.cutoff x y in
    nearest_at d.frac d.ring d.core (unwrap_or (force_at d.ring (d.slope p) o x y) no_force) x y o

pub nearest_told : (d : Dynamics) (frame : Frame) → (pair_sums_of d frame).nearest ≡ least_square_of d frame
nearest_told d frame =
    least_of_all (pair_sums d frame) (pairs_of (length frame)) ∙ (λ i. least_over (λ p. pair_nearest_told d frame p i) (pairs_of (length frame)))
