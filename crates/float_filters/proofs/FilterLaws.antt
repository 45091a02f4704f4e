-- The filter of distances.
use Rattle.std.proofs.Common.{◌≡◌, ℕ, ℤ, pos, ◌*◌, ◌^◌, ◌<◌, ◌≤◌, Option, None, Some, ap, ◌∙◌, subst, arith, mul-le-mul}
use Rattle.std.specs.Prelude.{IfSome}
use Rattle.float_filters.specs.DistanceFilters.{IsScale, distance_of}
use Rattle.float_filters.specs.DistanceFloors.{IsFloorOfRoot}
use Rattle.float_filters.proofs.DistanceLaws.{root_quotient}

-- a fact of the value of an option gives another
pub some_weaker : {A : Type 0} (P Q : A → Type 0) → ((v : A) → P v → Q v) → (o : Option A) → IfSome o P → IfSome o Q
some_weaker P Q f None h = h
some_weaker P Q f (Some v) h = f v h

-- the square of a factor times a limit isn't too great
pub scaled_limit : (limit n d : ℕ) → IsScale limit n d → limit * (n * n) ≤ 2 ^ 300
scaled_limit limit n d scale =
    let square : n * n ≤ 2 ^ 32 * 2 ^ 32 = mul-le-mul scale.dividend_fits scale.dividend_fits in
    let whole : limit * (n * n) ≤ 2 ^ 112 * (2 ^ 32 * 2 ^ 32) = mul-le-mul scale.small square in
    omega (arith, whole)

-- the floor of a root is the distance
pub floor_is_distance : (core s n d : ℕ) (z : ℤ) → 0 < d → IsFloorOfRoot core (s * (n * n)) d z
    → (z ≡ pos (distance_of s n d)) × (core ≤ distance_of s n d)
floor_is_distance core s n d z D h =
    let q = h.distance in
    let e = root_quotient (s * (n * n)) d q.0 D q.3 q.4 in
    (q.1 ∙ ap pos e, subst (λ (i : ℕ). core ≤ i) e q.2)
