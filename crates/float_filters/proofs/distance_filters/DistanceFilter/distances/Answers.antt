use Rattle.std.proofs.Common.{◌*◌, ◌<◌, ◌≤◌, ℕ, ℤ, List, le_trans, mul-le-mul_right, slice_index_or, pos}
use Rattle.float_filters.specs.DistanceFilters.{AreDistances}
use Rattle.float_filters.specs.DistanceFloors.{AreFloorsOfRoots}
use Rattle.float_filters.specs.Floors.{lane}
use Rattle.float_filters.specs.Near.{IsNearRoot}
use Rattle.float_filters.proofs.FilterLaws.{floor_is_distance, scaled_limit, some_weaker}
use Rattle.float_filters.proofs.distance_filters.DistanceFilter.distances.Goals as goal

pub returns : goal.returns
returns c =
    let f = c.args.self.now in
    let r = f.scale in
    let floor = λ (z : List ℤ) (h : AreFloorsOfRoots c.near_products.result f.margin f.core z) (k s : ℕ) (less : k < 4) (within : s ≤ f.limit) (near : IsNearRoot 7 (lane c.args.lengths k) s 1).
    let product = c.near_products.ensures k s f.dividend f.divisor less (le_trans within r.small) r.dividend r.dividend_fits r.divisor r.divisor_fits near f.factor_is in
    floor_is_distance f.core s f.dividend f.divisor (slice_index_or z k (pos 0)) r.divisor (h.each k less (s * (f.dividend * f.dividend)) (f.limit * (f.dividend * f.dividend)) f.divisor r.divisor (mul-le-mul_right (f.dividend * f.dividend) within) (scaled_limit f.limit f.dividend f.divisor r) product f.margin_is) in
    some_weaker (AreFloorsOfRoots c.near_products.result f.margin f.core) (AreDistances f.core f.limit f.dividend f.divisor c.args.lengths) (λ z h. record {
      value = λ k s less within near. (floor z h k s less within near).0;
      from_core = λ k s less within near. (floor z h k s less within near).1;
    }) c.distances.result c.distances.ensures
