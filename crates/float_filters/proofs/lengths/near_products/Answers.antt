use Rattle.std.proofs.Common.{◌*◌, get_or, subst, sym}
use Rattle.std.specs.Float.Ieee.{Float, nan}
use Rattle.float_filters.specs.Near.{IsNearRoot}
use Rattle.float_filters.proofs.LengthLaws.{lane_product, near_scaled_length}
use Rattle.float_filters.proofs.lengths.near_products.Goals as goal

pub returns : goal.returns
returns c l s n d lane bound N n_fits D d_fits f g =
    subst (λ (x : Float). IsNearRoot 11 x (s * (n * n)) (d * d)) (sym (lane_product c.args.lengths c.args.factor l c.fits-lengths.0 lane))
    (near_scaled_length s n d (get_or c.args.lengths l nan) c.args.factor bound N n_fits D d_fits f g)
