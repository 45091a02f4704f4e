use Rattle.std.proofs.Common.{ℕ, ap}
use lib.Ieee.{Float, binary64, sub, of_bits}
use Rattle.float_filters.specs.Floors.{half, lane}
use Rattle.float_filters.proofs.FloorLaws.{half_is}
use Rattle.float_filters.proofs.VectorLaws.{number_with, same_lanes}
use Rattle.float_filters.proofs.vectors.half_less.Goals as goal

pub returns : goal.returns
returns c =
    same_lanes _ (λ (k : ℕ). sub binary64 (of_bits binary64 4602678819172646912) (lane c.args.x k)) (λ (k : ℕ). sub binary64 half (lane c.args.x k))
    (number_with (sub binary64) (of_bits binary64 4602678819172646912) c.args.x c.fits-x.0) (λ k l. ap (λ (y : Float). sub binary64 y (lane c.args.x k)) half_is)
