use Rattle.std.proofs.Common.{ℕ, ap, ◌∙◌}
use lib.Ieee.{binary64, div, sub}
use Rattle.float_filters.specs.Floors.{lane}
use Rattle.float_filters.specs.Forces.{ratio_of}
use Rattle.float_filters.proofs.FloorLaws.{half_is}
use Rattle.float_filters.proofs.VectorLaws.{same_lanes}
use Rattle.float_filters.proofs.force_lanes.ratios.Goals as goal

pub returns : goal.returns
returns c =
    same_lanes _ _ (λ (k : ℕ). ratio_of (lane c.args.sizes k) (lane c.args.lengths k)) c.quotients.ensures
    (λ k l. ap (div binary64 (lane c.args.sizes k)) (c.minus.ensures.each k l ∙ ap (sub binary64 (lane c.args.lengths k)) half_is))
