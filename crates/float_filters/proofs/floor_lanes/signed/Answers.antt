use Rattle.std.proofs.Common.{◌∙◌}
use Rattle.float_filters.proofs.VectorLaws.{signed_again, signed_pattern}
use Rattle.float_filters.proofs.floor_lanes.signed.Goals as goal

pub returns : goal.returns
returns c n l h e = signed_again c.cast_signed.result n h l (c.cast_signed.ensures ∙ signed_pattern n c.args.bits h l e)
