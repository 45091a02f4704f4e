use Rattle.std.proofs.Common.{rules, to_z, of_z, w32}
use Rattle.ring_box.proofs.PlaceLemmas.{minimum_image}
use Rattle.ring_box.proofs.places.diff.Goals as goal

pub returns-clause-image : goal.returns-clause-image
returns-clause-image c = minimum_image c.args.x c.args.y (to_z w32 (of_z w32 c.cast_signed.result)) (search rules) (search rules) (search rules)
