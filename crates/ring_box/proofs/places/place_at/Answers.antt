use Rattle.std.proofs.Common.{rules, to_z, of_z}
use Rattle.std.specs.Prelude.{unsigned_abs}
use Rattle.std.specs.Int.{w128}
use Rattle.ring_box.proofs.PlaceLemmas.{place_is}
use Rattle.ring_box.proofs.places.place_at.Goals as goal

pub returns-clause-place : goal.returns-clause-place
returns-clause-place c = place_is c.args.z (unsigned_abs (to_z w128 (of_z w128 c.rem_euclid.result))) (search rules)
