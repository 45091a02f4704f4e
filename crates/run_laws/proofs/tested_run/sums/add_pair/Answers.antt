use Rattle.std.proofs.Common.{◌+◌, ◌^◌, arith}
use Rattle.run_laws.proofs.BoundLaws.{all_within-weaker}
use Rattle.run_laws.proofs.tested_run.sums.add_pair.Goals as goal

pub add_force-requires-2-clause-room : goal.add_force-requires-2-clause-room
add_force-requires-2-clause-room c =
    all_within-weaker (2 ^ 99 + 2 ^ 63) (2 ^ 100) _ (omega arith) (c.add_force.ensures.within (2 ^ 99) c.requires.room)

pub returns-clause-within : goal.returns-clause-within
returns-clause-within c =
    λ b h. all_within-weaker (b + 2 ^ 63 + 2 ^ 63) (b + 2 ^ 64) _ (omega arith) (c.add_force-2.ensures.within (b + 2 ^ 63) (c.add_force.ensures.within b h))
