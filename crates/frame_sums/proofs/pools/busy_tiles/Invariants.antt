use Rattle.std.proofs.Common.{◌≤◌}
use Rattle.frame_sums.proofs.pools.busy_tiles.Given as goal

abbrev pub invariant-loop-tile : goal.invariant-loop-tile
invariant-loop-tile g l = l.busy ≤ l.most
