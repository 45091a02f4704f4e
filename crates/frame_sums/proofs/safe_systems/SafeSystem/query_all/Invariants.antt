use Rattle.std.proofs.Common.{◌≡◌, map, take, All}
use Rattle.kernel_lanes.specs.Lanes.{IsServed}
use Rattle.frame_sums.specs.Rows.{query_of}
use Rattle.frame_sums.proofs.safe_systems.SafeSystem.query_all.Given as goal

abbrev pub invariant-loop-l : goal.invariant-loop-l
invariant-loop-l g l = record {
  value : take l.l l.queries ≡ map (query_of l.self.system) (take l.l l.found.pairs);
  served : All (IsServed l.self.system.kernel.verified) (take l.l l.queries);
}
