use Rattle.std.proofs.Common.{◌≡◌, drop}
use Rattle.rounds.specs.Tiles.{tile_of, pairs_at}
use Rattle.round_model.proofs.statuses.status_from.Given as goal

abbrev pub invariant-loop-k : goal.invariant-loop-k
invariant-loop-k g l = tile_of (drop l.k (pairs_at (g.W.Work.plan l.work) l.tile)) ≡ tile_of (drop l.first (pairs_at (g.W.Work.plan l.work) l.tile))
