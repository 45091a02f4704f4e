use Rattle.std.proofs.Common.{◌≡◌, ◌+◌, ◌≤◌, ◌++◌, length, take, All}
use Rattle.rounds.specs.Tiles.{acting, pairs_at, IsPairOf}
use Rattle.rounds.proofs.batches.next_from_pairs.Given as goal

abbrev pub invariant-loop-number : goal.invariant-loop-number
invariant-loop-number g l =
    (l.k + length l.adds.items ≤ l.number)
    × (acting (take l.number (pairs_at (g.W.Work.plan l.work) l.tile)) ≡ acting (take l.k (pairs_at (g.W.Work.plan l.work) l.tile)) ++ l.adds.items)
    × All (IsPairOf (g.W.Work.atoms l.work)) l.adds.items
