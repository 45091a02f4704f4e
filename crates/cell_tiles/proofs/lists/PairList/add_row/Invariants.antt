use Rattle.std.proofs.Common.{◌≡◌, ◌+◌, ◌-◌, ◌≤◌, ◌++◌, length, take, All}
use Rattle.cell_tiles.specs.Near.{IsPairOf, those_acting}
use Rattle.cell_tiles.specs.Tiles.{pairs_with}
use Rattle.cell_tiles.proofs.lists.PairList.add_row.Given as goal

abbrev pub invariant-loop-seen : goal.invariant-loop-seen
invariant-loop-seen l =
    let frame = l.frame.places.now in
    record {
      acting : those_acting l.frame.reach.now l.frame.ring.now frame l.self ≡ those_acting l.frame.reach.now l.frame.ring.now frame l.fn.self ++ those_acting l.frame.reach.now l.frame.ring.now frame (take l.seen (pairs_with l.atom l.others));
      listed : All (IsPairOf (length frame)) l.fn.self → All (IsPairOf (length frame)) l.self;
      within : l.seen ≤ length l.others;
      few : length l.self ≤ length l.fn.self + l.seen;
    }

abbrev pub decreases-loop-seen : goal.decreases-loop-seen
decreases-loop-seen l = length l.others - l.seen
