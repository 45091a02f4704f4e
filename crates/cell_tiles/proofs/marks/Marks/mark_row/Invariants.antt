use Rattle.std.proofs.Common.{◌≡◌, ◌+◌, ◌-◌, ◌%◌, ◌<◌, ◌≤◌, ◌++◌, length, take, All}
use Rattle.cell_tiles.specs.Near.{IsMarkBelow, IsPairOf, named, those_acting}
use Rattle.cell_tiles.specs.Tiles.{pairs_with}
use Rattle.cell_tiles.proofs.marks.Marks.mark_row.Given as goal

abbrev pub invariant-loop-seen : goal.invariant-loop-seen
invariant-loop-seen l =
    let frame = l.frame.places.now in
    let ys = l.gathered.atoms in
    record {
      acting : those_acting l.frame.reach.now l.frame.ring.now frame (named ys l.self) ≡ those_acting l.frame.reach.now l.frame.ring.now frame (named ys l.fn.self) ++ those_acting l.frame.reach.now l.frame.ring.now frame (take l.seen (pairs_with l.atom ys));
      listed : All (IsPairOf (length frame)) (named ys l.fn.self) → All (IsPairOf (length frame)) (named ys l.self);
      below : All (IsMarkBelow (length ys)) l.fn.self → All (IsMarkBelow (length ys)) l.self;
      few : length l.self ≤ length l.fn.self + l.seen;
      long : length l.fn.self ≤ length l.self;
      kept : take (length l.fn.self) l.self ≡ l.fn.self;
      within : l.seen ≤ length ys;
      aligned : l.seen < length ys → l.seen % 16 ≡ 0;
    }

abbrev pub decreases-loop-seen : goal.decreases-loop-seen
decreases-loop-seen l = length l.gathered.atoms - l.seen
