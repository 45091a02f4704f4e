use Rattle.std.proofs.Common.{◌≡◌, ◌-◌, ◌≤◌, ◌++◌, drop, length, take, All}
use Rattle.cell_tiles.specs.Near.{IsMarkBelow, IsPairOf, named, those_acting}
use Rattle.cell_tiles.specs.Tiles.{pairs_between}
use Rattle.cell_tiles.proofs.marks.Marks.mark_cell.Given as goal

abbrev pub invariant-loop-next : goal.invariant-loop-next
invariant-loop-next l =
    let frame = l.frame.places.now in
    record {
      acting : those_acting l.frame.reach.now l.frame.ring.now frame (named l.gathered.atoms l.self) ≡ those_acting l.frame.reach.now l.frame.ring.now frame (named l.gathered.atoms l.fn.self) ++ those_acting l.frame.reach.now l.frame.ring.now frame (pairs_between (take (l.next - l.from) (drop l.from l.atoms)) l.gathered.atoms);
      listed : All (IsPairOf (length frame)) (named l.gathered.atoms l.fn.self) → All (IsPairOf (length frame)) (named l.gathered.atoms l.self);
      below : All (IsMarkBelow (length l.gathered.atoms)) l.fn.self → All (IsMarkBelow (length l.gathered.atoms)) l.self;
      within : l.next ≤ length l.atoms;
      onward : l.from ≤ l.next;
      first : l.next ≡ l.from → length l.self ≡ length l.fn.self;
      few : length l.self ≤ 128;
    }

abbrev pub decreases-loop-next : goal.decreases-loop-next
decreases-loop-next l = length l.atoms - l.next
