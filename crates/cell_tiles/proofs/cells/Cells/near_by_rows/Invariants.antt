use Rattle.std.proofs.Common.{◌≡◌, ◌-◌, ◌≤◌, ◌++◌, length, drop, All}
use Rattle.cell_tiles.specs.Near.{IsPairOf, those_acting}
use Rattle.cell_tiles.specs.Tiles.{members_at, pairs_in}
use Rattle.cell_tiles.proofs.cells.Cells.near_by_rows.Given as goal

abbrev pub invariant-loop-next : goal.invariant-loop-next
invariant-loop-next g l =
    let frame = l.frame.places.now in
    let pairs = pairs_in l.self.members (l.tile.first, l.tile.second) in
    record {
      rows : l.rows.pairs ≡ drop l.next pairs;
      others : l.rows.others ≡ members_at l.self.members l.tile.second;
      within : l.next ≤ length pairs;
      from : l.k ≤ l.next;
      acting : those_acting l.frame.reach.now l.frame.ring.now frame (drop l.k pairs) ≡ those_acting l.frame.reach.now l.frame.ring.now frame l.near ++ those_acting l.frame.reach.now l.frame.ring.now frame (drop l.next pairs);
      listed : All (IsPairOf (length frame)) l.near;
      few : length l.near ≤ l.next - l.k;
    }

abbrev pub decreases-loop-next : goal.decreases-loop-next
decreases-loop-next g l = length l.rows.pairs
