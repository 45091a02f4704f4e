use Rattle.std.proofs.Common.{◌≡◌, ℕ, ◌^◌, ◌<◌, ◌≤◌, ◌++◌, length, take, All}
use Rattle.std.specs.Int.{bit_at}
use Rattle.cell_tiles.specs.Near.{IsMarkBelow, IsPairOf, named, those_acting}
use Rattle.cell_tiles.specs.Tiles.{pairs_between}
use Rattle.cell_tiles.proofs.marks.Marks.mark_rows.Given as goal

abbrev pub invariant-loop-left : goal.invariant-loop-left
invariant-loop-left l =
    let frame = l.frame.places.now in
    record {
      acting : those_acting l.frame.reach.now l.frame.ring.now frame (named l.gathered.atoms l.self) ≡ those_acting l.frame.reach.now l.frame.ring.now frame (named l.gathered.atoms l.fn.self) ++ those_acting l.frame.reach.now l.frame.ring.now frame (pairs_between (take l.next l.atoms) l.gathered.atoms);
      listed : All (IsPairOf (length frame)) (named l.gathered.atoms l.fn.self) → All (IsPairOf (length frame)) (named l.gathered.atoms l.self);
      below : All (IsMarkBelow (length l.gathered.atoms)) l.fn.self → All (IsMarkBelow (length l.gathered.atoms)) l.self;
      within : l.next ≤ length l.atoms;
      small : l.left < 2 ^ length l.atoms;
      passed : (k : ℕ) → k < l.next → bit_at l.left k ≡ 0;
      ahead : (k : ℕ) → l.next ≤ k → bit_at l.left k ≡ bit_at l.marked k;
      first : l.next ≡ 0 → length l.self ≡ length l.fn.self;
      few : length l.self ≤ 128;
    }

abbrev pub decreases-loop-left : goal.decreases-loop-left
decreases-loop-left l = l.left
