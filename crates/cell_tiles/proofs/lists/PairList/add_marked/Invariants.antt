use Rattle.std.proofs.Common.{◌≡◌, ℕ, ◌+◌, ◌^◌, ◌<◌, ◌≤◌, ◌++◌, length, map, slice_index, take}
use Rattle.cell_tiles.specs.Near.{lanes_of}
use Rattle.cell_tiles.specs.Tiles.{pair_of}
use Rattle.cell_tiles.proofs.lists.PairList.add_marked.Given as goal

abbrev pub invariant-loop-left : goal.invariant-loop-left
invariant-loop-left l =
    let at = λ (j : ℕ). pair_of l.atom (slice_index l.others j) in
    record {
      listed : l.fn.self ++ map at (lanes_of l.marked) ≡ map (λ p. (p.low, p.high)) (take l.count l.self-inside.pairs) ++ map at (lanes_of l.left);
      kept : map (λ p. (p.low, p.high)) (take (length l.fn.self) l.self-inside.pairs) ≡ l.fn.self;
      same : l.self-inside.count ≡ length l.fn.self;
      on : length l.fn.self ≤ l.count;
      most : l.count + length (lanes_of l.left) ≤ length l.fn.self + length l.others;
      few : length l.fn.self ≤ 128;
      small : l.left < 2 ^ length l.others;
      wide : length l.self-inside.pairs ≡ 192;
    }

abbrev pub decreases-loop-left : goal.decreases-loop-left
decreases-loop-left l = l.left
