use Rattle.std.proofs.Common.{◌≡◌, length, map, take}
use Rattle.cell_tiles.specs.Near.{named}
use Rattle.ring_box.specs.declared.pairs.AtomPair.{AtomPair}
use Rattle.cell_tiles.proofs.lists.PairList.resolve.Given as goal

abbrev pub invariant-loop-e : goal.invariant-loop-e
invariant-loop-e l =
    record {
      wide : length l.self-inside.pairs ≡ 192;
      listed : map (λ (p : AtomPair). (p.low, p.high)) (take l.e l.self-inside.pairs) ≡ take l.e (named l.others l.marks);
    }
