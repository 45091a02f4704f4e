use Rattle.std.proofs.Common.{◌≡◌, ℕ, ◌+◌, ◌^◌, ◌<◌, ◌≤◌, ◌++◌, List, length, map, slice_index, take}
use Rattle.ring_box.specs.declared.vectors.Place3.{Place3}
use Rattle.cell_tiles.specs.Cells.{AreInBlocks, AreLanes}
use Rattle.cell_tiles.specs.Near.{lanes_of}
use Rattle.cell_tiles.proofs.gathered.Gathered.add_marked.Given as goal

abbrev pub invariant-loop-left : goal.invariant-loop-left
invariant-loop-left l =
    let at = λ (j : ℕ). slice_index l.atoms j in
    record {
      listed : l.fn.self.atoms ++ map at (lanes_of l.marked) ≡ take l.count l.self-inside.atoms ++ map at (lanes_of l.left);
      lanes : (frame : List Place3) → AreInBlocks frame l.fn.self.blocks 0 l.fn.self.atoms → AreLanes frame l.block 0 l.atoms → AreInBlocks frame l.self-inside.blocks 0 (take l.count l.self-inside.atoms);
      room : l.count + length (lanes_of l.left) ≤ 128;
      small : l.left < 2 ^ length l.atoms;
      wide : length l.self-inside.atoms ≡ 128;
      high : length l.self-inside.blocks ≡ 8;
    }

abbrev pub decreases-loop-left : goal.decreases-loop-left
decreases-loop-left l = l.left
