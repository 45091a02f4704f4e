use Rattle.std.proofs.Common.{◌≡◌, ◌<◌, ℕ, map, get_or}
use Rattle.ring_box.specs.Places.{ArePlaces}
use Rattle.ring_box.specs.declared.vectors.Place3.{Place3}
use Rattle.cell_tiles.specs.Cells.{first_members}
use Rattle.cell_tiles.proofs.cells.put_all.Given as goal

-- the atoms before the current one are in their cells
abbrev pub invariant-loop-atom : goal.invariant-loop-atom
invariant-loop-atom g l =
    record {
      put : map (λ m. m.items) l.members.items ≡ first_members l.grid.bits l.frame l.atom;
      on_ring : (k : ℕ) (d : Place3) → k < l.atom → ArePlaces (get_or l.frame k d);
    }
