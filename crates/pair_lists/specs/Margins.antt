-- The margin of pair lists: pairs are listed up to the cutoff and the margin, and serve while each atom is nearer than
-- half the margin to where it was (L. Verlet, Phys. Rev. 159, 98, 1967).
use Rattle.std.specs.Prelude.{◌≡◌, pos, ◌+ℤ◌, ◌<ℤ◌, List, ℕ, length, All}
use Rattle.cell_tiles.specs.Near.{pair_acts}
use Rattle.ring_box.specs.Acting.{Reach, limit_of}
use Rattle.ring_box.specs.Cells.{NearAreNeighbours}
use Rattle.ring_box.specs.Places.{ArePlaces}
use Rattle.ring_box.specs.declared.boxes.RingBox.{RingBox}
use Rattle.ring_box.specs.declared.vectors.Place3.{Place3}
use Rattle.pair_lists.specs.Lists.{AreListsOf}
use Rattle.pair_lists.specs.declared.margins.Margin.{Margin}

-- m is a margin for this box and this range of distances, and two atoms within cutoff and margin are in one of its cells
-- or in neighbouring ones
pub record IsMargin (ring : RingBox) (reach : Reach) (m : Margin) : Type 0 where
  pub some : pos 0 <ℤ m.half
  pub frac : m.reach.frac ≡ reach.frac
  pub core : m.reach.core ≡ reach.core
  pub cutoff : m.reach.cutoff ≡ reach.cutoff +ℤ m.half +ℤ m.half
  pub limit : m.limit ≡ limit_of reach.frac m.half
  pub neighbours : NearAreNeighbours reach.frac ring m.reach.cutoff m.grid.bits

-- the lists contain each pair that was near, within cutoff and margin, in the frame `reference`
pub record AreKept (ring : RingBox) (m : Margin) (reference : List Place3) (lists : List (List (ℕ × ℕ))) : Type 0 where
  pub places : All ArePlaces reference
  pub listed : AreListsOf (length reference) (pair_acts m.reach ring reference) lists
