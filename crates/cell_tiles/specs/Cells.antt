-- The cells of a box, each with a number, and the atoms in them (GROMACS manual, Neighbor searching, grid search).
use Rattle.std.specs.Prelude.{◌≡◌, ℕ, zero, suc, ◌+◌, ◌*◌, ◌/◌, ◌%◌, ◌^◌, ◌==◌, ◌<◌, ◌≤◌, Bool, ◌&&◌, List, [], ◌∷◌, ◌++◌, None, length, map, filter, slice_index, slice_index_or}
use Rattle.std.specs.Int.{bit_at}
use Rattle.place_blocks.specs.Blocks.{AreUpperHalves, IsLane}
use Rattle.ring_box.specs.Acting.{Reach, acting_of}
use Rattle.ring_box.specs.Cells.{are_near_cells, cell_of}
use Rattle.ring_box.specs.Places.{places_of}
use Rattle.place_blocks.specs.declared.blocks.Block.{Block}
use Rattle.place_blocks.specs.declared.upper_halves.UpperHalves.{UpperHalves}
use Rattle.ring_box.specs.declared.boxes.RingBox.{RingBox}
use Rattle.ring_box.specs.declared.vectors.CellBits.{CellBits}
use Rattle.ring_box.specs.declared.vectors.CellNumbers.{CellNumbers}
use Rattle.ring_box.specs.declared.vectors.Place3.{Place3}

-- a side is cut into 2^b cells, b from 1 to 4
abbrev pub IsBits : ℕ → Type 0
IsBits b = (1 ≤ b) × (b ≤ 4)

abbrev pub IsGrid : CellBits → Type 0
IsGrid bits = IsBits bits.x × IsBits bits.y × IsBits bits.z

-- the number of cells
abbrev pub cells_of : CellBits → ℕ
cells_of bits = 2 ^ bits.x * 2 ^ bits.y * 2 ^ bits.z

-- the number of the cell with these indices along the sides
abbrev pub cell_at : CellBits → CellNumbers → ℕ
cell_at bits c = (c.x * 2 ^ bits.y + c.y) * 2 ^ bits.z + c.z

-- the cell that contains an atom at p, by its indices along the sides and by its number
abbrev pub numbers_at : CellBits → Place3 → CellNumbers
numbers_at bits p = record { x = cell_of p.x bits.x; y = cell_of p.y bits.y; z = cell_of p.z bits.z }

abbrev pub cell_number : CellBits → Place3 → ℕ
cell_number bits p = cell_at bits (numbers_at bits p)

-- the indices of a cell along the sides
abbrev pub numbers_of : CellBits → ℕ → CellNumbers
numbers_of bits c = record { x = c / 2 ^ bits.z / 2 ^ bits.y; y = c / 2 ^ bits.z % 2 ^ bits.y; z = c % 2 ^ bits.z }

-- two cells are equal or neighbours: along each side their indices are equal or adjacent, with wrap-around
abbrev pub are_near_numbers : CellBits → CellNumbers → CellNumbers → Bool
are_near_numbers bits c d = are_near_cells bits.x c.x d.x && (are_near_cells bits.y c.y d.y && are_near_cells bits.z c.z d.z)

abbrev pub are_near : CellBits → ℕ → ℕ → Bool
are_near bits c d = are_near_numbers bits (numbers_of bits c) (numbers_of bits d)

-- the numbers below n, ascending
unfoldable pub numbers_below : ℕ → List ℕ
numbers_below zero = []
numbers_below (suc n) = numbers_below n ++ n ∷ []

-- the atoms of the cell c among the first n atoms of a frame, ascending
abbrev pub members_among : CellBits → List Place3 → ℕ → ℕ → List ℕ
members_among bits frame n c = filter (λ a. cell_number bits (places_of frame a) == c) (numbers_below n)

-- the first n atoms of a frame, sorted into cells
abbrev pub first_members : CellBits → List Place3 → ℕ → List (List ℕ)
first_members bits frame n = map (members_among bits frame n) (numbers_below (cells_of bits))

-- the atoms of each cell, ascending
abbrev pub members_of : CellBits → List Place3 → List (List ℕ)
members_of bits frame = first_members bits frame (length frame)

-- ---- blocks of coarse coordinates

-- the default block, for a look-up that finds none
abbrev pub no_block : Block
no_block = record { x = []; y = []; z = [] }

-- these atoms of a frame have the lanes of a block, from the lane `first` on
abbrev pub AreLanes : List Place3 → Block → ℕ → List ℕ → Type 0
AreLanes frame block first atoms = (i : ℕ) → i < length atoms → IsLane block (first + i) (places_of frame (slice_index atoms i))

-- these atoms of a frame have the lanes of these blocks, sixteen in each, from the lane `first` on
abbrev pub AreInBlocks : List Place3 → List Block → ℕ → List ℕ → Type 0
AreInBlocks frame blocks first atoms =
    (i : ℕ) → i < length atoms → IsLane (slice_index_or blocks ((first + i) / 16) no_block) ((first + i) % 16)
    (places_of frame (slice_index atoms i))

-- an atom in a lane of the first n of these blocks whose bit isn't set doesn't interact with an atom at these coarse
-- coordinates
abbrev pub LeavesOutOfFirst : Reach → RingBox → List Block → ℕ → UpperHalves → ℕ → Type 0
LeavesOutOfFirst d b blocks n h bits =
    (k : ℕ) (p q : Place3) → k < 16 * n → AreUpperHalves h p
    → IsLane (slice_index_or blocks (k / 16) no_block) (k % 16) q → bit_at bits k ≡ 0 → acting_of d b p q ≡ None

-- the blocks have the coarse coordinates of exactly these atoms of a frame, sixteen in each
pub record AreBlocks (frame : List Place3) (atoms : List ℕ) (blocks : List Block) : Type 0 where
  pub long : length blocks ≡ (length atoms + 15) / 16
  pub lanes : AreInBlocks frame blocks 0 atoms

-- atoms, and blocks in which they have lanes
pub record BlockAtoms : Type 0 where
  pub atoms : List ℕ
  pub blocks : List Block

-- a filled cell list: the division of the box, the atoms of each cell, and their blocks
pub record CellAtoms : Type 0 where
  pub bits : CellBits
  pub members : List (List ℕ)
  pub blocks : List (List Block)

-- the blocks of each cell have the coarse coordinates of the cell's atoms
abbrev pub AreBlocksOfEach : List Place3 → List (List ℕ) → List (List Block) → Type 0
AreBlocksOfEach frame members blocks = (c : ℕ) → AreBlocks frame (slice_index_or members c []) (slice_index_or blocks c [])

abbrev pub AreBeside : List Place3 → CellAtoms → Type 0
AreBeside frame cells = AreBlocksOfEach frame cells.members cells.blocks
