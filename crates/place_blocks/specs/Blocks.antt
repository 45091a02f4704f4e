-- Coarse coordinates, the upper 16 of the 32 bits of a grid coordinate, in blocks of sixteen atoms that are tested at
-- once.
use Rattle.std.specs.Prelude.{ℕ, ◌≡◌, ◌+◌, ◌-◌, ◌*◌, ◌/◌, ◌%◌, ◌^◌, ◌<◌, ◌≤◌, nat_le, max, min, slice_index, if◌then◌else◌, None}
use Rattle.std.specs.Int.{bit_at}
use Rattle.ring_box.specs.Acting.{IsReach, Reach, acting_of, limit_of}
use Rattle.place_blocks.specs.declared.blocks.Block.{Block}
use Rattle.ring_box.specs.declared.boxes.RingBox.{RingBox}
use Rattle.place_blocks.specs.declared.coarse_reaches.CoarseReach.{CoarseReach}
use Rattle.place_blocks.specs.declared.upper_halves.CellSpan.{CellSpan}
use Rattle.place_blocks.specs.declared.upper_halves.UpperHalves.{UpperHalves}
use Rattle.ring_box.specs.declared.vectors.CellBits.{CellBits}
use Rattle.ring_box.specs.declared.vectors.CellNumbers.{CellNumbers}
use Rattle.ring_box.specs.declared.vectors.Place3.{Place3}

-- ---- coarse coordinates

-- h is the coarse coordinate of the grid coordinate x
abbrev pub IsUpperHalf : ℕ → ℕ → Type 0
IsUpperHalf h x = (x < 2 ^ 32) × (x / 2 ^ 16 ≡ h)

-- h has the coarse coordinates of an atom at p along each axis
abbrev pub AreUpperHalves : UpperHalves → Place3 → Type 0
AreUpperHalves h p = IsUpperHalf h.x p.x × IsUpperHalf h.y p.y × IsUpperHalf h.z p.z

-- the coarse coordinates in lane k of a block
abbrev pub halves_at : Block → ℕ → UpperHalves
halves_at b k = record { x = slice_index b.x k; y = slice_index b.y k; z = slice_index b.z k }

-- lane k of a block has the coarse coordinates of an atom at p
abbrev pub IsLane : Block → ℕ → Place3 → Type 0
IsLane b k p = AreUpperHalves (halves_at b k) p

-- the coarse coordinate of x is one of `width` from `first` on
abbrev pub IsInSpan : ℕ → ℕ → ℕ → Type 0
IsInSpan first width x = (x < 2 ^ 32) × (first ≤ x / 2 ^ 16) × (x / 2 ^ 16 < first + width)

-- the coarse coordinates of an atom at p are in the span along each axis
abbrev pub AreInSpan : CellSpan → Place3 → Type 0
AreInSpan span p =
    IsInSpan span.first.x span.width.x p.x × IsInSpan span.first.y span.width.y p.y × IsInSpan span.first.z span.width.z p.z

-- the span of one coarse coordinate along each axis
abbrev pub own_span : UpperHalves → CellSpan
own_span h = record { first = h; width = record { x = 1; y = 1; z = 1 } }

-- the span of a cell: along an axis that is cut into 2^b cells, each has 2^(16 - b) coarse coordinates
abbrev pub cell_span_of : CellBits → CellNumbers → CellSpan
cell_span_of bits cell =
    record {
      first = record { x = cell.x * 2 ^ (16 - bits.x); y = cell.y * 2 ^ (16 - bits.y); z = cell.z * 2 ^ (16 - bits.z) };
      width = record { x = 2 ^ (16 - bits.x); y = 2 ^ (16 - bits.y); z = 2 ^ (16 - bits.z) };
    }

-- ---- coarse lengths: in units of 2^cut times 10^-5 nm, in which a side has at most 16 bits

-- the coarse coordinate x minus y, modulo 2^16
abbrev pub behind : ℕ → ℕ → ℕ
behind x y = (x + (2 ^ 16 - y)) % 2 ^ 16

-- the least number of whole coarse steps, of 2^16 grid units each, between a grid coordinate with the coarse coordinate
-- h and any whose coarse coordinate is one of `width` from `first` on
abbrev pub least_gap : ℕ → ℕ → ℕ → ℕ
least_gap h first width = min (behind h first - width) (2 ^ 16 - 1 - behind h first)

-- the coarse length of this many coarse steps on a side, which has 2^16 of them, rounded down
abbrev pub coarse_length_of : ℕ → ℕ → ℕ
coarse_length_of gap side = gap * side / 2 ^ 16

abbrev pub coarse_square : ℕ → ℕ → ℕ
coarse_square gap side = coarse_length_of gap side * coarse_length_of gap side

-- the square of the least coarse distance between the atom in lane k and the span
abbrev pub coarse_square_of : CoarseReach → CellSpan → Block → ℕ → ℕ
coarse_square_of c span b k =
    coarse_square (least_gap (slice_index b.x k) span.first.x span.width.x) c.x
    + coarse_square (least_gap (slice_index b.y k) span.first.y span.width.y) c.y
    + coarse_square (least_gap (slice_index b.z k) span.first.z span.width.z) c.z

-- the bit of a lane is set exactly if its coarse square is at most the limit
abbrev pub AreNearBits : CoarseReach → CellSpan → Block → ℕ → Type 0
AreNearBits c span b bits = (k : ℕ) → k < 16 → bit_at bits k ≡ (if nat_le (coarse_square_of c span b k) c.limit then 1 else 0)

-- ---- the coarse reach

-- the sides in coarse units are no longer than the box's, and any square above the limit is out of reach, unless the
-- limit is the greatest number of 32 bits
pub record IsCoarseReach (d : Reach) (b : RingBox) (c : CoarseReach) : Type 0 where
  pub reach : IsReach d
  pub cut : ℕ
  pub x : c.x * 2 ^ cut ≤ b.x
  pub y : c.y * 2 ^ cut ≤ b.y
  pub z : c.z * 2 ^ cut ≤ b.z
  pub limit : c.limit < 2 ^ 32 - 1 → limit_of d.frac d.cutoff < (c.limit + 1) * 2 ^ (64 + 2 * cut)

-- n without its lower `cut` bits has at most 16 bits, and `cut` is the least such number
pub record IsCut (n cut : ℕ) : Type 0 where
  pub fits : n / 2 ^ cut < 2 ^ 16
  pub least : (k : ℕ) → n / 2 ^ k < 2 ^ 16 → cut ≤ k

-- c has the finest such unit, and the sides and the limit in that unit, rounded down
pub record IsFinest (d : Reach) (b : RingBox) (c : CoarseReach) : Type 0 where
  pub cut : ℕ
  pub is_cut : IsCut (max (max b.x b.y) b.z) cut
  pub x : c.x ≡ b.x / 2 ^ cut
  pub y : c.y ≡ b.y / 2 ^ cut
  pub z : c.z ≡ b.z / 2 ^ cut
  pub limit : c.limit ≡ min (limit_of d.frac d.cutoff / 2 ^ (64 + 2 * cut)) (2 ^ 32 - 1)

-- an atom in a lane whose bit isn't set doesn't interact with an atom at these coarse coordinates
abbrev pub LeavesOut : Reach → RingBox → Block → UpperHalves → ℕ → Type 0
LeavesOut d b block h bits =
    (k : ℕ) (p q : Place3) → k < 16 → AreUpperHalves h p → IsLane block k q → bit_at bits k ≡ 0 → acting_of d b p q ≡ None

-- an atom in a lane whose bit isn't set doesn't interact with any atom in this span
abbrev pub LeavesOutOfSpan : Reach → RingBox → Block → CellSpan → ℕ → Type 0
LeavesOutOfSpan d b block span bits =
    (k : ℕ) (p q : Place3) → k < 16 → AreInSpan span p → IsLane block k q → bit_at bits k ≡ 0 → acting_of d b p q ≡ None
