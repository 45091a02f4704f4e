-- Pairs of a tile that may interact: all that do, in order, and some that don't.
use Rattle.std.specs.Prelude.{◌≡◌, ◌<◌, ◌≤◌, ◌++◌, ◌==◌, ℕ, Bool, is_some, List, [], filter, length, map, drop, slice_index, take, All}
use Rattle.std.specs.Int.{bit_at}
use Rattle.ring_box.specs.Acting.{Reach, acting_of}
use Rattle.ring_box.specs.declared.boxes.RingBox.{RingBox}
use Rattle.ring_box.specs.declared.vectors.Place3.{Place3}
use Rattle.ring_box.specs.Places.{places_of}
use Rattle.cell_tiles.specs.Cells.{numbers_below}
use Rattle.cell_tiles.specs.Tiles.{pair_of}
use Rattle.cell_tiles.specs.declared.byte_lanes.ByteLanes.{ByteLanes}
use Rattle.cell_tiles.specs.declared.near.FrameInBox.{FrameInBox}

-- two atoms of a frame interact
abbrev pub pair_acts : Reach → RingBox → List Place3 → ℕ × ℕ → Bool
pair_acts d b frame p = is_some (acting_of d b (places_of frame p.0) (places_of frame p.1))

-- the interacting pairs of a list
abbrev pub those_acting : Reach → RingBox → List Place3 → List (ℕ × ℕ) → List (ℕ × ℕ)
those_acting d b frame ps = filter (pair_acts d b frame) ps

-- p is a pair of two of n atoms, the lower first
abbrev pub IsPairOf : ℕ → ℕ × ℕ → Type 0
IsPairOf n p = (p.0 < p.1) × (p.1 < n)

-- the interacting pairs from the number k on are the interacting ones of `near`, then the ones from the number n on
pub record AreNear (d : Reach) (b : RingBox) (frame : List Place3) (pairs : List (ℕ × ℕ)) (k : ℕ)
    (near : List (ℕ × ℕ)) (n : ℕ) : Type 0 where
  pub onward : k < n
  pub within : n ≤ length pairs
  pub acting : those_acting d b frame (drop k pairs) ≡ those_acting d b frame near ++ those_acting d b frame (drop n pairs)

-- ---- for a frame in its box

-- the interacting pairs of a list
abbrev pub acting_in : FrameInBox → List (ℕ × ℕ) → List (ℕ × ℕ)
acting_in f ps = those_acting f.reach.now f.ring.now f.places.now ps

-- all are pairs of two of the frame's atoms, the lower first
abbrev pub ArePairsIn : FrameInBox → List (ℕ × ℕ) → Type 0
ArePairsIn f ps = All (IsPairOf (length f.places.now)) ps

-- `AreNear` for a frame in its box
abbrev pub AreNearIn : FrameInBox → (pairs : List (ℕ × ℕ)) → (k : ℕ) → (near : List (ℕ × ℕ)) → (n : ℕ) → Type 0
AreNearIn f pairs k near n = AreNear f.reach.now f.ring.now f.places.now pairs k near n

-- the lanes below 64 whose bits are set, ascending
unfoldable pub lanes_of : ℕ → List ℕ
lanes_of bits = filter (λ k. bit_at bits k == 1) (numbers_below 64)

-- ---- marks: an atom, and an index into a list of others that is resolved later

abbrev pub mark : ℕ → ℕ → ℕ × ℕ
mark a index = (a, index)

-- the pairs of these marks, whose indices refer to `others`
abbrev pub named : List ℕ → List (ℕ × ℕ) → List (ℕ × ℕ)
named others ms = map (λ m. pair_of m.0 (slice_index others m.1)) ms

-- a mark's index is below n
abbrev pub IsMarkBelow : ℕ → ℕ × ℕ → Type 0
IsMarkBelow n m = m.1 < n

-- the default entry, for a look-up that finds none
abbrev pub no_byte : ByteLanes
no_byte = record { lanes = []; count = 0 }

-- the first `count` lanes are the lanes of the byte's set bits, ascending
pub record AreByteLanes (byte : ℕ) (of : ByteLanes) : Type 0 where
  pub long : length of.lanes ≡ 8
  pub few : of.count ≤ 8
  pub lanes : take of.count of.lanes ≡ lanes_of byte
