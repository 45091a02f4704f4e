-- The exact sum of the forces of all pairs on a component of an atom, over unbounded integers.
use Rattle.std.specs.Prelude.{◌≡◌, ℕ, ◌+◌, ◌*◌, ◌%◌, ◌^◌, ◌<◌, ◌==◌, if◌then◌else◌, List, [], ◌∷◌, Option, Some, None, ℤ, pos, neg_ℤ, ◌+ℤ◌, FitsSigned}
use Rattle.std.specs.Int.{w64, cast_signed}
use Rattle.rounds.specs.declared.work.PairAdd.{PairAdd}
use Rattle.rounds.specs.Tiles.{component, total, tiles_of}

-- the force of an interacting pair on its lower atom, and the negative on its higher atom
abbrev pub force_on : ℕ → ℕ → Option PairAdd → ℤ
force_on atom axis None = pos 0
force_on atom axis (Some p) =
    (if p.low == atom then component p.force axis else pos 0)
    +ℤ (if p.high == atom then neg_ℤ (component p.force axis) else pos 0)

-- the sum of the forces of a tile's pairs on a component of an atom
abbrev pub tile_force : ℕ → ℕ → List (Option PairAdd) → ℤ
tile_force atom axis [] = pos 0
tile_force atom axis (p ∷ ps) = force_on atom axis p +ℤ tile_force atom axis ps

-- the sum of the forces of all tiles' pairs on a component of an atom
abbrev pub exact_force : ℕ → ℕ → List (List (Option PairAdd)) → ℤ
exact_force atom axis [] = pos 0
exact_force atom axis (t ∷ ts) = tile_force atom axis t +ℤ exact_force atom axis ts

-- each component of the pair's force is a signed number of 64 bits
abbrev pub HasWords : PairAdd → Type 0
HasWords p = (axis : ℕ) → axis < 3 → FitsSigned w64 (component p.force axis)

abbrev pub TileHasWords : List (Option PairAdd) → Type 0
TileHasWords [] = Unit {0}
TileHasWords (None ∷ ps) = TileHasWords ps
TileHasWords (Some p ∷ ps) = HasWords p × TileHasWords ps

abbrev pub PlanHasWords : List (List (Option PairAdd)) → Type 0
PlanHasWords [] = Unit {0}
PlanHasWords (t ∷ ts) = TileHasWords t × PlanHasWords ts

-- 64 bits, read as a signed number, are the exact force on a component, if that force fits 64 bits
abbrev pub ComesOut : List (List (Option PairAdd)) → ℕ → ℕ → ℕ → Type 0
ComesOut plan atom axis bits = FitsSigned w64 (exact_force atom axis plan)
    → cast_signed w64 bits ≡ exact_force atom axis plan

-- the total of each component is the exact force, if that fits
abbrev pub TotalsComeOut : List (List (Option PairAdd)) → Type 0
TotalsComeOut plan = (atom axis : ℕ) → axis < 3
    → ComesOut plan atom axis (total (tiles_of plan) (3 * atom + axis) % 2 ^ 64)
