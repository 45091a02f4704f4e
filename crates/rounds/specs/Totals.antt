-- The sums that a pool returns.
use Rattle.std.specs.Prelude.{◌≡◌, ℕ, ◌*◌, ◌%◌, ◌^◌, ◌<◌, List, ◌++◌, length, slice_index_or, ℤ, pos}
use Rattle.std.specs.Int.{w64, cast_signed}
use Rattle.rounds.specs.Tiles.{Addition, on_entry, total}

-- each entry is `found` there, modulo 2^64 and read as a signed number
pub record AreWords (found : ℕ → ℕ) (entries : ℕ) (sums : List ℤ) : Type 0 where
  pub count : length sums ≡ entries
  pub each : (k : ℕ) → k < entries → slice_index_or sums k (pos 0) ≡ cast_signed w64 (found k % 2 ^ 64)

-- the sums of these additions, one for each entry
abbrev pub AreSums : List Addition → ℕ → List ℤ → Type 0
AreSums xs entries sums = AreWords (λ k. on_entry k xs) entries sums

-- if the sums before are the sums of some additions, the sums after are the sums of these additions followed by xs
abbrev pub GoesOn : List ℤ → List Addition → List ℤ → Type 0
GoesOn before xs after = (length after ≡ length before)
    × ((done : List Addition) → AreSums done (length before) before → AreSums (done ++ xs) (length before) after)

-- the sums over all tiles, on the three entries of each atom
abbrev pub AreTotals : List (List Addition) → ℕ → List ℤ → Type 0
AreTotals tiles atoms sums = AreWords (total tiles) (3 * atoms) sums
