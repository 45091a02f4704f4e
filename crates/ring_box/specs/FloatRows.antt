-- Rows of 128 numbers that are written four at a time.
use Rattle.std.specs.Prelude.{ℕ, ℤ, pos, ◌≡◌, ◌+◌, ◌≤◌, ◌<◌, List, length, slice_index_or, ◌⊎◌}

-- the row `to` has these four numbers from the index l on; otherwise it is the row `from`
pub record IsWithFour (from : List ℤ) (l : ℕ) (four to : List ℤ) : Type 0 where
  pub long : length to ≡ length from
  pub inside : (k : ℕ) → k < 4 → slice_index_or to (l + k) (pos 0) ≡ slice_index_or four k (pos 0)
  pub outside : (k : ℕ) → (k < l) ⊎ (l + 4 ≤ k) → slice_index_or to k (pos 0) ≡ slice_index_or from k (pos 0)
