-- Titles of the frames of a trajectory: a state's own title, followed by the time and the step of the frame in the
-- notation of GROMACS (GROMACS manual, gro file format).
use Rattle.std.specs.Prelude.{◌≡◌, ◌⊎◌, ℕ, suc, ◌+◌, ◌*◌, ◌<◌, List, ◌++◌, length, take, codes, ℤ, pos, negsuc, neg_ℤ, slice_range}
use Rattle.std.specs.Fmt.{signed_decimal}
use Rattle.line_text.specs.Columns.{decimals_text}
use Rattle.line_text.specs.Parts.{right_in}

-- the separator between a frame's own title and its time
abbrev pub mark : List ℕ
mark = codes " t= "

-- the separator is in the title at this index
abbrev pub HasMark : List ℕ → ℕ → Type 0
HasMark title at = slice_range title at (at + 4) ≡ mark

-- the end of the state's own title: before the first separator, or at the end if there is none
pub record IsOwnEnd (title : List ℕ) (at : ℕ) : Type 0 where
  pub ends : (at ≡ length title) ⊎ HasMark title at
  pub first : (k : ℕ) → k < at → HasMark title k → ⊥

-- the time of a step in 10^-5 ps; the time step is in fs
abbrev pub time_of : ℕ → ℤ → ℤ
time_of time_step (pos n) = pos (n * time_step * 100)
time_of time_step (negsuc n) = neg_ℤ (pos (suc n * time_step * 100))

-- ` t= %9.5f step= %d`
abbrev pub time_and_step : ℕ → ℤ → List ℕ
time_and_step time_step step = mark ++ right_in 9 (decimals_text 5 (time_of time_step step)) ++ codes " step= " ++ signed_decimal step

-- the title of the frame of this step
pub record IsTimedTitle (time_step : ℕ) (step : ℤ) (title timed : List ℕ) : Type 0 where
  pub at : ℕ
  pub ends : IsOwnEnd title at
  pub is : timed ≡ take at title ++ time_and_step time_step step
