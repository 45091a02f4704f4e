use Rattle.std.proofs.Common.{ℕ, ◌<◌, ◌≤◌, ◌-◌, length}
use Rattle.runs.specs.FrameTitles.{HasMark}
use Rattle.runs.proofs.frame_titles.own_end.Given as goal

-- there is no mark at the indices so far
abbrev pub invariant-loop-at : goal.invariant-loop-at
invariant-loop-at l = record {
  within : l.at ≤ length l.title;
  none : (k : ℕ) → k < l.at → HasMark l.title k → ⊥;
}

abbrev pub decreases-loop-at : goal.decreases-loop-at
decreases-loop-at l = length l.title - l.at
