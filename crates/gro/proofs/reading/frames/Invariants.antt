use Rattle.std.proofs.Common.{◌≤◌, ◌+◌, length, map}
use Rattle.gro.specs.Frames.{frame_view}
use Rattle.gro.specs.GroFaults.{AreFrames}
use Rattle.gro.proofs.reading.frames.Given as goal

abbrev pub invariant-loop-frames : goal.invariant-loop-frames
invariant-loop-frames g l = record {
  before : AreFrames 1 l.bytes (map frame_view l.frames.items) l.number l.rest;
  number : l.number + length l.rest ≤ 1 + length l.bytes;
}

abbrev pub decreases-loop-frames : goal.decreases-loop-frames
decreases-loop-frames g l = length l.rest
