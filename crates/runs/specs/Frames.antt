-- Frames of a trajectory: each visited state is shown as a frame in the notation of GROMACS (GROMACS manual, gro file
-- format).
use Rattle.std.specs.Prelude.{◌≡◌, ℕ, List}
use Rattle.gro.specs.Frames.{FrameView}
use Rattle.gro.specs.GroWriting.{frame_text}
use Rattle.state.specs.StateFrames.{frame_of}
use Rattle.state.specs.StateText.{StateView}
use Rattle.runs.specs.FrameTitles.{IsTimedTitle}
use Rattle.runs.specs.Visits.{Showing}

-- the frame of a state, with time and step in its title
pub record IsTimedFrame (time_step : ℕ) (s : StateView) (f : FrameView) : Type 0 where
  pub title : List ℕ
  pub timed : IsTimedTitle time_step s.step s.title title
  pub is : f ≡ record (frame_of s) { title = title }

-- the text of the frame of a state
pub record IsTimedText (time_step : ℕ) (s : StateView) (text : List ℕ) : Type 0 where
  pub frame : FrameView
  pub timed : IsTimedFrame time_step s frame
  pub written : text ≡ frame_text frame

-- each state is shown as the text of its frame, which needs memory
abbrev pub ShowsFrame : Showing
ShowsFrame = record {
  texts = λ job number s text. IsTimedText job.time_step s text;
  allocates = Unit {0};
  observes = ⊥;
}
