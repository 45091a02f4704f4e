-- States from GRO files, GRO files from states, and listings from jobs, each from the bytes read to the bytes printed.
-- `Wrote` is the property that the output has for the printed text.
use Rattle.std.specs.Prelude.{◌≡◌, ℕ, ◌-◌, ◌<◌, ◌≤◌, Bool, true, false, List, length, Result, Ok, slice_index_or}
use Rattle.energy_program.specs.Faults.{Refusal}
use Rattle.fixed.specs.declared.frac.Frac.{Frac}
use Rattle.gro.specs.Frames.{FrameView}
use Rattle.gro.specs.GroText.{IsGroText}
use Rattle.gro.specs.GroWriting.{frame_text}
use Rattle.potential.specs.Energies.{energy_code_of, slope_code_of}
use Rattle.job.specs.JobText.{IsJobText, limits}
use Rattle.job.specs.Values.{JobValue}
use Rattle.kernel_code.specs.Listing.{listing_of}
use Rattle.kernel_code.specs.declared.instructions.Instr.{Instr}
use Rattle.state.specs.Starts.{start_of_frame}
use Rattle.state.specs.StateFrames.{frame_of}
use Rattle.engine.specs.RunSpecification.{IsTextOf}
use Rattle.state.specs.StateText.{StateView, state_text}

-- the frame with this number, counted from 1
pub record IsFrameOf (frames : List FrameView) (number : ℕ) (frame : FrameView) : Type 0 where
  pub some : 0 < number
  pub within : number ≤ length frames
  pub there : frame ≡ slice_index_or frames (number - 1) frame

-- the state with these fraction bits that starts at the frame with this number of a GRO text, for this time step
pub record IsStartOf (frac : Frac) (time_step : ℕ) (gro : List ℕ) (number : ℕ) (state : StateView) : Type 0 where
  pub frames : List FrameView
  pub frame : FrameView
  pub gro_text : IsGroText gro frames
  pub picked : IsFrameOf frames number frame
  pub started : start_of_frame frac time_step frame ≡ Ok state

-- the text of the state that starts, under a job, at the frame with this number of a GRO text was written
pub record IsStartText (job gro : List ℕ) (number : ℕ) (Wrote : List ℕ → Type 0) : Type 0 where
  pub said : JobValue
  pub state : StateView
  pub job_text : IsJobText limits job said
  pub started : IsStartOf said.frac said.time_step gro number state
  pub written : Wrote (state_text state)

-- the current frame of this state was written as a GRO text
pub record IsFrameText (state : List ℕ) (Wrote : List ℕ → Type 0) : Type 0 where
  pub said : StateView
  pub state_text' : IsTextOf state said
  pub written : Wrote (frame_text (frame_of said))

-- the code that `code` lists, or the error: with `--energy` the code of the energy itself, otherwise the slope code
abbrev pub listed_code_of : (energy : Bool) → JobValue → Result (List Instr) Refusal
listed_code_of true j = energy_code_of j
listed_code_of false j = slope_code_of j

-- the listing of this job's slope code, or of the code of the energy itself, was written
pub record IsCodeText (job : List ℕ) (energy : Bool) (Wrote : List ℕ → Type 0) : Type 0 where
  pub said : JobValue
  pub code : List Instr
  pub job_text : IsJobText limits job said
  pub compiled : listed_code_of energy said ≡ Ok code
  pub written : Wrote (listing_of code)
