-- Observations: frames of equal length.
use Rattle.std.proofs.Common.{◌≡◌, ℕ, length, ap, sym, ◌∙◌}
use Rattle.std.proofs.lemmas.List.{length-map}
use Rattle.state.specs.StateText.{AtomView}
use Rattle.integrator.specs.Frames.{Frame, frame_forces}
use Rattle.integrator.specs.States.{current_frame, previous_frame}
use Rattle.engine.specs.Engines.{EngineView, engine_dynamics}
use Rattle.engine.specs.Observers.{IsNextFrameOfEngine}
use Rattle.engine.proofs.AdvanceLaws.{moved_size}

module _ (e : EngineView) (frame : Frame) (count : ℕ) (all : count ≡ length e.state.atoms) where
  -- each frame of an engine has its number of atoms
  pub previous_sized : frame ≡ previous_frame e.state.atoms → length frame ≡ count
  previous_sized is = ap length is ∙ length-map e.state.atoms (λ (a : AtomView). a.previous) ∙ sym all

  pub current_sized : frame ≡ current_frame e.state.atoms → length frame ≡ count
  current_sized is = ap length is ∙ length-map e.state.atoms (λ (a : AtomView). a.current) ∙ sym all

  pub next_sized : (next : Frame) (f : EngineView) → frame ≡ next → IsNextFrameOfEngine f next → e ≡ f → length frame ≡ count
  next_sized next f is follows same =
      let current = current_frame f.state.atoms in
      ap length is ∙ moved_size (engine_dynamics f) (previous_frame f.state.atoms) current next (frame_forces (engine_dynamics f) current) follows
      ∙ length-map f.state.atoms (λ (a : AtomView). a.current) ∙ sym (ap (λ (x : EngineView). length x.state.atoms) same) ∙ sym all
