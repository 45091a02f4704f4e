-- The frame that a state begins at.
use Rattle.std.proofs.Common.{◌≡◌, ◌⊎◌, ◌∙◌, ◌<◌, ◌≤◌, ◌-◌, ℕ, List, length, map, ap, arith, inl, inr, subst, sym, slice_index_or, IfErr, Result, Ok, Err}
use Rattle.std.proofs.lemmas.List.{get_or-map, length-map}
use Rattle.std.specs.Result.{IsErrAnd}
use Rattle.fallible.specs.Failures.{Fails, IfRefused}
use Rattle.fallible.specs.declared.failure.Failure.{Failure}
use Rattle.fallible.specs.declared.failure.Failure.TheVariants.{Refused, Memory}
use Rattle.gro.specs.Frames.{FrameView}
use Rattle.gro.specs.GroFaults.{IsTextFault}
use Rattle.gro.specs.GroText.{IsGroText}
use Rattle.gro.specs.declared.faults.GroFault.{GroFault}
use Rattle.gro.specs.declared.faults.GroFault.TheVariants.{NoSuchFrame}
use Rattle.job.specs.Values.{JobValue}
use Rattle.ring_box.specs.declared.faults.BoxFault.{BoxFault}
use Rattle.state.specs.Starts.{start_of_frame}
use Rattle.cli.specs.Conversions.{IsFrameOf}
use Rattle.cli.specs.Failures.{command_fault}
use Rattle.cli.specs.Refusals.{RefusesFrame}
use Rattle.cli.specs.declared.faults.CommandFault.{CommandFault}
use Rattle.cli.specs.declared.faults.CommandFault.TheVariants as fault

-- If a frame is the one with this number in the file, its view is the view with this number.
pub picked : {F : Type 0} (view : F → FrameView) (frames : List F) (number : ℕ) (f : F) → (0 < number) × (number ≤ length frames) × (f ≡ slice_index_or frames (number - 1) f)
    → IsFrameOf (map view frames) number (view f)
picked view frames number f is = record {
  some = is.0;
  within = omega (arith, length-map frames view, is.1);
  there = ap view is.2 ∙ sym (get_or-map view frames (number - 1) f (view f) (omega (arith, is.0, is.1)));
}

-- a GRO text that isn't read is refused, or an allocation is
pub gro_refused : (A : Type 0) (gro : List ℕ) (number : ℕ) (job : JobValue) (failure : Failure GroFault) → IfRefused failure (IsTextFault gro)
    → RefusesFrame {A = A} gro number job (command_fault fault.Gro failure)
gro_refused A gro number job (Refused f) h = inl h
gro_refused A gro number job Memory h = tt

-- a frame that isn't there is refused
pub frame_refused : {A : Type 0} (gro : List ℕ) (number count : ℕ) (job : JobValue) (frames : List FrameView) (f : GroFault) (e : CommandFault A)
    → e ≡ fault.Gro f → IsGroText gro frames → length frames ≡ count → (f ≡ NoSuchFrame) × ((number ≡ 0) ⊎ (count < number))
    → RefusesFrame gro number job e
frame_refused gro number count job frames f e is gro_text same (no_such, why) =
    let none = subst (λ n. (number ≡ 0) ⊎ (n < number)) (sym same) why in
    subst (RefusesFrame gro number job) (sym is) (inr (no_such, record { frames = frames; gro_text = gro_text; none = none }))

-- a frame that is there is refused for its box, or an allocation is refused for its state
pub box_refused : (A : Type 0) (gro : List ℕ) (number : ℕ) (job : JobValue) (frames : List FrameView) (frame : FrameView) (failure : Failure BoxFault) → IsGroText gro frames
    → IsFrameOf frames number frame → Fails (λ f. f) failure (start_of_frame job.frac job.time_step frame) → RefusesFrame {A = A} gro number job (command_fault fault.Box failure)
box_refused A gro number job frames frame (Refused f) gro_text is h = record { frames = frames; frame = frame; gro_text = gro_text; picked = is; refused = h }
box_refused A gro number job frames frame Memory gro_text is h = tt

-- a property of the error that a result is holds of it, if it is one
pub if_err : {T E : Type 0} (r : Result T E) (P : E → Type 0) → IsErrAnd r P → IfErr r P
if_err (Ok x) P h = tt
if_err (Err e) P h = h
