-- Texts of quantities of an engine's state.
use Rattle.std.proofs.Common.{◌≡◌, ℕ, List, ◌++◌, ap, inl, inr, refl, of_z, to_z, w64, ◌∙◌}
use Rattle.std.proofs.lemmas.Int.{to_z-of_z}
use Rattle.engine.specs.Engines.{EngineView, HasNoEngineOfTexts, IsEngineOfTexts, IsTyped}
use Rattle.engine.specs.declared.faults.InputFault.{InputFault}
use Rattle.engine.specs.declared.faults.InputFault.TheVariants as input
use Rattle.fallible.specs.Failures.{IfRefused, refused_as}
use Rattle.fallible.specs.declared.failure.Failure.{Failure}
use Rattle.fallible.specs.declared.failure.Failure.TheVariants.{Memory, Refused}
use Rattle.line_text.specs.Parts.{ended}
use Rattle.potential.specs.declared.faults.EnergyFault.{EnergyFault}
use Rattle.state.specs.StateText.{StateView, step_line}
use Rattle.state.specs.StateViews.{state_view}
use Rattle.state.specs.declared.states.State.{State}
use Rattle.streams.specs.Texts.{IsQuantity, IsStepAndQuantity, LacksQuantity, LacksQuantityText}
use Rattle.streams.specs.declared.quantities.Quantity.{Quantity}

-- The step line of a state and the lines of a quantity are the state's text. `f` is the engine after the quantity was
-- computed, and `s` is its state.
pub step_and_quantity : {A : Type 0} (q : Quantity) (number : ℕ) (e f : EngineView) (s : State A) → f ≡ e → state_view s ≡ f.state → IsTyped f
    → (step lines : List ℕ) → step ≡ ended (step_line (to_z w64 (of_z w64 s.step))) → IsQuantity q e lines
    → IsStepAndQuantity q e.job number e.state (step ++ lines)
step_and_quantity q number e f s same at typed step lines is are =
    let counter : to_z w64 (of_z w64 s.step) ≡ e.state.step =
    to_z-of_z w64 s.step (record { sfits = s.step_fits }) ∙ ap (λ (v : StateView). v.step) at ∙ ap (λ (v : EngineView). v.state.step) same in
    record { types = e.types; typed = rw same at typed; lines = lines; are = are; text' = rw (is, counter) refl }

-- ---- quantities that texts lack

-- Texts that have no engine have no quantity.
pub texts_lack : {A : Type 0} (q : Quantity) (job state : List ℕ) (failure : Failure (InputFault A))
    → IfRefused failure (HasNoEngineOfTexts job state) → IfRefused failure (LacksQuantityText q job state)
texts_lack q job state (Refused f) h = inl h
texts_lack q job state Memory h = tt

-- If the engine of texts lacks a quantity, the texts have none.
pub engine_lacks : {A : Type 0} (q : Quantity) (job state : List ℕ) (e : EngineView) (failure : Failure (EnergyFault A))
    → IsEngineOfTexts job state e → IfRefused failure (LacksQuantity q e)
    → IfRefused (refused_as input.Energy failure) (LacksQuantityText q job state)
engine_lacks q job state e (Refused f) opens h = inr (h.0, record { engine = e; opens = opens; why = h.1 })
engine_lacks q job state e Memory opens h = tt
