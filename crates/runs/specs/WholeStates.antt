-- Whole states: each visited state is shown by its own text, as a run that ends there writes it.
use Rattle.std.specs.Prelude.{◌≡◌}
use Rattle.state.specs.StateText.{state_text}
use Rattle.runs.specs.Visits.{Showing}

-- each state is shown by its text, which needs no memory
abbrev pub ShowsState : Showing
ShowsState = record { texts = λ job number s text. text ≡ state_text s; allocates = ⊥; observes = ⊥ }
