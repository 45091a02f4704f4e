-- Laws of the steps of an engine: steps add up, and steps in the other direction lead back.
use Rattle.std.specs.Prelude.{ℕ, ◌+◌}
use Rattle.state.specs.StateText.{IsState}
use Rattle.integrator.specs.Frames.{opposite}
use Rattle.integrator.specs.declared.direction.Direction.{Direction}
use Rattle.engine.specs.Engines.{EngineView, Advanced}

-- k steps and then m more in the same direction are k + m steps
abbrev pub StepsAdd : Type 0
StepsAdd = (direction : Direction) (k m : ℕ) (before between after : EngineView) → Advanced direction k before between
    → Advanced direction m between after → Advanced direction (k + m) before after

-- n steps and then n in the other direction lead back to the starting engine
abbrev pub StepsReturn : Type 0
StepsReturn = (direction : Direction) (n : ℕ) (before after : EngineView) → IsState before.state
    → Advanced direction n before after → Advanced (opposite direction) n after before
