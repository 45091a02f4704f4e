-- Plans: how many steps a run has, in which direction, and which of its states are shown.
use Rattle.std.specs.Prelude.{ℕ, ◌+◌, ◌-◌, ◌*◌, ◌/◌}
use Rattle.integrator.specs.declared.direction.Direction.{Direction}

-- A plan as contracts see it: of `steps` steps in a direction, the states after `first`, `first` + `every`, `first` + 2
-- `every`, .. steps are shown, each by a text. The texts are numbered from 0.
pub record PlanView : Type 0 where
  pub direction : Direction
  pub steps : ℕ
  pub first : ℕ
  pub every : ℕ

-- only the state after all steps is shown
abbrev pub end_plan : Direction → (steps : ℕ) → PlanView
end_plan direction steps = record { direction = direction; steps = steps; first = steps; every = 1 }

-- the states after 0, k, 2k, .. steps are shown, for k = `every`
abbrev pub visits_plan : Direction → (steps every : ℕ) → PlanView
visits_plan direction steps every = record { direction = direction; steps = steps; first = 0; every = every }

-- the number of the last text
abbrev pub last_text : PlanView → ℕ
last_text plan = (plan.steps - plan.first) / plan.every

-- the number of steps before the state that the text with this number shows
abbrev pub steps_to : PlanView → (number : ℕ) → ℕ
steps_to plan number = plan.first + number * plan.every

-- The number of steps that are made. Steps after the last shown state are not.
abbrev pub steps_made : PlanView → ℕ
steps_made plan = steps_to plan (last_text plan)
