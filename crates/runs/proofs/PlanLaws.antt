-- Plans: which steps they have.
use Rattle.std.proofs.Common.{◌≡◌, ℕ, ◌-◌, ◌*◌, ◌/◌, arith, ap, ◌∙◌, zero-add}
use Rattle.integrator.specs.declared.direction.Direction.{Direction}
use Rattle.runs.specs.Plans.{end_plan, last_text, steps_made, steps_to, visits_plan}

-- the run that shows its last state has one text
pub end_text : (w : Direction) (n : ℕ) → last_text (end_plan w n) ≡ 0
end_text w n = omega arith

-- before which all steps are made
pub made_of_end : (w : Direction) (n : ℕ) → steps_made (end_plan w n) ≡ n
made_of_end w n = ap (steps_to (end_plan w n)) (end_text w n) ∙ omega arith

-- the visits of a run are made at multiples of `every`
pub made_of_visits : (w : Direction) (n every : ℕ) → steps_made (visits_plan w n every) ≡ n / every * every
made_of_visits w n every = let all : n - 0 ≡ n = omega arith in zero-add ((n - 0) / every * every) ∙ ap (λ (k : ℕ). k / every * every) all
