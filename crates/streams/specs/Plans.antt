-- Plans of replays: which segments of a stream are replayed. Two neighbouring states are a segment.
use Rattle.std.specs.Prelude.{◌≡◌, ◌-◌, ◌%◌, ◌≤ℤ◌, ℕ, ℤ}
use Rattle.streams.specs.declared.plans.ReplayPlan.{ReplayPlan}

-- the part of all segments that is replayed, from 1, the number of parts, and the range of counters, both ends included
pub record ReplayPlanView : Type 0 where
  pub part : ℕ
  pub parts : ℕ
  pub from : ℤ
  pub to : ℤ

-- a plan without its number of workers, on which no text depends
abbrev pub replay_plan_view : ReplayPlan → ReplayPlanView
replay_plan_view plan = record { part = plan.part; parts = plan.parts; from = plan.from; to = plan.to }

-- the segment with this number, from 0, and these counters is to be replayed: it is of the part, and within the range
pub record IsReplayed (plan : ReplayPlanView) (number : ℕ) (from to : ℤ) : Type 0 where
  pub part : number % plan.parts ≡ plan.part - 1
  pub from_in_range : (plan.from ≤ℤ from) × (from ≤ℤ plan.to)
  pub to_in_range : (plan.from ≤ℤ to) × (to ≤ℤ plan.to)
