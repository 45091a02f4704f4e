-- Progress of a run: the reports to a watcher. The contract of a watcher relates its value before and after its calls
-- (`told` of the trait `Watch`).
use Rattle.std.specs.Prelude.{◌≡◌, ℕ, suc, ◌+◌, ◌-◌, ◌*◌, ◌/◌, ◌≤◌, ◌<◌, List, Bool, true, false, filter, ltb, map}
use Rattle.fallible.specs.Out.{Output}
use Rattle.integrator.specs.Forces.{numbers_from}
use Rattle.runs.specs.Plans.{PlanView, steps_made, steps_to}
use Rattle.runs.specs.Visits.{WroteTexts}

-- ---- hundredths

-- the number of whole hundredths of n steps that are complete after s of them
abbrev pub complete : ℕ → ℕ → ℕ
complete n s = 100 * s / n

-- another hundredth is complete with the step s
abbrev pub completes : ℕ → ℕ → Bool
completes n s = ltb (complete n (s - 1)) (complete n s)

-- the steps among the `count` after the first `first` ones that complete a hundredth, in order
abbrev pub hundredths_behind : (n first count : ℕ) → List ℕ
hundredths_behind n first count = filter (completes n) (numbers_from (suc first) count)

-- all steps of n that complete a hundredth
abbrev pub hundredths : ℕ → List ℕ
hundredths n = hundredths_behind n 0 n

-- After the first `first` steps of n, the next hundredth is complete with the step that comes `more` later.
pub record IsNextHundredth (n first more : ℕ) : Type 0 where
  pub some : 1 ≤ more
  pub within : first + more ≤ n
  pub is : completes n (first + more) ≡ true
  pub none : (k : ℕ) → 1 ≤ k → k < more → completes n (first + k) ≡ false

-- ---- reports

-- A report to a watcher: the number of steps that are made, the number of all steps, and the output as it is then.
pub record Report : Type 0 where
  pub done : ℕ
  pub all : ℕ
  pub output : Output

-- the numbers of steps of reports
abbrev pub counts_of : List Report → List ℕ
counts_of = map (λ (r : Report). r.done)

-- reports of these numbers of n steps, all with the same output
abbrev pub reports_at : Output → (n : ℕ) → List ℕ → List Report
reports_at output n = map (λ (done : ℕ). record { done = done; all = n; output = output })

-- The report is of all steps of the plan. When it came, the texts of all states before its step had been written, and no
-- others.
pub record IsInTime (IsText : ℕ → List ℕ → Type 0) (plan : PlanView) (before : Output) (r : Report) : Type 0 where
  pub all : r.all ≡ steps_made plan
  pub count : ℕ
  pub earlier : (k : ℕ) → k < count → steps_to plan k < r.done
  pub next : r.done ≤ steps_to plan count
  pub wrote : WroteTexts IsText count before r.output
