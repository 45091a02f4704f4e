-- The start of a tested run: the derivative counts only if the run of its code returns a value. A definition without a
-- value may trap although the derivative has a value; then there is no run, and the error is `A5`.
use Rattle.std.specs.Prelude.{◌≡◌, ℕ, ℤ, List, Option, Result, Ok}
use Rattle.fixed.specs.Fractions.{bits_of}
use Rattle.derivative.specs.Slope.{slope_of}
use Rattle.job.specs.JobText.{IsJobText, limits}
use Rattle.job.specs.Values.{JobValue}
use Rattle.kernel_code.specs.Tables.{inputs_of}
use Rattle.kernel_code.specs.declared.traps.Trap.{Trap}
use Rattle.energy_program.specs.Programs.{program_tree}
use Rattle.state.specs.StateFaults.{ReadsAs}
use Rattle.state.specs.StateText.{StateView}
use Rattle.state.specs.StateViews.{state_view}
use Rattle.potential.specs.Energies.{Energy}
use Rattle.integrator.specs.Systems.{dynamics_of}
use Rattle.integrator.specs.Starts.{dynamics_by, pair_inputs, system_of}
use Rattle.run_laws.specs.Outcomes.{fault_of, outcome_of, where_given}
use Rattle.run_laws.specs.Starts.{Law, Start}
use Rattle.run_laws.specs.Stops.{Faults, faults_of}
use Rattle.run_laws.specs.declared.tested_run.slope_faults.SlopeFault.{SlopeFault}
use Rattle.run_laws.specs.declared.tested_run.kernels.CodeKernel.{CodeKernel}
use Rattle.run_laws.specs.declared.tested_run.prepared.Prepared.{Prepared}

-- the end of the slope code's run for a pair at a distance
abbrev pub pair_outcome : JobValue → Energy → List ℕ → ℕ × ℕ → ℤ → Option (Result ℤ Trap)
pair_outcome j energy types p r = outcome_of (bits_of j.frac) energy.code (pair_inputs j types p r)

-- the law of motion of a tested run: the derivative as written, if the run of its code returns a value
abbrev pub tested : Law
tested j sides energy types =
    dynamics_by (λ p r. where_given (pair_outcome j energy types p r)
    (slope_of (bits_of j.frac) (pair_inputs j types p r) energy.tree)) j sides types

-- why the run of the code returns no value
abbrev pub tested_faults : JobValue → Energy → (types : List ℕ) → Faults
tested_faults j energy types p r = fault_of (pair_outcome j energy types p r)

-- these are the faults of a tested run of a job and a state
pub record HasFaults (j : JobValue) (s : StateView) (faults : Faults) : Type 0 where
  pub system : Energy × List ℕ
  pub made : system_of j s ≡ Ok system
  pub is : faults ≡ tested_faults j system.0 system.1

-- these are the faults of a tested run of the texts of a job and a state
pub record HaveFaults (job state : List ℕ) (faults : Faults) : Type 0 where
  pub j : JobValue
  pub s : StateView
  pub job_text : IsJobText limits job j
  pub state_read : ReadsAs state (Ok s)
  pub it : HasFaults j s faults

-- ---- of the program

-- a kernel's derivative is the energy's derivative as written, if the run of its code returns a value
abbrev pub kernel_outcome : {A : Type 0} → CodeKernel A → ℕ → ℕ → ℤ → Option (Result ℤ Trap)
kernel_outcome k a b r = outcome_of (bits_of k.table.frac) k.parts.code (inputs_of k.table a b r)

abbrev pub kernel_slope : {A : Type 0} → CodeKernel A → ℕ → ℕ → ℤ → Option ℤ
kernel_slope k a b r =
    where_given (kernel_outcome k a b r) (slope_of (bits_of k.table.frac) (inputs_of k.table a b r) (program_tree k.parts.energy))

abbrev pub kernel_fault : {A : Type 0} → CodeKernel A → ℕ → ℕ → ℤ → Option SlopeFault
kernel_fault k a b r = fault_of (kernel_outcome k a b r)

-- the start of the program as the start of the definitions
abbrev pub start_view : {A : Type 0} → Prepared A → Start
start_view p = record { state = state_view p.state; dynamics = dynamics_of kernel_slope p.system; counter = p.counter }

abbrev pub faults_view : {A : Type 0} → Prepared A → Faults
faults_view p = faults_of kernel_fault p.system
