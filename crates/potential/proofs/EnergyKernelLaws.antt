-- The code of a job's energy itself, and why there is none.
use Rattle.std.proofs.Common.{◌≡◌, ◌∙◌, ℕ, ◌^◌, ◌<◌, ◌≤◌, List, length, ℤ, Some, Ok, arith, subst, sym, true, ◌≤ℤ◌, ◌<ℤ◌}
use Rattle.fixed.specs.Fractions.{bits_of}
use Rattle.energy_program.specs.Faults as energies
use Rattle.energy_program.specs.Programs.{program_tree, trees_of}
use Rattle.energy_program.specs.Tree as trees
use Rattle.energy_program.specs.Value.{value_of}
use Rattle.energy_program.specs.declared.faults.ExprFault.{ExprFault}
use Rattle.energy_program.specs.declared.programs.Program.{Program}
use Rattle.fallible.specs.Failures.{Fails, IfRefused, refused_as}
use Rattle.fallible.specs.declared.failure.Failure.{Failure}
use Rattle.fallible.specs.declared.failure.Failure.TheVariants.{Memory, Refused}
use Rattle.job.specs.Values.{JobValue}
use Rattle.job.specs.Views.{job_value}
use Rattle.job.specs.declared.jobs.Job.{Job}
use Rattle.kernel_code.specs.declared.instructions.Instr.{Instr}
use Rattle.kernel_code.specs.Machine.{Ends}
use Rattle.kernel_code.specs.Tables.{Table, inputs_of}
use Rattle.kernel_compiler.specs.Code.{compiled}
use Rattle.kernel_compiler.specs.Compiled.{Computes}
use Rattle.energy_program.specs.Tree.{Tree}
use Rattle.verifier.specs.Kernels.{IsKernel, Kernel}
use Rattle.potential.proofs.EnergyLaws.{energy_code_by, enough_of_job}
use Rattle.potential.proofs.PotentialLaws.{is_small_value}
use Rattle.potential.specs.Magnitudes.{is_small}
use Rattle.potential.specs.Energies.{energy_code_of, job_program}
use Rattle.potential.specs.EnergyKernels.{GivesEnergy, HasNoEnergyKernel, IsEnergyKernel}
use Rattle.potential.specs.Progress.{IsPassedBefore}
use Rattle.potential.specs.Tables.{table_of}
use Rattle.potential.specs.Verdicts.{HasNoKernel, IsAccepted}
use Rattle.potential.specs.declared.faults.EnergyFault.{EnergyFault}
use Rattle.potential.specs.declared.faults.EnergyFault.TheVariants as fault

-- code of the energy, under the job's table, gives the energy's value
pub energy_gives : {A : Type 0} (j : Job A) (t : Table) (p : Program A) (code : List Instr) → t ≡ table_of (job_value j) → p.parameters ≡ length j.parameters.items → p.globals ≡ length j.globals.items
    → ((inputs : List ℤ) → trees.variable_count p.parameters p.globals ≤ length inputs → Computes (bits_of j.frac) (trees_of p).0 (trees_of p).1 code inputs)
    → (a b : ℕ) (r : ℤ) (n : ℕ) (v : ℤ) → a < length t.rows → b < length t.rows → Ends (bits_of t.frac) code (inputs_of t a b r) n (Ok v)
    → value_of (bits_of t.frac) (inputs_of t a b r) (program_tree p) ≡ Some v
energy_gives j t p code same parameters globals h =
    let u = table_of (job_value j) in
    rw same
    (λ a b r n v first second ends.
    let enough : trees.variable_count p.parameters p.globals ≤ length (inputs_of u a b r) = rw (parameters, globals) (enough_of_job j a b r first second) in
    (h (inputs_of u a b r) enough).value n v ends)

-- if code of the energy is accepted under the job, the kernel gives the energy's value
pub accepted_gives : {A : Type 0} (j : Job A) (p : Program A) (code : List Instr) (k : Kernel) → p.parameters ≡ length j.parameters.items → p.globals ≡ length j.globals.items
    → ((inputs : List ℤ) → trees.variable_count p.parameters p.globals ≤ length inputs → Computes (bits_of j.frac) (trees_of p).0 (trees_of p).1 code inputs)
    → IsAccepted (job_value j) code k → GivesEnergy (program_tree p) k
accepted_gives j p code k parameters globals h accepted = rw accepted.code' (energy_gives j k.table p code accepted.under.table parameters globals h)

-- if accepted code has a bound below 2^64, every pair of types has an energy of magnitude at most 2^64 within range
pub small_energies : (k : Kernel) (energy : Tree) → IsKernel k → k.bound < 2 ^ 64
    → ((a b : ℕ) (r : ℤ) (n : ℕ) (v : ℤ) → a < length k.table.rows → b < length k.table.rows → Ends (bits_of k.table.frac) k.code (inputs_of k.table a b r) n (Ok v) → value_of (bits_of k.table.frac) (inputs_of k.table a b r) energy ≡ Some v)
    → (a b : ℕ) (r : ℤ) → a < length k.table.rows → b < length k.table.rows → k.core ≤ℤ r → r <ℤ k.cutoff → is_small (2 ^ 64) (value_of (bits_of k.table.frac) (inputs_of k.table a b r) energy) ≡ true
small_energies k energy certified few gives a b r first second low high =
    let g = certified.each a b r first second low high in
    is_small_value (2 ^ 64) (value_of (bits_of k.table.frac) (inputs_of k.table a b r) energy) g.value (gives a b r g.n g.value first second g.ends) (omega (arith, few, g.small))

-- code of the energy that is accepted under the job
pub energy_kernel : (A : Type 0) (j : JobValue) (p : Program A) (code : List Instr) (k : Kernel) → job_program j ≡ Ok (trees_of p)
    → compiled (bits_of j.frac) (trees_of p).0 (trees_of p).1 ≡ Ok code → IsAccepted j code k → IsEnergyKernel j k
energy_kernel A j p code k same c h = record { program = trees_of p; its = same; it = record { code = code; is = c; accepted = h } }

-- code that would be too large
pub too_large : {A : Type 0} (j : JobValue) (p : Program A) (failure : Failure (ExprFault A)) → job_program j ≡ Ok (trees_of p)
    → Fails energies.refusal_of failure (compiled (bits_of j.frac) (trees_of p).0 (trees_of p).1) → IfRefused (refused_as fault.Energy failure) (HasNoEnergyKernel j)
too_large j p (Refused f) same h = record { program = trees_of p; its = same; it = h }
too_large j p Memory same h = tt

-- code that is rejected
pub not_accepted : {A : Type 0} (j : JobValue) (p : Program A) (code : List Instr) (failure : Failure (EnergyFault A)) → job_program j ≡ Ok (trees_of p)
    → compiled (bits_of j.frac) (trees_of p).0 (trees_of p).1 ≡ Ok code → IfRefused failure (HasNoKernel j code)
    → IfRefused failure (HasNoEnergyKernel j)
not_accepted j p code (Refused (fault.Energy f)) same c h = absurd h
not_accepted j p code (Refused (fault.Kernel f types)) same c h =
    record { program = trees_of p; its = same; it = record { code = code; is = c; why = h } }
not_accepted j p code Memory same c h = tt

-- the slices that are reported before a failure of the energy's code
pub passed_before : {A : Type 0} (j : JobValue) (p : Program A) (code : List Instr) (n : ℕ) (failure : Failure (EnergyFault A))
    → job_program j ≡ Ok (trees_of p) → compiled (bits_of j.frac) (trees_of p).0 (trees_of p).1 ≡ Ok code
    → IsPassedBefore j (Ok code) failure n → IsPassedBefore j (energy_code_of j) failure n
passed_before j p code n failure same c h =
    subst (λ made. IsPassedBefore j made failure n) (sym (energy_code_by j (trees_of p) same ∙ c)) h
