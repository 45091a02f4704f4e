-- The code of a job's energy itself (not of its derivative): accepted by the verifier, or the reason why not.
use Rattle.std.specs.Prelude.{◌≡◌, ℕ, ℤ, ◌<◌, ◌^◌, ◌≤ℤ◌, ◌<ℤ◌, true, List, length, Option, Some, Result, Ok, Err}
use Rattle.energy_program.specs.Faults as energies
use Rattle.energy_program.specs.Programs.{Trees}
use Rattle.energy_program.specs.Tree.{Tree}
use Rattle.energy_program.specs.Value.{value_of}
use Rattle.fixed.specs.Fractions.{bits_of}
use Rattle.job.specs.Values.{JobValue}
use Rattle.kernel_code.specs.declared.instructions.Instr.{Instr}
use Rattle.kernel_code.specs.Machine.{Ends}
use Rattle.kernel_code.specs.Tables.{inputs_of}
use Rattle.kernel_compiler.specs.Code.{compiled}
use Rattle.line_text.specs.declared.name.Name.{Name}
use Rattle.potential.specs.Energies.{job_program}
use Rattle.potential.specs.Magnitudes.{is_small}
use Rattle.potential.specs.Verdicts.{IsAccepted, IsRefused}
use Rattle.potential.specs.declared.faults.EnergyFault.{EnergyFault}
use Rattle.potential.specs.declared.faults.EnergyFault.TheVariants as fault
use Rattle.verifier.specs.Kernels.{Kernel}
use Rattle.verifier.specs.declared.faults.VerifyFault.{VerifyFault}

-- a value that the code returns for two types and a distance is the energy there
abbrev pub GivesEnergy : Tree → Kernel → Type 0
GivesEnergy tree k = (a b : ℕ) (r : ℤ) (n : ℕ) (v : ℤ) → a < length k.table.rows → b < length k.table.rows
    → Ends (bits_of k.table.frac) k.code (inputs_of k.table a b r) n (Ok v)
    → value_of (bits_of k.table.frac) (inputs_of k.table a b r) tree ≡ Some v

-- for any two types, and at each distance from the core to below the cutoff, the energy has a value of magnitude at
-- most 2^64 units
abbrev pub HasEnergies : Tree → Kernel → Type 0
HasEnergies tree k = (a b : ℕ) (r : ℤ) → a < length k.table.rows → b < length k.table.rows → k.core ≤ℤ r → r <ℤ k.cutoff
    → is_small (2 ^ 64) (value_of (bits_of k.table.frac) (inputs_of k.table a b r) tree) ≡ true

-- a statement about the code of the job's energy: `holds` of the code compiled from the program of the energy's text,
-- or of the compiler's error
pub record OfEnergy (j : JobValue) (holds : Result (List Instr) energies.Refusal → Type 0) : Type 0 where
  pub program : Trees
  pub its : job_program j ≡ Ok program
  pub it : holds (compiled (bits_of j.frac) program.0 program.1)

-- the energy compiles, and the verifier accepts its code under the job
pub record IsCodeAccepted (j : JobValue) (compiled' : Result (List Instr) energies.Refusal) (k : Kernel) : Type 0 where
  pub code : List Instr
  pub is : compiled' ≡ Ok code
  pub accepted : IsAccepted j code k

-- the kernel is the code compiled of the job's energy, accepted under the job's types, core, cutoff and slices
abbrev pub IsEnergyKernel : JobValue → Kernel → Type 0
IsEnergyKernel j k = OfEnergy j (λ c. IsCodeAccepted j c k)

-- the energy compiles, and the verifier rejects its code with this fault, whose types have these names
pub record IsCodeRefused (j : JobValue) (compiled' : Result (List Instr) energies.Refusal) (f : VerifyFault)
    (types : Option (Name × Name)) : Type 0 where
  pub code : List Instr
  pub is : compiled' ≡ Ok code
  pub why : IsRefused j code f types

-- why there is no accepted code: the code would be too large, or the verifier rejects the code
abbrev pub HasNoEnergyKernel : {A : Type 0} → JobValue → EnergyFault A → Type 0
HasNoEnergyKernel j (fault.Energy f) = OfEnergy j (λ c. c ≡ Err (energies.refusal_of f))
HasNoEnergyKernel j (fault.Kernel f types) = OfEnergy j (λ c. IsCodeRefused j c f types)
