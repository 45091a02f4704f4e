-- Pair potentials: for each pair of types, the derivative of an energy at each distance from the core to below the
-- cutoff.
use Rattle.std.specs.Prelude.{ℕ, ℤ, pos, neg_ℤ, Option, unwrap_or}
use Rattle.fixed.specs.Fractions.{bits_of}
use Rattle.derivative.specs.Slope.{slope_of}
use Rattle.energy_program.specs.Programs.{program_tree}
use Rattle.energy_program.specs.Tree.{Tree}
use Rattle.kernel_code.specs.Tables.{Table, inputs_of}
use Rattle.potential.specs.declared.slope_kernels.SlopeKernel.{SlopeKernel}

-- an energy, the values of its variables, the range of distances (core to below cutoff), and a bound on the
-- derivative's magnitude there
pub record Potential : Type 0 where
  pub table : Table
  pub energy : Tree
  pub core : ℤ
  pub cutoff : ℤ
  pub bound : ℕ

-- the derivative for two types of atoms at a distance, as the energy is written
abbrev pub slope_at : Potential → ℕ → ℕ → ℤ → Option ℤ
slope_at k a b r = slope_of (bits_of k.table.frac) (inputs_of k.table a b r) k.energy

-- the negative of a derivative; 0 if there is none
abbrev pub minus : Option ℤ → ℤ
minus slope = neg_ℤ (unwrap_or slope (pos 0))

-- the potential of an energy whose slope code is accepted
abbrev pub potential_of : {A : Type 0} → SlopeKernel A → Potential
potential_of k = record {
  table = k.verified.table;
  energy = program_tree k.energy;
  core = k.verified.core;
  cutoff = k.verified.cutoff;
  bound = k.verified.bound;
}
