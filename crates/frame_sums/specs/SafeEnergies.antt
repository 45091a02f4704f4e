-- The energy of two atoms of a system of the program.
--
-- The verifier's promise gives every pair an energy before any code runs. So the energy of a frame is a sum of numbers,
-- 0 for pairs that don't interact. That sums over lists equal sums over all pairs (`AreListsOf`) is applied to its
-- positive and its negative part.
use Rattle.std.specs.Prelude.{◌≡◌, ℕ, ◌*◌, ◌<◌, ◌≤◌, ◌^◌, ℤ, pos, ◌≤ℤ◌, ◌<ℤ◌, true, List, length, Option, Some, slice_index, slice_index_or, unsigned_abs, unwrap_or}
use Rattle.fixed.specs.Fractions.{bits_of}
use Rattle.energy_program.specs.Programs.{program_tree}
use Rattle.energy_program.specs.Value.{value_of}
use Rattle.kernel_code.specs.Tables.{inputs_of}
use Rattle.kernel_lanes.specs.Flats.{query_at}
use Rattle.kernel_lanes.specs.declared.queries.Query.{Query}
use Rattle.integrator.specs.Frames.{Frame}
use Rattle.potential.specs.EnergyKernels.{GivesEnergy}
use Rattle.potential.specs.Magnitudes.{is_small}
use Rattle.frame_sums.specs.PairEnergies.{energy_of, pair_energy}
use Rattle.frame_sums.specs.Rows.{query_of}
use Rattle.frame_sums.specs.SafeSystems.{safe_dynamics}
use Rattle.frame_sums.specs.Sums.{sum_over}
use Rattle.verifier.specs.Kernels.{Kernel}
use Rattle.ring_box.specs.declared.found_pairs.FoundPair.{FoundPair}
use Rattle.potential.specs.declared.slope_kernels.SlopeKernel.{SlopeKernel}
use Rattle.integrator.specs.declared.systems.System.{System}

module _ {A : Type 0} (s : System (SlopeKernel A) A) where
  -- the energy of two types at a distance
  abbrev pub energy_at_types : ℕ → ℕ → ℤ → Option ℤ
  energy_at_types a b r =
      value_of (bits_of s.kernel.verified.table.frac) (inputs_of s.kernel.verified.table a b r) (program_tree s.kernel.energy)

  abbrev pub safe_value : ℕ × ℕ → ℤ → Option ℤ
  safe_value p r = energy_at_types (slice_index s.types.items p.0) (slice_index s.types.items p.1) r

  -- any two types have an energy, of magnitude at most 2^64, at each distance at which atoms interact
  abbrev pub AllHaveEnergies : Type 0
  AllHaveEnergies = (a b : ℕ) (r : ℤ) → a < length s.kernel.verified.table.rows → b < length s.kernel.verified.table.rows
      → s.core ≤ℤ r → r <ℤ s.cutoff → is_small (2 ^ 64) (energy_at_types a b r) ≡ true

  -- v is the energy for the query
  abbrev pub IsEnergyFor : Query → ℤ → Type 0
  IsEnergyFor query v = energy_at_types query.a query.b query.r ≡ Some v

  -- the first elements of `energies` are the energies for the queries
  abbrev pub AreEnergies : List Query → List ℤ → Type 0
  AreEnergies queries energies = (l : ℕ) → l < length queries → IsEnergyFor (query_at queries l) (slice_index_or energies l (pos 0))

  -- the energy of a pair with this geometry
  abbrev pub found_energy : FoundPair → ℤ
  found_energy f = unwrap_or (energy_at_types (query_of s f).a (query_of s f).b (query_of s f).r) (pos 0)

  -- the energy of a pair of a frame
  abbrev pub energy_between : Frame → ℕ × ℕ → ℤ
  energy_between frame p = unwrap_or (pair_energy (safe_dynamics s) safe_value frame p) (pos 0)

  -- the energy of a frame, in 2^-bits kJ/mol
  abbrev pub IsEnergyOf : Frame → ℤ → Type 0
  IsEnergyOf frame z = energy_of (safe_dynamics s) safe_value frame ≡ Some z

  -- ---- sums

  -- the energy of these pairs; each has an energy that fits 64 bits
  pub record IsEnergyOfPairs (pairs : List FoundPair) (z : ℤ) : Type 0 where
    pub value : z ≡ sum_over found_energy pairs
    pub within : unsigned_abs z ≤ 2 ^ 63 * length pairs

  -- the kernel is accepted code of the energy whose derivative moves the atoms, for their types and distances
  pub record IsEnergyCode (k : Kernel) : Type 0 where
    pub table : k.table ≡ s.kernel.verified.table
    pub core : k.core ≡ s.core
    pub cutoff : k.cutoff ≡ s.cutoff
    pub given : AllHaveEnergies
    pub gives : GivesEnergy (program_tree s.kernel.energy) k
