-- Systems with accepted slope code: the code gives the derivative for each pair of types at each distance from the core
-- to below the cutoff.
use Rattle.std.specs.Prelude.{◌≡◌, ◌-◌, ◌*◌, ◌^◌, ◌<◌, true, ℕ, List, length, All}
use Rattle.ring_box.specs.Cells.{has_room}
use Rattle.ring_box.specs.declared.boxes.RingBox.{RingBox}
use Rattle.integrator.specs.Frames.{Dynamics}
use Rattle.integrator.specs.Systems.{dynamics_of}
use Rattle.integrator.specs.declared.systems.System.{System}
use Rattle.potential.specs.Potentials.{potential_of, slope_at}
use Rattle.potential.specs.declared.slope_kernels.SlopeKernel.{SlopeKernel}

-- the dynamics of a system with accepted slope code, with the derivative as written
abbrev pub safe_dynamics : {A : Type 0} → System (SlopeKernel A) A → Dynamics
safe_dynamics s = dynamics_of (λ k a b r. slope_at (potential_of k) a b r) s

-- the code is accepted for the atoms and distances of the system, no force on an atom can leave 64 bits, and each side
-- has room for two cutoffs
pub record IsSafeSystem {A : Type 0} (s : System (SlopeKernel A) A) : Type 0 where
  pub frac : s.kernel.verified.table.frac ≡ s.frac
  pub core : s.kernel.verified.core ≡ s.core
  pub cutoff : s.kernel.verified.cutoff ≡ s.cutoff
  pub known : All (λ t. t < length s.kernel.verified.table.rows) s.types.items
  pub fits : s.kernel.verified.bound * (length s.masses.items - 1) < 2 ^ 63
  pub room : has_room s.frac s.ring s.cutoff ≡ true

-- the system's code is accepted for atoms of these types and masses, no force on an atom can leave 64 bits, and each
-- side of the box has room for two cutoffs
pub record IsSafeWith {A : Type 0} (s : System (SlopeKernel A) A) (ring : RingBox) (types masses : List ℕ) : Type 0 where
  pub known : All (λ t. t < length s.kernel.verified.table.rows) types
  pub fits : s.kernel.verified.bound * (length masses - 1) < 2 ^ 63
  pub room : has_room s.frac ring s.cutoff ≡ true

-- the system `to` has this box and atoms of these types and masses; otherwise it is the system `from`
pub record HasAtoms {A : Type 0} (from : System (SlopeKernel A) A) (ring : RingBox) (types masses : List ℕ)
    (to : System (SlopeKernel A) A) : Type 0 where
  pub frac : to.frac ≡ from.frac
  pub ring' : to.ring ≡ ring
  pub core : to.core ≡ from.core
  pub cutoff : to.cutoff ≡ from.cutoff
  pub time_step : to.time_step ≡ from.time_step
  pub types' : to.types.items ≡ types
  pub masses' : to.masses.items ≡ masses
  pub kernel : to.kernel ≡ from.kernel
