-- The dynamics of a system of the program.
use Rattle.std.specs.Prelude.{ℕ, ℤ, Option, None, slice_index}
use Rattle.integrator.specs.Frames.{Dynamics}
use Rattle.integrator.specs.declared.systems.System.{System}

-- `slope` is the kernel's derivative for two types of atoms at a distance
abbrev pub dynamics_of : {K A : Type 0} → (K → ℕ → ℕ → ℤ → Option ℤ) → System K A → Dynamics
dynamics_of slope s = record {
  frac = s.frac;
  ring = s.ring;
  core = s.core;
  cutoff = s.cutoff;
  time_step = s.time_step;
  masses = s.masses.items;
  slope = λ p r. slope s.kernel (slice_index s.types.items p.0) (slice_index s.types.items p.1) r;
}

-- the dynamics without a pair potential, for statements about coordinates only
abbrev pub forceless : {K A : Type 0} → System K A → Dynamics
forceless s = dynamics_of (λ k a b r. None) s
