-- Engines that take another state: the job's accepted code with the atoms of that state.
use Rattle.std.proofs.Common.{◌≡◌, ℕ, List, length, arith, ap, refl, sym, ◌∙◌, map}
use Rattle.std.proofs.lemmas.List.{length-map}
use Rattle.job.specs.Values.{TypeValue}
use Rattle.job.specs.Views.{job_value, type_value}
use Rattle.job.specs.declared.jobs.Job.{Job}
use Rattle.kernel_code.specs.Tables.{Table}
use Rattle.state.specs.StateViews.{atom_view, state_view}
use Rattle.state.specs.declared.states.State.{State}
use Rattle.integrator.specs.Starts.{mass_of}
use Rattle.integrator.specs.declared.atoms.TypedAtoms.{TypedAtoms}
use Rattle.integrator.specs.declared.systems.System.{System}
use Rattle.integrator.proofs.ReturnLaws.{system_parts}
use Rattle.integrator.proofs.StartLaws.{system_made}
use Rattle.potential.specs.declared.slope_kernels.SlopeKernel.{SlopeKernel}
use Rattle.potential.proofs.EnergyLaws.{length-rows}
use Rattle.frame_sums.specs.SafeSystems.{HasAtoms, IsSafeWith}
use Rattle.engine.specs.Engines.{IsEngineOf}
use Rattle.engine.specs.EngineViews.{AreAtomsOf, IsSystemOf, engine_view}
use Rattle.engine.proofs.EngineLaws.{is_safe}

-- each of n atoms has a mass
pub size_is : (types : List TypeValue) (masses atoms : List ℕ) (n : ℕ) → masses ≡ map (mass_of types) atoms → length atoms ≡ n → length masses ≡ n
size_is types masses atoms n same count = ap length same ∙ length-map atoms (mass_of types) ∙ count

module _ {A : Type 0} (j : Job A) (s t : State A) (y : System (SlopeKernel A) A) (h : IsSystemOf j s y) (atoms : TypedAtoms A) (are : AreAtomsOf j t y.kernel.verified atoms) where
  -- each atom of the other state has a mass
  masses_of : length atoms.masses.items ≡ length t.atoms.items
  masses_of = size_is (map type_value j.types.items) atoms.masses.items atoms.types.items (length t.atoms.items) are.masses' are.count

  -- the accepted code is safe for its atoms, in its box
  pub safe_with : IsSafeWith y t.ring atoms.types.items atoms.masses.items
  safe_with =
      let rows = ap (λ (t : Table). length t.rows) h.table ∙ length-rows j.types.items in
      let made = system_made (job_value j) (state_view t) h.slope.energy atoms.types.items h.slope.made are.types' in
      record {
        known = λ k d below. let l = are.known k d below in omega (arith, rows);
        fits = rw masses_of are.fits;
        room = rw (ap (λ d. d.frac) h.dynamics, h.cutoff) (system_parts (job_value j) (state_view t) (h.slope.energy, atoms.types.items) made).room;
      }

  module _ (z : System (SlopeKernel A) A) (has : HasAtoms y t.ring atoms.types.items atoms.masses.items z) where
    -- the system with the atoms of the other state is the job's, for that state
    pub system_taken : IsSystemOf j t z
    system_taken =
        let frac : z.frac ≡ j.frac = has.frac ∙ ap (λ d. d.frac) h.dynamics in
        let step : z.time_step ≡ j.time_step = has.time_step ∙ ap (λ d. d.time_step) h.dynamics in
        let core : z.core ≡ j.core = has.core ∙ h.core in
        let cutoff : z.cutoff ≡ j.cutoff = has.cutoff ∙ h.cutoff in
        record {
          dynamics = rw (frac, step, core, cutoff, has.ring', has.masses', has.types', has.kernel, h.table, are.masses', h.energy) refl;
          energy = rw has.kernel h.energy;
          program = rw has.kernel h.program;
          atoms = sym masses_of ∙ ap length (sym has.masses');
          table = rw has.kernel h.table;
          parameters = rw has.kernel h.parameters;
          globals = rw has.kernel h.globals;
          core = core;
          cutoff = cutoff;
          slope = rw has.kernel h.slope;
        }

    -- the engine of the job and the other state
    pub engine_taken : IsEngineOf (job_value j) (state_view t) (engine_view j t z)
    engine_taken =
        let made = system_made (job_value j) (state_view t) h.slope.energy atoms.types.items h.slope.made are.types' in
        record {
          system = (h.slope.energy, atoms.types.items);
          made = made;
          is = rw has.types' refl;
          safe = is_safe (job_value j) h.slope.energy.code y.kernel.verified (length (map atom_view t.atoms.items)) h.slope.accepted
              (rw (length-map t.atoms.items atom_view) are.fits);
        }
