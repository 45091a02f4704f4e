use Rattle.std.proofs.Common.{refl}
use Rattle.potential.specs.EnergyViews.{energy_view}
use Rattle.potential.proofs.EnergyLaws.{compiled_for}
use Rattle.potential.proofs.energies.slope_code.Goals as goal

pub returns-clause-computes : goal.returns-clause-computes
returns-clause-computes g c =
    let energy = energy_view c.in_ok-parts.parts in
    record {
      energy' = energy;
      says = c.in_ok-parts.ensures.value;
      its = refl;
      compiled = compiled_for c.args.job.now energy c.in_ok-parts.ensures.compiled;
    }
