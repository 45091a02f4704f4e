use Rattle.potential.specs.EnergyViews.{energy_view}
use Rattle.potential.proofs.EnergyLaws.{kernel_gives}
use Rattle.run_laws.proofs.tested_run.starts.kernel.Goals as goal

pub invariant_of-result : goal.invariant_of-result
invariant_of-result g c =
    record { gives = kernel_gives c.args.job.now c.in_ok-table.table (energy_view c.args.parts) c.in_ok-table.ensures.value c.requires }
