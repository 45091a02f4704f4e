use Rattle.std.proofs.lemmas.Result.{err_from_is_err_and}
use Rattle.energy_program.specs.Programs.{trees_of}
use Rattle.job.specs.Views.{job_value}
use Rattle.potential.proofs.EnergyLaws.{energy_code_by, energy_code_refused}
use Rattle.potential.proofs.energies.energy_code.Goals as goal

pub returns-in_err-energy : goal.returns-in_err-energy
returns-in_err-energy g c =
    let p = err_from_is_err_and c.from_residual.result c.from_residual.ensures.1 in
    rw (p.1, p.2) (energy_code_refused (job_value c.args.job.now) c.in_err-energy.field-0.0 c.in_err-energy.ensures.value)

pub returns : goal.returns
returns g c =
    rw (energy_code_by (job_value c.args.job.now) (trees_of c.in_ok-energy.energy) c.in_ok-energy.ensures.value) c.compile.ensures.exact
