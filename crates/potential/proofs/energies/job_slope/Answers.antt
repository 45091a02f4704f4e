use Rattle.std.proofs.lemmas.Result.{err_from_is_err_and}
use Rattle.energy_program.specs.Programs.{trees_of}
use Rattle.job.specs.Views.{job_value}
use Rattle.potential.proofs.EnergyLaws.{energy_by, program_refused}
use Rattle.potential.proofs.energies.job_slope.Goals as goal

pub returns-in_err-energy-clause-value : goal.returns-in_err-energy-clause-value
returns-in_err-energy-clause-value g c =
    let p = err_from_is_err_and c.from_residual.result c.from_residual.ensures.1 in
    rw (p.1, p.2) (program_refused (job_value c.args.job.now) c.in_err-energy.field-0.0 c.in_err-energy.ensures.value)

pub returns-in_err-slope-clause-value : goal.returns-in_err-slope-clause-value
returns-in_err-slope-clause-value g c =
    let p = err_from_is_err_and c.from_residual-in_err-slope.result c.from_residual-in_err-slope.ensures.1 in
    rw (p.1, p.2, energy_by (job_value c.args.job.now) (trees_of c.in_ok-energy.energy) c.in_ok-energy.ensures.value) c.in_err-slope.ensures.value

pub returns-clause-value : goal.returns-clause-value
returns-clause-value g c =
    rw (energy_by (job_value c.args.job.now) (trees_of c.in_ok-energy.energy) c.in_ok-energy.ensures.value) c.in_ok-slope.ensures.value

pub returns-clause-compiled : goal.returns-clause-compiled
returns-clause-compiled g c = rw (c.in_ok-energy.ensures.parameters, c.in_ok-energy.ensures.globals) at c.in_ok-slope.ensures.compiled
