use Rattle.std.proofs.lemmas.Result.{err_from_is_err_and}
use Rattle.energy_program.specs.Variables.{names_of}
use Rattle.job.specs.Views.{job_value}
use Rattle.potential.proofs.EnergyLaws.{names_refused, program_by}
use Rattle.potential.proofs.energies.program.Goals as goal

pub returns-in_err-names-clause-value : goal.returns-in_err-names-clause-value
returns-in_err-names-clause-value g c =
    let p = err_from_is_err_and c.from_residual.result c.from_residual.ensures.1 in
    rw (p.1, p.2) (names_refused (job_value c.args.job.now) c.in_err-names.field-0.0 c.in_err-names.ensures.value)

pub returns-clause-value : goal.returns-clause-value
returns-clause-value g c =
    rw (program_by (job_value c.args.job.now) (names_of c.in_ok-names.names) c.in_ok-names.ensures.value, ← c.deref.ensures.value) c.parse.ensures.trees
