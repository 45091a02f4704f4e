use Rattle.energy_program.specs.Programs.{program_tree}
use Rattle.job.specs.Views.{job_value}
use Rattle.curves.proofs.TableLaws.{energy_computed}
use Rattle.curves.proofs.potentials.Potential.energy_at.Goals as goal

pub returns : goal.returns
returns g c =
    energy_computed (job_value c.args.job.now) (program_tree c.args.self.now.slope.energy) c.args.self.now.energy c.args.query.now c.value.result
    c.requires.is.energy_under c.requires.is.gives c.requires.served c.value.ensures
