use Rattle.energy_program.specs.Programs.{program_tree}
use Rattle.job.specs.Views.{job_value}
use Rattle.curves.proofs.TableLaws.{slope_computed}
use Rattle.curves.proofs.potentials.Potential.slope_at.Goals as goal

pub returns : goal.returns
returns g c =
    let query = c.args.query.now in
    slope_computed (job_value c.args.job.now) (program_tree c.args.self.now.slope.energy) c.args.self.now.slope.verified query c.value.result
    c.requires.is.slope_under (c.args.self.now.slope.gives query.a query.b query.r c.requires.served.first c.requires.served.second) c.value.ensures
