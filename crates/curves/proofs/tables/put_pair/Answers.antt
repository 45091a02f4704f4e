use Rattle.job.specs.Views.{job_value}
use Rattle.curves.proofs.TableLaws.{pair_put}
use Rattle.curves.proofs.tables.put_pair.Goals as goal

pub returns : goal.returns
returns g c =
    pair_put c.put_names.result (job_value c.args.job.now) c.args.first_type c.args.second_type _ _ _ _ c.name_of.ensures c.name_of-2.ensures
    c.put_names.ensures
