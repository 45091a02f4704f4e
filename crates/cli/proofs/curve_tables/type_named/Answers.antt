use Rattle.std.proofs.Common.{refl}
use Rattle.job.specs.Views.{job_value}
use Rattle.integrator.proofs.StartLaws.{found_type}
use Rattle.cli.proofs.TypeLaws.{none_found, type_found}
use Rattle.cli.proofs.curve_tables.type_named.Goals as goal

pub returns-in-Some-clause-is : goal.returns-in-Some-clause-is
returns-in-Some-clause-is g c =
    type_found (job_value c.args.job.now) c.args.name.now _
    (found_type c.args.job.now.types.items c.args.name.now c.as_bytes.result.now _ c.as_bytes.ensures.value c.in-Some.ensures.index)

pub returns-in-None-clause-refused : goal.returns-in-None-clause-refused
returns-in-None-clause-refused g c = (
  refl,
  none_found (job_value c.args.job.now) c.args.name.now
      (found_type c.args.job.now.types.items c.args.name.now c.as_bytes.result.now _ c.as_bytes.ensures.value c.in-None.ensures.index),
)
