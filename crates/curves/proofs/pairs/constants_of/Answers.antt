use Rattle.std.proofs.Common.{◌∙◌}
use Rattle.curves.proofs.TableLaws.{values_at}
use Rattle.curves.proofs.pairs.constants_of.Goals as goal

pub returns : goal.returns
returns g c =
    c.deref.ensures.value ∙ values_at c.args.job.now.types.items c.args.number c.index.result.now c.requires c.index.ensures
