use Rattle.std.proofs.Common.{◌<◌, length, rules}
use Rattle.formula_bounds.specs.Nodes.{after_definition}
use Rattle.formula_bounds.proofs.StepLaws.{one_more_changed}
use Rattle.formula_bounds.proofs.walks.define_all.Goals as goal

pub loop-index-preserved : goal.loop-index-preserved
loop-index-preserved g c =
    let below : c.loop-index.index < length c.args.walks.now.items = search rules in
    one_more_changed (after_definition c.args.number) c.args.walks.now.items c.loop-index.walks.items c.loop-index.index
    c.index_mut.result.now c.define.new.self below c.loop-index.invariant c.index_mut.ensures.value c.define.ensures
