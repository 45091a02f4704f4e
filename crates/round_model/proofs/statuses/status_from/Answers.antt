use Rattle.std.proofs.Common.{Some, None, ◌∙◌, ap}
use Rattle.rounds.specs.Tiles.{pairs_at}
use Rattle.rounds.specs.Interleaving.Stage.{doing}
use Rattle.round_model.proofs.StatusLemmas.{passed}
use Rattle.round_model.proofs.statuses.status_from.Goals as goal

pub returns-in-Some-clause-stage : goal.returns-in-Some-clause-stage
returns-in-Some-clause-stage g c =
    ap doing (passed (pairs_at (g.W.Work.plan c.args.work.now) c.args.tile) c.args.first c.loop-k.k (Some c.in-Some.add) (c.pair.ensures.planned ∙ ap Some c.in-Some.is) c.loop-k.invariant)

pub loop-k-preserved : goal.loop-k-preserved
loop-k-preserved g c =
    passed (pairs_at (g.W.Work.plan c.args.work.now) c.args.tile) c.args.first c.loop-k.k None (c.pair.ensures.planned ∙ ap Some c.in-None.is) c.loop-k.invariant
