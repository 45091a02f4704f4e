use Rattle.ring_box.proofs.FloatReachLemmas.{reach_scale}
use Rattle.ring_box.proofs.reaches.Reach.filter.Goals as goal

pub new-requires-clause-scale : goal.new-requires-clause-scale
new-requires-clause-scale c = rw (c.limit.ensures.value, c.ratio-dividend.ensures) (reach_scale c.args.self.now c.limit.ensures.reach)
