use Rattle.ring_box.proofs.FloatReachLemmas.{reach_fits}
use Rattle.ring_box.proofs.reaches.Reach.in_floats.Goals as goal

pub returns : goal.returns
returns c = record {
  reach = c.limit-limit.ensures.reach;
  fits = reach_fits c.args.self.now c.limit-limit.ensures.reach;
  limit = rw (← c.limit-limit.ensures.value) c.around.ensures;
  longest = rw (← c.limit-limit.ensures.value) c.near_reach.ensures;
}
