use Rattle.ring_box.proofs.separations.FloatSeparation.square.Goals as goal

pub returns : goal.returns
returns c x y z a b d near = c.near_square.ensures x y z a b d near.x near.y near.z
