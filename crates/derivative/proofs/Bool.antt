-- Tests that hold together.
use Rattle.std.proofs.Common.{Bool, true, false, ◌&&◌, refl}
use Rattle.std.specs.Bool.{IsTrue}

-- If two tests both hold, the first holds.
pub left_of : (a b : Bool) → IsTrue (a && b) → IsTrue a
left_of true b h = refl
left_of false b h = h

-- If two tests both hold, the second holds.
pub right_of : (a b : Bool) → IsTrue (a && b) → IsTrue b
right_of true b h = h
right_of false b h = absurd (cc)
