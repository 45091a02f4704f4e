use Rattle.std.proofs.Common.{◌≡◌, take, map}
use Rattle.integrator.proofs.states.frames_of.Given as goal

-- the coordinates of the atoms so far
abbrev pub invariant-loop-atom : goal.invariant-loop-atom
invariant-loop-atom g l =
    (l.previous.items ≡ map (λ a. a.previous) (take l.atom-index l.atoms)) × (l.current.items ≡ map (λ a. a.current) (take l.atom-index l.atoms))
