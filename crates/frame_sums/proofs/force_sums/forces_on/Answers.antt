use Rattle.std.proofs.Common.{arith}
use Rattle.ring_box.specs.Forces.{no_force}
use Rattle.integrator.proofs.NumberLaws.{made_of_numbers}
use Rattle.frame_sums.specs.Rounds.{forces_in}
use Rattle.frame_sums.proofs.force_sums.forces_on.Goals as goal

pub returns : goal.returns
returns g c =
    let done = c.loop-atom.invariant in
    made_of_numbers (forces_in c.args.sums.now) no_force c.args.atoms c.loop-atom.forces.items (omega (arith, done.count)) (λ a lt. done.each a (omega arith))
