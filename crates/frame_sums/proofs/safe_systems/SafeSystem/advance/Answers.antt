use Rattle.std.proofs.Common.{◌≡◌, ℕ, ◌<◌, length, arith, ap, sym, ◌∙◌, zero-add, get_or, slice_index, ext_get_or}
use Rattle.ring_box.specs.Forces.{no_force}
use Rattle.ring_box.specs.Places.{no_place}
use Rattle.integrator.specs.Frames.{moved_frame, next_places}
use Rattle.integrator.proofs.NumberLaws.{length-numbers, at_number}
use Rattle.frame_sums.specs.Rounds.{forces_from, forces_in}
use Rattle.frame_sums.specs.SafeSystems.{safe_dynamics}
use Rattle.frame_sums.proofs.safe_systems.SafeSystem.advance.Goals as goal

pub returns : goal.returns
returns g c =
    let dynamics = safe_dynamics c.args.self.now.system in
    let n = length c.args.middle.now in
    let forces = forces_from c.args.sums.now n in
    let moved = λ (a : ℕ). next_places dynamics (slice_index dynamics.masses a) (get_or c.args.before.now a no_place) (get_or c.args.middle.now a no_place) in
    let f = λ (a : ℕ). moved a (get_or forces a no_force) in
    let same : length c.loop-atom.before ≡ n = omega arith in
    ext_get_or no_place c.loop-atom.before (moved_frame dynamics c.args.before.now c.args.middle.now forces) (same ∙ sym (length-numbers f 0 n))
    (λ a h.
    let l : a < n = omega arith in
    let force : get_or forces a no_force ≡ forces_in c.args.sums.now a = at_number (forces_in c.args.sums.now) no_force 0 n a l ∙ ap (forces_in c.args.sums.now) (zero-add a) in
    c.loop-atom.invariant.moved a (omega arith) ∙ ap (moved a) (sym force) ∙ sym (at_number f no_place 0 n a l ∙ ap f (zero-add a)))
