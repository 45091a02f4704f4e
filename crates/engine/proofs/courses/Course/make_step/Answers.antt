use Rattle.std.proofs.Common.{ap, length, refl, ◌∙◌}
use Rattle.integrator.specs.States.{counter_at}
use Rattle.integrator.specs.declared.direction.Direction.TheVariants.{Back}
use Rattle.integrator.proofs.CounterLaws.{counter_fits}
use Rattle.engine.proofs.CourseFacts.{now_known}
use Rattle.engine.proofs.CourseLaws.{counted_down, counted_up, goes_back, goes_forward, signed}
use Rattle.engine.proofs.courses.Course.make_step.Goals as goal

pub follow-requires-clause-sums : goal.follow-requires-clause-sums
follow-requires-clause-sums g c = rw c.as_slice.ensures (rw c.in-Forward.is at c.requires.forces)

pub returns-in-Forward : goal.returns-in-Forward
returns-in-Forward g c =
    let s = c.args.self.now in
    let fits = rw c.in-Forward.is at c.requires.fits in
    rw c.in-Forward.is (goes_forward s _ c.follow.new.middle.items refl c.follow.ensures.next c.follow.ensures.kept refl (counted_up s.step s.step_fits fits))

pub follow-requires-in-Back-clause-sums : goal.follow-requires-in-Back-clause-sums
follow-requires-in-Back-clause-sums g c = rw c.as_slice-in-Back.ensures (rw c.in-Back.is at c.requires.forces)

pub invariant_of-self-in-Back : goal.invariant_of-self-in-Back
invariant_of-self-in-Back g c =
    let s = c.args.self.now in
    let forces = rw c.in-Back.is at c.requires.forces in
    let fits = rw c.in-Back.is at c.requires.fits in
    let signed' = signed (counter_at Back s.step 1) (counter_fits Back s.step 1 fits) in
    record {
      previous_atoms = c.follow-in-Back.ensures.size ∙ s.previous_atoms;
      current_atoms = ap length c.follow-in-Back.ensures.kept ∙ s.previous_atoms;
      step_fits = rw (counted_down s.step s.step_fits fits) signed'.sfits;
      kept = now_known s.system.system s.system.system c.follow-in-Back.new.before.items c.args.forces refl (rw c.follow-in-Back.ensures.kept forces);
    }

pub returns-in-Back : goal.returns-in-Back
returns-in-Back g c =
    let s = c.args.self.now in
    let fits = rw c.in-Back.is at c.requires.fits in
    rw c.in-Back.is
    (goes_back s _ c.follow-in-Back.new.middle.items refl c.follow-in-Back.ensures.next c.follow-in-Back.ensures.kept refl (counted_down s.step s.step_fits fits))
