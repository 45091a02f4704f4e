use Rattle.std.proofs.Common.{◌<◌, ◌^◌, subst, sym, w64, ◌∙◌}
use Rattle.std.proofs.lemmas.Int.{to_z-of_z}
use Rattle.std.specs.Int.Signed.{mag}
use Rattle.engine.proofs.courses.Course.new.Goals as goal

pub invariant_of-result-clause-previous_atoms : goal.invariant_of-result-clause-previous_atoms
invariant_of-result-clause-previous_atoms g c =
    let made = rw c.in_ok-system.ensures.both.0 at c.pair.ensures.both in
    rw (rw made.0 at c.new-system.ensures) ((rw made.1 at c.frames_of-frames.ensures.previous) ∙ c.requires.atoms)

pub invariant_of-result-clause-current_atoms : goal.invariant_of-result-clause-current_atoms
invariant_of-result-clause-current_atoms g c =
    let made = rw c.in_ok-system.ensures.both.0 at c.pair.ensures.both in
    rw (rw made.0 at c.new-system.ensures) ((rw made.1 at c.frames_of-frames.ensures.current) ∙ c.requires.atoms)

pub invariant_of-result-clause-step_fits : goal.invariant_of-result-clause-step_fits
invariant_of-result-clause-step_fits g c =
    let s = c.args.state.now in
    subst (λ z. mag z < 2 ^ 63) (sym (to_z-of_z w64 s.step (record { sfits = s.step_fits }))) s.step_fits
