use Rattle.std.proofs.Common.{◌≡◌, length, ap, arith, ◌∙◌}
use Rattle.std.proofs.lemmas.List.{with_items_is}
use Rattle.integrator.specs.Frames.{frame_forces, moved_frame}
use Rattle.frame_sums.specs.Rounds.{forces_from}
use Rattle.frame_sums.specs.SafeSystems.{safe_dynamics}
use Rattle.engine.proofs.EngineForceLaws.{next_by}
use Rattle.engine.proofs.AdvanceLaws.{moved_size}
use Rattle.engine.proofs.courses.follow.Goals as goal

pub returns-clause-next : goal.returns-clause-next
returns-clause-next g c =
    let y = c.args.system.now.system in
    let before = c.args.before.now in
    let middle = c.args.middle.now.items in
    let size : length c.advance.new.before ≡ before.len = omega (arith, c.advance.auto.before, c.deref_mut.ensures.len, before.ok.0) in
    let moved : c.swap.new.y.items ≡ moved_frame (safe_dynamics y) before.items middle (forces_from c.args.sums.now (length middle)) =
    ap (λ v. v.items) c.swap.ensures.y_after ∙ with_items_is before c.advance.new.before size ∙ (rw (c.deref_mut.ensures.value, c.deref.ensures.value) at c.advance.ensures) in
    next_by y before.items middle c.swap.new.y.items c.args.sums.now c.requires.sums moved

pub returns-clause-size : goal.returns-clause-size
returns-clause-size g c =
    let d = safe_dynamics c.args.system.now.system in
    let p = c.args.before.now.items in
    let m = c.args.middle.now.items in
    moved_size d p m c.swap.new.y.items (frame_forces d m) (returns-clause-next g c)
