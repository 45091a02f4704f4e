-- the contents of the selected frame determine it
use Rattle.std.proofs.Common.{◌∙◌, ap, length, map, subst, sym}
use Rattle.std.proofs.lemmas.List.{length-map}
use Rattle.std.proofs.lemmas.Result.{IfErr-weaker}
use Rattle.gro.specs.Frames.{frame_view}
use Rattle.job.specs.Views.{job_value}
use Rattle.cli.specs.Refusals.{RefusesFrame}
use Rattle.cli.proofs.StartLaws.{box_refused, frame_refused, gro_refused, if_err, picked}
use Rattle.cli.proofs.conversions.started_under.Goals as goal

pub returns-in_err-start-clause-refused : goal.returns-in_err-start-clause-refused
returns-in_err-start-clause-refused g c =
    let is = picked frame_view c.deref.result.now c.args.frame c.in_ok-frame.frame.now c.in_ok-frame.ensures in
    IfErr-weaker c.from_residual-in_err-start.result _ _ (λ e told. subst (RefusesFrame c.args.gro.now c.args.frame (job_value c.args.job.now)) (sym told)
    (box_refused _ c.args.gro.now c.args.frame (job_value c.args.job.now) (map frame_view c.in_ok-frames.frames.items) _ _ c.in_ok-frames.ensures.found (rw c.deref.ensures.value at is) c.in_err-start.ensures.exact))
    (if_err c.from_residual-in_err-start.result _ c.from_residual-in_err-start.ensures.1)

pub returns-in_err-frames-clause-refused : goal.returns-in_err-frames-clause-refused
returns-in_err-frames-clause-refused g c =
    IfErr-weaker c.from_residual.result _ _ (λ e told. subst (RefusesFrame c.args.gro.now c.args.frame (job_value c.args.job.now)) (sym told)
    (gro_refused _ c.args.gro.now c.args.frame (job_value c.args.job.now) _ c.in_err-frames.ensures.fault))
    (if_err c.from_residual.result _ c.from_residual.ensures.1)

pub returns-in_err-frame-clause-refused : goal.returns-in_err-frame-clause-refused
returns-in_err-frame-clause-refused g c =
    let frames = c.in_ok-frames.frames.items in
    let same = length-map frames frame_view ∙ sym (ap length c.deref.ensures.value) in
    IfErr-weaker c.from_residual-in_err-frame.result _ _ (λ e told. frame_refused c.args.gro.now c.args.frame (length c.deref.result.now)
    (job_value c.args.job.now) (map frame_view frames) _ e told c.in_ok-frames.ensures.found same c.in_err-frame.ensures)
    (if_err c.from_residual-in_err-frame.result _ c.from_residual-in_err-frame.ensures.1)

pub returns-clause-is : goal.returns-clause-is
returns-clause-is g c =
    let is = picked frame_view c.deref.result.now c.args.frame c.in_ok-frame.frame.now c.in_ok-frame.ensures in
    record {
      frames = map frame_view c.in_ok-frames.frames.items;
      frame = _;
      gro_text = c.in_ok-frames.ensures.found;
      picked = rw c.deref.ensures.value at is;
      started = c.in_ok-start.ensures.exact;
    }
