use Rattle.std.proofs.Common.{◌≡◌, rules, to_z, of_z, w64}
use mir.Val.{SFits}
use Rattle.runs.proofs.FrameTitleLaws.{timed_is_title}
use Rattle.runs.proofs.frame_titles.timed_title.Goals as goal

pub returns-clause-fits : goal.returns-clause-fits
returns-clause-fits g c =
    let signed : SFits w64 c.args.step = search rules in
    let step : to_z w64 (of_z w64 c.args.step) ≡ c.args.step = search rules in
    rw (c.in_ok-extend_from_slice.ensures.items, c.truncate.ensures.items, c.as_slice.ensures.value, c.time_and_step.ensures.items, step)
    (timed_is_title c.args.title.items c.own_end-end.result c.args.time_step c.args.step c.requires.fits
    (rw (c.time_and_step.ensures.items, step) at c.time_and_step.ensures.bare) signed.sfits)
