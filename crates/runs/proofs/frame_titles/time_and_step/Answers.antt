use Rattle.std.proofs.Common.{◌≡◌, arith, rules, to_z, of_z, w64}
use Rattle.std.proofs.lemmas.Grind.{common_steps}
use mir.Val.{SFits}
use Rattle.line_text.specs.Columns.{decimals_text}
use Rattle.runs.specs.FrameTitles.{time_of}
use Rattle.runs.proofs.FrameTitleLaws.{end_lacks}
use Rattle.runs.proofs.frame_titles.time_and_step.Goals as goal

pub returns-clause-items : goal.returns-clause-items
returns-clause-items c = grind (arith, common_steps)

pub returns-clause-bare : goal.returns-clause-bare
returns-clause-bare c =
    let signed : SFits w64 c.args.step = search rules in
    let step : to_z w64 (of_z w64 c.args.step) ≡ c.args.step = search rules in
    rw (returns-clause-items c) (end_lacks (decimals_text 5 (time_of c.args.time_step c.args.step)) c.args.step
    (rw (c.time-time.ensures.items, step) at c.time-time.ensures.bare) signed.sfits)
