use Rattle.std.proofs.Common.{rules, w64}
use mir.Val.{SFits}
use Rattle.runs.proofs.FrameTitleLaws.{time_is, time_lacks}
use Rattle.runs.proofs.frame_titles.time.Goals as goal

pub returns-clause-items : goal.returns-clause-items
returns-clause-items c = rw (← time_is c.args.time_step c.args.step) (search rules)

pub returns-clause-bare : goal.returns-clause-bare
returns-clause-bare c =
    let signed : SFits w64 c.args.step = search rules in
    rw (returns-clause-items c) (time_lacks c.args.time_step c.args.step c.time_number.ensures.some c.time_number.ensures.most signed.sfits)
