use Rattle.verifier.specs.Meetings.{HasFollowed}
use Rattle.verifier.proofs.paths.judge.Given as goal

abbrev pub invariant-loop-here : goal.invariant-loop-here
invariant-loop-here l = HasFollowed l.code l.inputs l.here l.meetings
