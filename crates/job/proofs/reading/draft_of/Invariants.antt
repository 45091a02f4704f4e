use Rattle.std.proofs.Common.{◌+◌, ◌≤◌, option_map}
use Rattle.job.specs.Words.{more_lines}
use Rattle.job.specs.JobText.{limits}
use Rattle.job.specs.Views.{said_of}
use Rattle.job.proofs.FaultLemmas.{AreRead}
use Rattle.job.proofs.LineLemmas.{size}
use Rattle.job.proofs.reading.draft_of.Given as goal

abbrev pub invariant-loop-rest : goal.invariant-loop-rest
invariant-loop-rest g l = record {
  read : AreRead limits l.fn.frac (more_lines (option_map (λ x. x.now) l.fn.text)) (more_lines (option_map (λ x. x.now) l.rest)) l.number (said_of l.draft);
  count : l.number + size (option_map (λ x. x.now) l.rest) ≤ 2 + size (option_map (λ x. x.now) l.fn.text);
}

abbrev pub decreases-loop-rest : goal.decreases-loop-rest
decreases-loop-rest g l = size (option_map (λ x. x.now) l.rest)
