use Rattle.std.proofs.Common.{◌≡◌, option_map}
use Rattle.job.specs.Words.{more_lines}
use Rattle.job.specs.Bits.{frac_in}
use Rattle.job.proofs.LineLemmas.{size}
use Rattle.job.proofs.bits.frac_in.Given as goal

abbrev pub invariant-loop-rest : goal.invariant-loop-rest
invariant-loop-rest l = frac_in (more_lines (option_map (λ x. x.now) l.rest)) ≡ frac_in (more_lines (option_map (λ x. x.now) l.fn.text))

abbrev pub decreases-loop-rest : goal.decreases-loop-rest
decreases-loop-rest l = size (option_map (λ x. x.now) l.rest)
