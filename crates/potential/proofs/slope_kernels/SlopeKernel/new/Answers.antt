use Rattle.std.proofs.Common.{arith, subst, sym}
use Rattle.energy_program.specs.Programs.{program_tree}
use Rattle.job.specs.Views.{job_value}
use Rattle.potential.specs.EnergyViews.{energy_view}
use Rattle.potential.specs.Verdicts.{IsAccepted}
use Rattle.potential.specs.Progress.{slices_of}
use Rattle.potential.proofs.VerdictLaws.{accepted_gives, small_slopes}
use Rattle.potential.proofs.slope_kernels.SlopeKernel.new.Goals as goal

pub returns-in-Ok-new-clause-accepted : goal.returns-in-Ok-new-clause-accepted
returns-in-Ok-new-clause-accepted g c = subst (IsAccepted (job_value c.args.job.now) c.args.parts.code) (sym c.in-Ok-new.ensures) c.in-Ok.ensures.accepted

pub invariant_of-result : goal.invariant_of-result
invariant_of-result g c =
    let accepted = c.in-Ok.ensures.accepted in
    let gives = accepted_gives c.args.job.now (energy_view c.args.parts) c.in-Ok.verified c.requires accepted in
    rw c.in-Ok-new.ensures (record { bounded = small_slopes c.in-Ok.verified (program_tree c.args.parts.energy) accepted.certified gives; gives = gives })

pub returns-in-Err-new-clause-stopped : goal.returns-in-Err-new-clause-stopped
returns-in-Err-new-clause-stopped g c = (slices_of (job_value c.args.job.now), omega arith, c.in-Ok.ensures.passed)
