use Rattle.std.proofs.Common.{arith, subst, sym}
use Rattle.energy_program.specs.Programs.{program_tree}
use Rattle.job.specs.Views.{job_value}
use Rattle.potential.specs.EnergyKernels.{GivesEnergy, HasEnergies, IsEnergyKernel}
use Rattle.potential.specs.Progress.{slices_of}
use Rattle.potential.proofs.EnergyKernelLaws.{accepted_gives, energy_kernel, not_accepted, passed_before, small_energies, too_large}
use Rattle.potential.proofs.ReportLaws.{none_passed}
use Rattle.potential.proofs.energy_kernels.energy_kernel.Goals as goal

pub returns-in-Err-clause-refused : goal.returns-in-Err-clause-refused
returns-in-Err-clause-refused g c = rw c.of_energy.ensures (too_large (job_value c.args.job.now) c.args.program.now c.in-Err.failure c.requires.program c.in-Err.ensures.exact)

pub returns-in-Err-verdict-clause-refused : goal.returns-in-Err-verdict-clause-refused
returns-in-Err-verdict-clause-refused g c =
    not_accepted (job_value c.args.job.now) c.args.program.now c.in-Ok.code c.in-Err-verdict.failure c.requires.program c.in-Ok.ensures.exact c.in-Err-verdict.ensures.refused

pub returns-in-Ok-new-clause-kernel : goal.returns-in-Ok-new-clause-kernel
returns-in-Ok-new-clause-kernel g c =
    let j = job_value c.args.job.now in
    let v = c.in-Ok-verdict.verified in
    subst (IsEnergyKernel j) (sym c.in-Ok-new.ensures)
    (energy_kernel g.row.A.Denot j c.args.program.now c.in-Ok.code v c.requires.program c.in-Ok.ensures.exact c.in-Ok-verdict.ensures.accepted)

pub returns-in-Ok-new-clause-gives : goal.returns-in-Ok-new-clause-gives
returns-in-Ok-new-clause-gives g c =
    let p = c.args.program.now in
    let gives = accepted_gives c.args.job.now p c.in-Ok.code c.in-Ok-verdict.verified c.requires.parameters c.requires.globals c.in-Ok.ensures.value c.in-Ok-verdict.ensures.accepted in
    subst (GivesEnergy (program_tree p)) (sym c.in-Ok-new.ensures) gives

pub returns-in-Ok-new-clause-has : goal.returns-in-Ok-new-clause-has
returns-in-Ok-new-clause-has g c =
    let p = c.args.program.now in
    let accepted = c.in-Ok-verdict.ensures.accepted in
    let gives = accepted_gives c.args.job.now p c.in-Ok.code c.in-Ok-verdict.verified c.requires.parameters c.requires.globals c.in-Ok.ensures.value accepted in
    subst (HasEnergies (program_tree p)) (sym c.in-Ok-new.ensures) (small_energies c.in-Ok-verdict.verified (program_tree p) accepted.certified accepted.most gives)

pub returns-in-Err-clause-stopped : goal.returns-in-Err-clause-stopped
returns-in-Err-clause-stopped g c =
    rw c.of_energy.ensures
    (0, none_passed (job_value c.args.job.now) _ c.in-Err.failure, g.met.W.Progress.passed_none c.args.watch.now)

pub returns-in-Err-verdict-clause-stopped : goal.returns-in-Err-verdict-clause-stopped
returns-in-Err-verdict-clause-stopped g c =
    let j = job_value c.args.job.now in
    let stopped = c.in-Err-verdict.ensures.stopped in (
      stopped.0,
      passed_before j c.args.program.now c.in-Ok.code stopped.0 c.in-Err-verdict.failure c.requires.program c.in-Ok.ensures.exact stopped.1,
      stopped.2,
    )

pub returns-in-Err-new-clause-stopped : goal.returns-in-Err-new-clause-stopped
returns-in-Err-new-clause-stopped g c = (slices_of (job_value c.args.job.now), omega arith, c.in-Ok-verdict.ensures.passed)
