use Rattle.std.proofs.Common.{arith}
use Rattle.energy_program.specs.Programs.{trees_of}
use Rattle.job.specs.Views.{job_value}
use Rattle.potential.specs.Progress.{slices_of}
use Rattle.curves.proofs.GridLaws.{slope_made}
use Rattle.curves.proofs.potentials.Potential.with_slope.Goals as goal

pub derived_formula-derived-requires : goal.derived_formula-derived-requires
derived_formula-derived-requires g c =
    slope_made (job_value c.args.job.now) (trees_of c.args.slope.energy) c.args.slope.verified c.requires.program c.requires.kernel

pub returns-in-Ok-pair-clause-is : goal.returns-in-Ok-pair-clause-is
returns-in-Ok-pair-clause-is g c =
    let made = c.in-Ok-pair.ensures.both in
    record {
      program = c.requires.program;
      slope = c.requires.kernel;
      energy = c.in-Ok.ensures.kernel;
      slope_under = c.requires.kernel.accepted.under;
      energy_under = c.in-Ok.ensures.under;
      gives = c.in-Ok.ensures.gives;
      formula = rw made.0 at c.new-formula.ensures;
      derived = rw made.1 at c.derived_formula-derived.ensures;
    }

pub returns-in-Err-pair-clause-stopped : goal.returns-in-Err-pair-clause-stopped
returns-in-Err-pair-clause-stopped g c = (slices_of (job_value c.args.job.now), omega arith, c.in-Ok.ensures.passed)
