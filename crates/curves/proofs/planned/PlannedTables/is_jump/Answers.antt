use Rattle.std.proofs.Common.{◌∙◌, ◌&&◌, Bool, ap, sym}
use Rattle.energy_program.specs.Programs.{trees_of}
use Rattle.fixed.specs.Fractions.{bits_of}
use Rattle.interval_domain.specs.Views.{span_range}
use Rattle.job.specs.Views.{job_value}
use Rattle.curves.specs.Slices.{jumps_over}
use Rattle.curves.specs.Tables.{all_distances}
use Rattle.curves.proofs.planned.PlannedTables.is_jump.Goals as goal

pub returns-in_ok-jumps : goal.returns-in_ok-jumps
returns-in_ok-jumps g c =
    let its = jumps_over (bits_of c.args.self.now.job.now.frac) (trees_of c.args.self.now.potential.now.slope.energy) c.args.pair.now.others.items
    (all_distances (job_value c.args.self.now.job.now)) c.args.column (span_range c.args.worst.range) in
    c.of.ensures ∙ c.in_ok-jumps.ensures c.args.column
    ∙ sym (ap (λ (b : Bool). b && its) (sym c.is_large.ensures ∙ c.if-is_large.true))
