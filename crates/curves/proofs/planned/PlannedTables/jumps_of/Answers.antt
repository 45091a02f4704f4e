use Rattle.std.proofs.Common.{◌∙◌, ◌&&◌, Bool, ap, sym}
use Rattle.energy_program.specs.Programs.{trees_of}
use Rattle.fixed.specs.Fractions.{bits_of}
use Rattle.interval_domain.specs.Views.{span_range}
use Rattle.job.specs.Views.{job_value}
use Rattle.curves.specs.Slices.{jumps_over}
use Rattle.curves.specs.Tables.{all_distances}
use Rattle.curves.specs.declared.slices.Column.TheVariants.{Energy, Slope}
use Rattle.curves.proofs.planned.PlannedTables.jumps_of.Goals as goal

pub returns-in_ok-jumps-clause-energy : goal.returns-in_ok-jumps-clause-energy
returns-in_ok-jumps-clause-energy g c =
    let its = jumps_over (bits_of c.args.self.now.job.now.frac) (trees_of c.args.self.now.potential.now.slope.energy) c.args.pair.now.others.items
    (all_distances (job_value c.args.self.now.job.now)) Energy in
    c.in_ok-jumps.ensures Energy
    ∙ sym (ap (λ (b : Bool). b && its (span_range c.args.worst.now.energy.range)) (sym c.is_large.ensures ∙ c.if-is_large.true))

pub returns-in_ok-jumps-clause-slope : goal.returns-in_ok-jumps-clause-slope
returns-in_ok-jumps-clause-slope g c =
    let its = jumps_over (bits_of c.args.self.now.job.now.frac) (trees_of c.args.self.now.potential.now.slope.energy) c.args.pair.now.others.items
    (all_distances (job_value c.args.self.now.job.now)) Slope in
    c.in_ok-jumps.ensures Slope ∙ ap its (c.is_same.ensures.yes c.if-is_same.true)
    ∙ sym (ap (λ (b : Bool). b && its (span_range c.args.worst.now.slope.range)) (sym c.is_large-then-is_large.ensures ∙ c.if-is_large-2.true))
