use Rattle.std.proofs.Common.{◌≡◌, ◌<◌, length}
use Rattle.energy_program.specs.Programs.{Trees}
use Rattle.fixed.specs.Fractions.{bits_of}
use Rattle.interval_domain.specs.Views.{span_range}
use Rattle.formula_bounds.specs.Nodes.{formula_of}
use Rattle.curves.specs.Slices.{AreHalved}
use Rattle.curves.proofs.slices.PairFormula.bounds_over.Given as goal

-- the parts after so many halvings
abbrev pub invariant-loop-halvings : goal.invariant-loop-halvings
invariant-loop-halvings g l = record {
  some : 0 < length l.parts.items;
  halved : (program : Trees) → l.self.formula.now ≡ formula_of program
      → AreHalved (bits_of l.self.frac) program l.self.others.now (span_range l.fn.range) l.halvings l.parts.items l.tried;
}
