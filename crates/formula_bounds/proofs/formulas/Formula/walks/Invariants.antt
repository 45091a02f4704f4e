use Rattle.std.proofs.Common.{◌≡◌, [], ◌∷◌}
use Rattle.fixed.specs.Fractions.{bits_of}
use Rattle.energy_program.specs.Programs.{Trees}
use Rattle.formula_bounds.specs.Nodes.{IsNotSingle, dividing, formula_of, undivided}
use Rattle.formula_bounds.proofs.DefinitionLaws.{walks_at}
use Rattle.formula_bounds.proofs.formulas.Formula.walks.Given as goal

-- the walks are those over the definitions from the index on
abbrev pub invariant-loop-index : goal.invariant-loop-index
invariant-loop-index g l = record {
  several : IsNotSingle l.walks.divided;
  over : (program : Trees) → l.self ≡ formula_of program
      → ((undivided l.walks.plain ∷ []) ≡ walks_at (bits_of l.frac) l.inputs 0 l.index program.1)
      × (dividing l.walks ≡ walks_at (bits_of l.frac) l.inputs l.left l.index program.1);
}
