use Rattle.std.proofs.Common.{◌≡◌, ◌++◌, drop, length, replicate}
use Rattle.fixed.specs.Fractions.{bits_of}
use Rattle.energy_program.specs.Programs.{Trees}
use Rattle.formula_bounds.specs.Entries.{entries_from, missing}
use Rattle.formula_bounds.specs.Nodes.{formula_of}
use Rattle.formula_bounds.proofs.formulas.Formula.entries.Given as goal

-- the definitions from the index on have their entries, and the others none yet
abbrev pub invariant-loop-index : goal.invariant-loop-index
invariant-loop-index g l =
    (length l.known.items ≡ length l.self.definitions)
    × ((program : Trees) → l.self ≡ formula_of program
    → l.known.items ≡ replicate l.index missing ++ entries_from (bits_of l.frac) l.inputs l.index (drop l.index program.1))
