use Rattle.std.proofs.Common.{◌≡◌, replicate}
use Rattle.formula_bounds.specs.Entries.{missing}
use Rattle.formula_bounds.proofs.formulas.no_entries.Given as goal

-- each turn has added one missing entry
abbrev pub invariant-loop : goal.invariant-loop
invariant-loop g l = l.entries.items ≡ replicate l.counter missing
