use Rattle.std.proofs.Common.{◌≡◌, drop, reverse}
use Rattle.formula_bounds.proofs.walks.remove.Given as goal

-- each turn has removed one entry
abbrev pub invariant-loop : goal.invariant-loop
invariant-loop g l = reverse l.stack.items ≡ drop l.counter (reverse l.fn.stack.items)
