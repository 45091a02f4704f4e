use Rattle.std.proofs.Common.{◌≡◌, take}
use Rattle.formula_bounds.proofs.walks.all_copied.Given as goal

-- the copies so far are those of the entries up to the index
abbrev pub invariant-loop-entry : goal.invariant-loop-entry
invariant-loop-entry g l = l.all.items ≡ take l.entry-index l.entries
