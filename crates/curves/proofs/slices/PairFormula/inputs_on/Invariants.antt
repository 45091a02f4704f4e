use Rattle.std.proofs.Common.{◌≡◌, ◌∷◌, map, take}
use Rattle.error_bounds.specs.Rules.{as_read, distances}
use Rattle.interval_domain.specs.Views.{span_range}
use Rattle.curves.proofs.slices.PairFormula.inputs_on.Given as goal

-- the inputs so far are the distances and the others up to the index
abbrev pub invariant-loop-other : goal.invariant-loop-other
invariant-loop-other g l = l.inputs.items ≡ distances (span_range l.fn.range) ∷ map as_read (take l.other-index l.self.others.now)
