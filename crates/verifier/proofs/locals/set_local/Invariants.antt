use Rattle.std.proofs.Common.{◌≡◌, ℕ, ◌+◌, ◌-◌, None, length, slice_index_or}
use Rattle.verifier.proofs.locals.set_local.Given as goal

abbrev pub invariant-loop-locals : goal.invariant-loop-locals
invariant-loop-locals g l = (j : ℕ) → slice_index_or l.locals.items j None ≡ slice_index_or l.initial.locals.items j None

abbrev pub decreases-loop-locals : goal.decreases-loop-locals
decreases-loop-locals g l = l.local + 1 - length l.locals.items
