use Rattle.std.proofs.Common.{◌+◌, ◌≤◌, slice_index, vec_capacity}
use Rattle.std.specs.Mem.Slots.{slots_items}
use Rattle.rounds.specs.Totals.{AreWords}
use Rattle.rounds.proofs.pool.read_words.Given as goal

abbrev pub invariant-loop-k : goal.invariant-loop-k
invariant-loop-k g l = (l.count ≤ vec_capacity l.sums) × AreWords (λ k. slice_index (slots_items l.closed.words) (1 + k)) l.k l.sums.items
