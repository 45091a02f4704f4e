-- A search of the entries that are left has the same result as a search of the whole table.
use Rattle.std.proofs.Common.{◌≡◌, length, map}
use Rattle.job.specs.Statements.{key_among}
use Rattle.job.proofs.forms.key_among.Given as goal

abbrev pub invariant-loop-table : goal.invariant-loop-table
invariant-loop-table l = key_among (map (λ e. (e.0.now, e.1)) l.table) l.word ≡ key_among (map (λ e. (e.0.now, e.1)) l.fn.table) l.word

abbrev pub decreases-loop-table : goal.decreases-loop-table
decreases-loop-table l = length l.table
