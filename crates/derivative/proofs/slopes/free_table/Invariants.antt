use Rattle.std.proofs.Common.{◌≡◌, ℕ, ◌≤◌, map, length}
use Rattle.energy_program.specs.Tree.{tree_of}
use Rattle.derivative.proofs.Table.{IsTableFrom}
use Rattle.derivative.proofs.slopes.free_table.Given as goal

pub record SoFar (i count : ℕ) (made : Type 0) (table_length definition_count : ℕ) : Type 0 where
  pub below : i ≤ count
  pub counted : count ≡ definition_count
  pub long : table_length ≡ definition_count
  pub made_so_far : made

abbrev pub invariant-loop-i : goal.invariant-loop-i
invariant-loop-i g l = SoFar l.i l.count (IsTableFrom l.free.items l.i (map tree_of l.definitions)) (length l.free.items) (length l.definitions)

abbrev pub decreases-loop-i : goal.decreases-loop-i
decreases-loop-i g l = l.i
