use Rattle.std.specs.Prelude.{◌≡◌, ℕ, ◌<◌}
use Rattle.kernel_code.specs.Tables.{row_of}
use Rattle.verifier.proofs.searches.Search.is_repeated.Given as goal

abbrev pub invariant-loop-earlier : goal.invariant-loop-earlier
invariant-loop-earlier g l = (k : ℕ) → k < l.earlier → row_of l.self.table.now k ≡ row_of l.self.table.now l.later → ⊥
