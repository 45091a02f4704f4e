use Rattle.std.proofs.Common.{◌≡◌, take}
use Rattle.potential.specs.Tables.{numbers_of}
use Rattle.potential.proofs.tables.numbers.Given as goal

abbrev pub invariant-loop-constant : goal.invariant-loop-constant
invariant-loop-constant g l = l.numbers.items ≡ numbers_of (take l.constant-index l.constants)
