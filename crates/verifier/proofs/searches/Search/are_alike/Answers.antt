use Rattle.std.proofs.Common.{arith, refl}
use Rattle.verifier.proofs.Repeats.{same_row}
use Rattle.verifier.proofs.searches.Search.are_alike.Goals as goal

pub returns : goal.returns
returns g c = (
  λ yes.
      same_row c.args.self.now.table.now c.args.first c.args.second c.args.self.now.core c.loop-number.number
      c.parameters-number-end.ensures.table c.requires.first c.requires.second
      (omega (arith, c.loop-number-test.false, c.loop-number.auto.number-end, c.parameters-number-end.ensures.value))
      c.loop-number.invariant,
  λ same. refl,
)
