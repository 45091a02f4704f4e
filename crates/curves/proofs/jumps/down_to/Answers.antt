use Rattle.std.proofs.Common.{subst, sym, ◌≤ℤ◌, arith}
use Rattle.std.proofs.lemmas.Int.{clamps, ints}
use Rattle.curves.proofs.JumpLaws.{greatest_below}
use Rattle.curves.proofs.jumps.down_to.Goals as goal

pub returns-clause-value : goal.returns-clause-value
returns-clause-value c =
    omega (arith, ints, clamps, c.from_raw.ensures, c.max.ensures.value, c.raw.ensures, c.from.ensures, c.from-2.ensures, c.raw-2.ensures, c.from-3.ensures)

pub returns-clause-ordered : goal.returns-clause-ordered
returns-clause-ordered c = λ l. subst (λ z. z ≤ℤ c.args.at) (sym (returns-clause-value c)) (greatest_below c.args.low c.args.at c.args.less l)
