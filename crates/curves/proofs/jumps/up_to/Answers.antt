use Rattle.std.proofs.Common.{subst, sym, ◌≤ℤ◌, arith}
use Rattle.std.proofs.lemmas.Int.{clamps, ints}
use Rattle.curves.proofs.JumpLaws.{least_above}
use Rattle.curves.proofs.jumps.up_to.Goals as goal

pub overflow_add-above : goal.overflow_add-above
overflow_add-above c = omega (arith, ints, c.raw.ensures, c.from.ensures, c.from-2.ensures)

pub overflow_cast-min : goal.overflow_cast-min
overflow_cast-min c =
    omega (arith, ints, clamps, c.min.ensures.value, c.raw.ensures, c.from.ensures, c.from-2.ensures, c.raw-2.ensures, c.from-3.ensures)

pub returns-clause-value : goal.returns-clause-value
returns-clause-value c =
    omega (arith, ints, clamps, c.from_raw.ensures, c.min.ensures.value, c.raw.ensures, c.from.ensures, c.from-2.ensures, c.raw-2.ensures, c.from-3.ensures)

pub returns-clause-ordered : goal.returns-clause-ordered
returns-clause-ordered c = λ l. subst (λ z. c.args.at ≤ℤ z) (sym (returns-clause-value c)) (least_above c.args.high c.args.at c.args.more l)
