use Rattle.std.proofs.Common.{◌%◌, arith, inl, inr}
use Rattle.std.proofs.lemmas.Bool.{cases_eq}
use Rattle.std.proofs.lemmas.Grind.{common_steps}
use Rattle.fixed.specs.Fractions.{bits_of}
use Rattle.error_bounds.proofs.PowerLaws.{power_even, power_odd, power_one}
use Rattle.error_bounds.proofs.powers.+whole_power.Goals as goal

pub returns-then-n-le1 : goal.returns-then-n-le1
returns-then-n-le1 t c = rw (power_one (bits_of c.args.frac) c.args.x.now c.args.n (omega arith)) (grind (arith, common_steps))

pub returns-in_err-half : goal.returns-in_err-half
returns-in_err-half t c =
    elim (cases_eq (c.args.n % 2) 0) [
      | inl e ↦ rw (power_even (bits_of c.args.frac) c.args.x.now c.args.n (omega arith) e) (grind (arith, common_steps))
      | inr o ↦ rw (power_odd (bits_of c.args.frac) c.args.x.now c.args.n (omega arith) o) (grind (arith, common_steps))
    ]

pub returns-in_err-even : goal.returns-in_err-even
returns-in_err-even t c =
    elim (cases_eq (c.args.n % 2) 0) [
      | inl e ↦ rw (power_even (bits_of c.args.frac) c.args.x.now c.args.n (omega arith) e) (grind (arith, common_steps))
      | inr o ↦ rw (power_odd (bits_of c.args.frac) c.args.x.now c.args.n (omega arith) o) (grind (arith, common_steps))
    ]

pub returns-then-n-eq0 : goal.returns-then-n-eq0
returns-then-n-eq0 t c = rw (power_even (bits_of c.args.frac) c.args.x.now c.args.n (omega arith) (omega arith)) (grind (arith, common_steps))

pub returns-else-n-eq0 : goal.returns-else-n-eq0
returns-else-n-eq0 t c = rw (power_odd (bits_of c.args.frac) c.args.x.now c.args.n (omega arith) (omega arith)) (grind (arith, common_steps))
