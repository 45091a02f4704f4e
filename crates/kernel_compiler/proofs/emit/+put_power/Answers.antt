use Rattle.std.proofs.Common.{arith}
use Rattle.std.proofs.lemmas.Grind.{common_steps}
use Rattle.kernel_compiler.proofs.Powers.{power_odd, power_even}
use Rattle.kernel_compiler.proofs.emit.+put_power.Goals as goal

pub returns-in_ok-put-3-clause-items : goal.returns-in_ok-put-3-clause-items
returns-in_ok-put-3-clause-items g t c = rw (power_odd c.args.exponent (omega arith) (omega arith)) (grind (arith, common_steps))

pub returns-else-exponent-ne0-clause-items : goal.returns-else-exponent-ne0-clause-items
returns-else-exponent-ne0-clause-items g t c = rw (power_even c.args.exponent (omega arith) (omega arith)) (grind (arith, common_steps))
