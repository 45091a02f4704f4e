use Rattle.std.proofs.Common.{◌≡◌, IfOk, subst}
use Rattle.energy_program.specs.Programs.{Trees}
use Rattle.derivative.specs.Derive.{parts_of, pruned}
use Rattle.derivative.proofs.derivative.needed_parts.Goals as goal

pub returns : goal.returns
returns g c = subst (λ (whole : Trees). IfOk c.pruned.result (λ p. parts_of p ≡ pruned whole)) c.in_ok-whole.ensures c.pruned.ensures
