use Rattle.std.proofs.Common.{◌≡◌, take, map}
use Rattle.potential.proofs.energies.parameter_names.Given as goal

abbrev pub invariant-loop-parameter : goal.invariant-loop-parameter
invariant-loop-parameter g l = map (λ p. p.now) l.names.items ≡ map (λ p. p.items) (take l.parameter-index l.job.parameters.items)
