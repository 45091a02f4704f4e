use Rattle.std.proofs.Common.{◌≡◌, take, map}
use Rattle.potential.proofs.energies.global_names.Given as goal

abbrev pub invariant-loop-global : goal.invariant-loop-global
invariant-loop-global g l = map (λ p. p.now) l.names.items ≡ map (λ p. p.name.items) (take l.global-index l.globals)
