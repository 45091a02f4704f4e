use Rattle.std.proofs.Common.{Some, refl}
use Rattle.std.proofs.lemmas.List.{map-set}
use Rattle.kernel_machine.proofs.turns.go_on.Goals as goal

pub returns-in-Keep-clause-turn : goal.returns-in-Keep-clause-turn
returns-in-Keep-clause-turn g c = rw (c.in-Keep.is, c.top.ensures, map-set Some c.args.locals.now c.in-Keep.local c.top.result) refl
