use Rattle.std.proofs.Common.{Some, refl}
use Rattle.curves.proofs.PartLaws.{next_other, next_turn}
use Rattle.curves.proofs.slices.next.Goals as goal

pub returns-in-Some : goal.returns-in-Some
returns-in-Some c =
    next_turn c.args.halvings c.args.parts.now c.args.tried.now c.turn_of-first.result (Some c.in-Some.part) c.turn_of-first.ensures
    c.in-Some.part refl c.in-Some.ensures

pub returns-in-None : goal.returns-in-None
returns-in-None c =
    next_other c.args.halvings c.args.parts.now c.args.tried.now c.turn_of-first.result c.to_halve-in-None.result c.turn_of-first.ensures
    c.in-None.ensures c.to_halve-in-None.ensures
