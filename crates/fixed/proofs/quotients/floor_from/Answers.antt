use Rattle.std.proofs.Common.{rules}
use Rattle.fixed.proofs.FloorLemmas.{floor_of_unique}
use Rattle.fixed.proofs.quotients.floor_from.Goals as goal

pub returns-then-is_floor_over : goal.returns-then-is_floor_over
returns-then-is_floor_over c =
    let e = floor_of_unique _ _ _ (c.is_floor_over.ensures c.if-is_floor_over.true) in
    let h = rw c.product.ensures.value at e in
    search rules
