use Rattle.std.proofs.Common.{rules}
use Rattle.fixed.proofs.FloorLemmas.{floor_of_unique}
use Rattle.fixed.proofs.plain.div.Goals as goal

pub returns-then-is_floor : goal.returns-then-is_floor
returns-then-is_floor c =
    let e = floor_of_unique _ _ _ (c.is_floor.ensures c.if-is_floor.true) in
    let h = rw c.product.ensures.value at e in
    search rules
