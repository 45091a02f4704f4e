use Rattle.std.proofs.Common.{rules, ◌≤◌, ◌^◌}
use Rattle.std.specs.Prelude.{unsigned_abs, ◌*ℤ◌}
use Rattle.ring_box.proofs.ForceLemmas.{product_small}
use Rattle.ring_box.proofs.lines.product.Goals as goal

pub returns : goal.returns
returns c =
    let b : unsigned_abs (c.args.g *ℤ c.args.a) ≤ 2 ^ 126 = product_small c.args.g c.args.a c.requires (search rules) in
    search rules
