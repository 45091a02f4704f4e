use Rattle.std.proofs.Common.{◌≡◌, ◌+◌, ◌*◌, ◌/◌, arith, ap, ◌∙◌}
use Rattle.std.specs.Int.{div_ceil}
use Rattle.runs.proofs.HundredthLaws.{next_hundredth}
use Rattle.runs.proofs.stretches.until_hundredth.Goals as goal

pub returns : goal.returns
returns c =
    let all = c.args.all in
    let widened : (c.from.result * 100 / c.from-2.result + 1) * c.from-3.result ≡ (100 * c.args.done / all + 1) * all = rw
    (c.from.ensures, c.from-2.ensures, c.from-3.ensures) (ap (λ x. (x / all + 1) * all) (omega arith)) in
    next_hundredth all c.args.done c.div_ceil.result c.requires (c.div_ceil.ensures ∙ ap (λ x. div_ceil x 100) widened)
