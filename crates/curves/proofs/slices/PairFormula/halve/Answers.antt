use Rattle.std.proofs.Common.{◌∙◌, ap}
use Rattle.fixed.specs.Fractions.{bits_of}
use Rattle.curves.specs.Slices.{greater_bounds}
use Rattle.curves.proofs.PartLaws.{can_be_halved, halved_parts, last_is, some_left}
use Rattle.formula_bounds.proofs.StepListLaws.{read_index}
use Rattle.curves.proofs.slices.PairFormula.halve.Goals as goal

pub halves-requires : goal.halves-requires
halves-requires g c =
    can_be_halved c.args.parts.now.items c.args.number c.index.result.now c.range.result
    (read_index c.args.parts.now.items c.args.number c.index.result.now c.index.ensures c.requires.there) c.range.ensures c.range.result.ordered
    c.requires.wide

pub returns-clause-some : goal.returns-clause-some
returns-clause-some g c = some_left _ _ c.replace.new.parts.items c.in_ok-lower.lower c.in_ok-replace.ensures

pub returns-clause-halved : goal.returns-clause-halved
returns-clause-halved g c = λ program e.
    let p = c.index.result.now in
    let its = read_index c.args.parts.now.items c.args.number p c.index.ensures c.requires.there in (
      p,
      its,
      halved_parts (bits_of c.args.self.now.frac) program c.args.self.now.others.now c.args.parts.now.items _ c.args.number p c.in_ok-lower.lower c.in_ok-upper.upper
          c.range.result c.halves.result.0 c.halves.result.1 its c.range.ensures c.halves.ensures.cut (c.in_ok-lower.ensures program e)
          (c.in_ok-upper.ensures program e) c.in_ok-replace.ensures,
      c.greater_of_each.ensures
          ∙ ap (greater_bounds c.args.tried) (last_is (bits_of c.args.self.now.frac) program c.args.self.now.others.now p c.range.result c.halves.result.0 c.halves.result.1
          _ c.range.ensures c.halves.ensures.cut (c.in_ok-last.ensures program e)),
    )
