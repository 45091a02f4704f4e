use Rattle.std.proofs.Common.{◌≡◌, ◌∙◌, List, Some, None, true, ap, get_or, inl, inr, sym, arith}
use Rattle.fixed.specs.Fractions.{bits_of}
use Rattle.interval_domain.specs.Views.{span_range}
use Rattle.curves.specs.Slices.{BoundsView, Part, bounds_at, are_close, greater_bounds}
use Rattle.curves.proofs.PartLaws.{done_at_first, next_seen, one_alone, one_halving, some_left, started, there_of_next, worst_over}
use Rattle.curves.proofs.slices.PairFormula.bounds_over.Goals as goal

pub loop-halvings-init : goal.loop-halvings-init
loop-halvings-init g c =
    let whole = c.in_ok-part_on.field-0 in
    record {
      some = some_left c.new-parts.result.items _ c.push.new.self.items whole c.in_ok-push.ensures.items;
      halved = λ program e.
          let low = bounds_at (bits_of c.args.self.now.frac) program c.args.self.now.others.now (span_range c.args.range).low in
          started (bits_of c.args.self.now.frac) program c.args.self.now.others.now (span_range c.args.range) c.push.new.self.items whole
          c.greater_of_each-tried.result
          (one_alone c.new-parts.result.items c.push.new.self.items whole c.new-parts.ensures.items c.in_ok-push.ensures.items)
          (c.in_ok-part_on.ensures program e)
          (c.greater_of_each-tried.ensures ∙ ap (λ (b : BoundsView). greater_bounds b c.in_ok-last.last) (c.in_ok-first.ensures program e)
          ∙ ap (greater_bounds low) (c.in_ok-last.ensures program e));
    }

pub returns-then-are_close : goal.returns-then-are_close
returns-then-are_close g c = λ program e.
    let worst = c.worst_parts.result in
    let whole = c.in_ok-part_on.field-0 in
    let first = c.in_ok-first.first in
    let alone = one_alone c.new-parts.result.items c.push.new.self.items whole c.new-parts.ensures.items c.in_ok-push.ensures.items in
    let read : c.index.result.now ≡ whole = c.index.ensures ∙ ap (λ (l : List Part). get_or l 0 c.index.result.now) alone in
    let close : are_close whole.bounds first ≡ true =
    ap (λ (p : Part). are_close p.bounds first) (sym read) ∙ sym c.are_close.ensures ∙ c.if-are_close.true in
    done_at_first (bits_of c.args.self.now.frac) program c.args.self.now.others.now (span_range c.args.range) c.push.new.self.items
    c.deref.result.now whole first worst.energy.bound worst.slope.bound (span_range worst.energy.range) (span_range worst.slope.range) alone
    (c.in_ok-part_on.ensures program e) (c.in_ok-first.ensures program e) close c.deref.ensures.value c.worst_parts.ensures.energy
    c.worst_parts.ensures.slope

pub halve-requires-clause-there : goal.halve-requires-clause-there
halve-requires-clause-there g c =
    let next = next_seen c.loop-halvings.halvings c.loop-halvings.parts.items c.deref-in-loop-halvings.result.now c.loop-halvings.tried (Some c.in-Some.number)
    c.deref-in-loop-halvings.ensures.value c.in-Some.ensures in
    (there_of_next c.loop-halvings.halvings c.loop-halvings.parts.items c.loop-halvings.tried c.in-Some.number next).0

pub halve-requires-clause-wide : goal.halve-requires-clause-wide
halve-requires-clause-wide g c =
    let next = next_seen c.loop-halvings.halvings c.loop-halvings.parts.items c.deref-in-loop-halvings.result.now c.loop-halvings.tried (Some c.in-Some.number)
    c.deref-in-loop-halvings.ensures.value c.in-Some.ensures in
    (there_of_next c.loop-halvings.halvings c.loop-halvings.parts.items c.loop-halvings.tried c.in-Some.number next).1

pub loop-halvings-preserved : goal.loop-halvings-preserved
loop-halvings-preserved g c =
    let parts = c.loop-halvings.parts.items in
    let next = next_seen c.loop-halvings.halvings parts c.deref-in-loop-halvings.result.now c.loop-halvings.tried (Some c.in-Some.number)
    c.deref-in-loop-halvings.ensures.value c.in-Some.ensures in
    record {
      some = c.in_ok-tried-in-Some.ensures.some;
      halved = λ program e.
          let h = c.in_ok-tried-in-Some.ensures.halved program e in
          one_halving (bits_of c.args.self.now.frac) program c.args.self.now.others.now (span_range c.args.range) c.loop-halvings.halvings c.in-Some.number parts
          c.halve.new.parts.items h.0 c.loop-halvings.tried c.in_ok-tried-in-Some.tried (c.loop-halvings.invariant.halved program e)
          (omega (arith, c.loop-halvings-test.true, c.loop-halvings.auto.halvings-end)) next h.1 h.2 h.3;
    }

pub returns-in-None : goal.returns-in-None
returns-in-None g c = λ program e.
    let worst = c.worst_parts-in-None.result in
    worst_over (bits_of c.args.self.now.frac) program c.args.self.now.others.now (span_range c.args.range) c.loop-halvings.halvings c.loop-halvings.parts.items
    c.deref-in-None.result.now c.loop-halvings.tried worst.energy.bound worst.slope.bound (span_range worst.energy.range)
    (span_range worst.slope.range) c.deref-in-None.ensures.value (c.loop-halvings.invariant.halved program e)
    (inl (next_seen c.loop-halvings.halvings c.loop-halvings.parts.items c.deref-in-loop-halvings.result.now c.loop-halvings.tried None c.deref-in-loop-halvings.ensures.value c.in-None.ensures))
    c.worst_parts-in-None.ensures.energy c.worst_parts-in-None.ensures.slope

pub returns : goal.returns
returns g c = λ program e.
    let worst = c.worst_parts-2.result in
    worst_over (bits_of c.args.self.now.frac) program c.args.self.now.others.now (span_range c.args.range) c.loop-halvings.halvings c.loop-halvings.parts.items
    c.deref-2.result.now c.loop-halvings.tried worst.energy.bound worst.slope.bound (span_range worst.energy.range)
    (span_range worst.slope.range) c.deref-2.ensures.value (c.loop-halvings.invariant.halved program e)
    (inr (omega (arith, c.loop-halvings-test.false, c.loop-halvings.auto.halvings-end))) c.worst_parts-2.ensures.energy c.worst_parts-2.ensures.slope
