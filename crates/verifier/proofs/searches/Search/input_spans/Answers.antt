use Rattle.std.proofs.Common.{List, ◌∷◌, [], ◌++◌, arith, ap, ◌∙◌}
use Rattle.interval_domain.specs.declared.span.Span.{Span}
use Rattle.verifier.proofs.Inputs.{input_there, hold_first, hold_more}
use Rattle.verifier.proofs.searches.Search.input_spans.Goals as goal

pub loop-number-init : goal.loop-number-init
loop-number-init g c = hold_first _ _ _ _ _ (c.in_ok-push.ensures.items ∙ ap (λ (l : List Span). l ++ c.args.distances.now ∷ []) c.new-spans.ensures.items)

pub loop-number-preserved : goal.loop-number-preserved
loop-number-preserved g c =
    hold_more c.args.self.now.table.now c.args.pair.first c.args.pair.second c.in-Some.value c.loop-number.number c.new-number.result c.args.distances.now c.loop-number.spans.items c.push-in-Some.new.self.items c.single.result c.loop-number.invariant
    c.in-Some.ensures c.new-number.ensures c.single.ensures.lo c.single.ensures.hi c.in_ok-push-in-Some.ensures.items

pub unreachable-requires : goal.unreachable-requires
unreachable-requires g c =
    input_there c.args.self.now.table.now c.args.pair.first c.args.pair.second c.loop-number.number c.new-number.result c.args.distances.now.lo c.parameters.ensures.table c.requires.first c.requires.second c.in-None.ensures c.new-number.ensures
    (omega (arith, c.loop-number-test.true, c.parameters.ensures.value, c.globals.ensures.value))
