use Rattle.std.proofs.Common.{[], ap, sym, subst, ◌∙◌, arith, get_or, true, map, length}
use Rattle.std.specs.Bool.{IsTrue}
use Rattle.fixed.specs.Fractions.{bits_of}
use Rattle.energy_program.specs.Tree.{are_scoped, variable_count, tree_of}
use Rattle.derivative.specs.Written.{slope_tree, moved}
use Rattle.derivative.proofs.Scoped.{writable_at}
use Rattle.derivative.proofs.Pushed.{pushed, all_pushed}
use Rattle.derivative.proofs.slopes.all_slopes.Goals as goal

pub slope-requires : goal.slope-requires
slope-requires g c =
    let few = c.args.program.now.few_definitions in
    let counted = c.requires ∙ ap length (sym c.as_slice-definitions.ensures.value) in
    writable_at (variable_count c.args.program.now.parameters c.args.program.now.globals) c.args.by c.loop-definition.definition-index c.as_slice-definitions.result.now c.definition-item.result
    counted (omega arith) c.loop-definition-test.true c.definition-item.is
    (subst (λ x. IsTrue (are_scoped (variable_count c.args.program.now.parameters c.args.program.now.globals) 0 (map tree_of x))) (sym c.as_slice-definitions.ensures.value) c.args.program.now.definitions_scoped)

pub loop-definition-preserved : goal.loop-definition-preserved
loop-definition-preserved g c =
    pushed [] (slope_tree (bits_of c.args.frac) (λ j. get_or c.args.free.now j true) c.args.by) c.loop-definition.written.items c.push.new.self.items
    c.as_slice-definitions.result.now c.loop-definition.definition-index c.definition-item.result c.in_ok-slope.slope.tree
    c.loop-definition-test.true c.definition-item.is c.loop-definition.invariant c.in_ok-push.ensures.items c.in_ok-slope.ensures.tree

pub moved-requires : goal.moved-requires
moved-requires g c =
    let few = c.args.program.now.few_definitions in
    let counted = c.requires ∙ ap length (sym c.as_slice-definitions.ensures.value) in
    writable_at (variable_count c.args.program.now.parameters c.args.program.now.globals) c.args.by c.loop-definition-2.definition-index c.as_slice-definitions.result.now c.definition-item-in-loop-definition-2.result
    counted (omega arith) c.loop-definition-2-test.true c.definition-item-in-loop-definition-2.is
    (subst (λ x. IsTrue (are_scoped (variable_count c.args.program.now.parameters c.args.program.now.globals) 0 (map tree_of x))) (sym c.as_slice-definitions.ensures.value) c.args.program.now.definitions_scoped)

pub returns : goal.returns
returns g c =
    all_pushed (slope_tree (bits_of c.args.frac) (λ j. get_or c.args.free.now j true)) moved c.args.by c.loop-definition.written.items c.loop-definition-2.written.items
    c.as_slice-definitions.result.now c.args.program.now.definitions.items c.loop-definition.definition-index c.loop-definition-2.definition-index
    c.requires c.as_slice-definitions.ensures.value c.loop-definition-test.false c.loop-definition-2-test.false c.loop-definition.invariant c.loop-definition-2.invariant

pub loop-definition-2-preserved : goal.loop-definition-2-preserved
loop-definition-2-preserved g c =
    pushed (map tree_of c.loop-definition.written.items) (moved c.args.by) c.loop-definition-2.written.items c.push-in-loop-definition-2.new.self.items
    c.as_slice-definitions.result.now c.loop-definition-2.definition-index c.definition-item-in-loop-definition-2.result c.in_ok-moved.field-0
    c.loop-definition-2-test.true c.definition-item-in-loop-definition-2.is c.loop-definition-2.invariant c.in_ok-push-2.ensures.items c.in_ok-moved.ensures

pub loop-definition-init : goal.loop-definition-init
loop-definition-init g c = ap (map tree_of) c.new-written.ensures.items
