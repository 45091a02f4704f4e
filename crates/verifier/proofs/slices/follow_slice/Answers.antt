use Rattle.std.proofs.Common.{ℕ, ◌≤◌, ◌∙◌, List, Option, length, arith, refl, subst}
use Rattle.fixed.specs.Fractions.{bits_of}
use Rattle.interval_domain.specs.declared.span.Span.{Span}
use Rattle.kernel_code.specs.declared.instructions.Instr.{Instr}
use Rattle.verifier.specs.Frames.{SpanFrameView}
use Rattle.verifier.specs.AbstractStates.{IsFrameOf, comes_below}
use Rattle.verifier.specs.Slices.{IsFollowedTo}
use Rattle.verifier.proofs.Attaining.{one_left}
use Rattle.verifier.proofs.Runs.{some_end}
use Rattle.verifier.proofs.Standing.{gives_span, stands_first}
use Rattle.verifier.proofs.slices.follow_slice.Goals as goal

pub loop-here-init : goal.loop-here-init
loop-here-init g c = record {
  long = c.join.ensures.long ∙ c.in-Ok.ensures.long;
  stands = stands_first _ _ _ c.start.result _ _ c.start.ensures c.in-Ok.ensures.none c.join.ensures;
}

-- once every instruction is passed, the invariant holds at the end
ended : (bits : ℕ) (code : List Instr) (inputs : List Span) (here : ℕ) (states : List (Option SpanFrameView)) → length code ≤ here → here ≤ length code → IsFollowedTo bits code inputs here states → IsFollowedTo bits code inputs (length code) states
ended bits code inputs here states past within s = subst (λ (n : ℕ). IsFollowedTo bits code inputs n states) (omega arith) s

pub pop-requires : goal.pop-requires
pop-requires g c =
    let stands = ended (bits_of c.args.frac) c.args.code.now c.args.inputs.now c.loop-here.here c.loop-here.states (omega (arith, c.loop-here-test.false)) (omega (arith, c.loop-here.auto.here-end)) c.loop-here.invariant.stands in
    let one = one_left _ _ _ _ _ stands _ _ c.requires.well.1 refl c.in-Some.ensures.taken in
    omega (arith, one)

pub unreachable-requires : goal.unreachable-requires
unreachable-requires g c =
    let stands = ended (bits_of c.args.frac) c.args.code.now c.args.inputs.now c.loop-here.here c.loop-here.states (omega (arith, c.loop-here-test.false)) (omega (arith, c.loop-here.auto.here-end)) c.loop-here.invariant.stands in
    let at = subst (IsFrameOf (comes_below (bits_of c.args.frac) c.args.code.now c.args.inputs.now _ _)) c.in_default-take.ensures.taken (stands.ahead _ (omega arith)) in
    some_end (bits_of c.args.frac) c.args.code.now c.args.inputs.now c.requires.code.forward stands.passes at

pub returns-clause-gives : goal.returns-clause-gives
returns-clause-gives g c =
    let stands = ended (bits_of c.args.frac) c.args.code.now c.args.inputs.now c.loop-here.here c.loop-here.states (omega (arith, c.loop-here-test.false)) (omega (arith, c.loop-here.auto.here-end)) c.loop-here.invariant.stands in
    gives_span _ _ _ _ _ _ _ _ stands c.in-Some.ensures c.pop.ensures.pops (one_left _ _ _ _ _ stands _ _ c.requires.well.1 refl c.in-Some.ensures.taken)
