use Rattle.std.proofs.Common.{arith, refl, sym, ◌∙◌, inl, inr}
use Rattle.std.proofs.lemmas.Result.{on_ok_weaker, IfErr-weaker, err_from_is_err_and}
use Rattle.fixed.specs.Fractions.{bits_of}
use Rattle.kernel_code.proofs.PathLaws.{leads_there}
use Rattle.kernel_code.proofs.Runs.{instruction_at}
use Rattle.verifier.specs.Frames.{IsPlain}
use Rattle.verifier.specs.AbstractStates.{Stops, StopsAt}
use Rattle.verifier.proofs.Attaining.{at_hand, height_behind, meets, plain_next}
use Rattle.fallible.proofs.FailureLaws.{refused_memory, refused_weaker}
use Rattle.verifier.proofs.Standing.{stands_branch, stands_jump, stands_past, stands_plain, stops_at}
use Rattle.verifier.proofs.slices.pass.Goals as goal

-- ---- no run comes here

pub returns-in_default-clause-stands : goal.returns-in_default-clause-stands
returns-in_default-clause-stands g c = stands_past _ _ _ _ _ _ c.requires.stands c.in_default.ensures

-- ---- a jump

pub returns-in-Jump-clause-stands : goal.returns-in-Jump-clause-stands
returns-in-Jump-clause-stands g c = stands_jump _ _ _ _ _ _ _ _ _ c.requires.stands c.in-Some.ensures (instruction_at _ _ _ _ c.requires.within c.index-code-here.is c.in-Jump.is) c.join.ensures

pub join-requires-clause-index : goal.join-requires-clause-index
join-requires-clause-index g c =
    omega (arith, leads_there _ _ _ _ c.requires.code.forward (instruction_at _ _ _ _ c.requires.within c.index-code-here.is c.in-Jump.is) refl, c.take.ensures.long, c.requires.long)

pub join-requires-clause-meet : goal.join-requires-clause-meet
join-requires-clause-meet g c = meets _ _ _ _ _ c.requires.stands _ _ _ _ _ _ c.requires.code.forward c.requires.well.1 c.in-Some.ensures (instruction_at _ _ _ _ c.requires.within c.index-code-here.is c.in-Jump.is) refl refl

-- ---- a jump at 0

pub branch-alloc-requires-clause-target : goal.branch-alloc-requires-clause-target
branch-alloc-requires-clause-target g c =
    omega (arith, leads_there _ _ _ _ c.requires.code.forward (instruction_at _ _ _ _ c.requires.within c.index-code-here.is c.in-JumpIfZero.is) (inr refl), c.take.ensures.long, c.requires.long)

pub branch-alloc-requires-clause-operand : goal.branch-alloc-requires-clause-operand
branch-alloc-requires-clause-operand g c =
    at_hand _ _ _ _ _ c.requires.stands _ _ _ c.requires.well.1 c.in-Some.ensures.taken (instruction_at _ _ _ _ c.requires.within c.index-code-here.is c.in-JumpIfZero.is)

pub branch-alloc-requires-clause-meet_next : goal.branch-alloc-requires-clause-meet_next
branch-alloc-requires-clause-meet_next g c =
    meets _ _ _ _ _ c.requires.stands _ _ _ _ _ _ c.requires.code.forward c.requires.well.1 c.in-Some.ensures (instruction_at _ _ _ _ c.requires.within c.index-code-here.is c.in-JumpIfZero.is) (inl refl) refl

pub branch-alloc-requires-clause-meet_target : goal.branch-alloc-requires-clause-meet_target
branch-alloc-requires-clause-meet_target g c =
    meets _ _ _ _ _ c.requires.stands _ _ _ _ _ _ c.requires.code.forward c.requires.well.1 c.in-Some.ensures (instruction_at _ _ _ _ c.requires.within c.index-code-here.is c.in-JumpIfZero.is) (inr refl) refl

pub returns-in-JumpIfZero-clause-stands : goal.returns-in-JumpIfZero-clause-stands
returns-in-JumpIfZero-clause-stands g c =
    on_ok_weaker c.branch-alloc.result
    (stands_branch _ _ _ _ _ _ _ _ _ c.requires.stands c.in-Some.ensures (instruction_at _ _ _ _ c.requires.within c.index-code-here.is c.in-JumpIfZero.is))
    c.branch-alloc.ensures.branches

pub returns-in-JumpIfZero-clause-stops : goal.returns-in-JumpIfZero-clause-stops
returns-in-JumpIfZero-clause-stops g c = IfErr-weaker c.branch-alloc.result _ _ (λ e same. refused_memory _ e same) c.branch-alloc.ensures.memory

-- ---- any other

pub returns-in_err-follow-in_default-instr-clause-stops : goal.returns-in_err-follow-in_default-instr-clause-stops
returns-in_err-follow-in_default-instr-clause-stops g c =
    let p = err_from_is_err_and c.from_residual.result c.from_residual.ensures.1 in
    rw (p.1, p.2)
    (refused_weaker (Stops (bits_of c.args.frac) c.index-code-here.result c.in-Some.frame) (StopsAt (bits_of c.args.frac) c.args.code.now c.args.inputs.now c.args.here) c.in_err-follow-in_default-instr.field-0.0
    (λ f x. stops_at _ _ _ _ _ f _ _ _ c.requires.stands c.in-Some.ensures (instruction_at _ _ _ _ c.requires.within c.index-code-here.is refl) x)
    c.in_err-follow-in_default-instr.ensures.stops)

pub follow-requires-clause-at_hand : goal.follow-requires-clause-at_hand
follow-requires-clause-at_hand g c = at_hand _ _ _ _ _ c.requires.stands _ _ _ c.requires.well.1 c.in-Some.ensures.taken (instruction_at _ _ _ _ c.requires.within c.index-code-here.is refl)

pub join-requires-in_default-instr-clause-meet : goal.join-requires-in_default-instr-clause-meet
join-requires-in_default-instr-clause-meet g c =
    let behind = c.in_ok-follow-in_default-instr.ensures.behind in
    meets _ _ _ _ _ c.requires.stands _ _ _ c.index-code-here.result _ _ c.requires.code.forward c.requires.well.1 c.in-Some.ensures (instruction_at _ _ _ _ c.requires.within c.index-code-here.is refl)
    (plain_next _ _ _ (record { falls = c.in_default-instr.not-JumpIfZero; jumps = c.in_default-instr.not-Jump }) refl) (sym (height_behind (bits_of c.args.frac) c.index-code-here.result c.args.inputs.now _ _ behind))

pub returns-in_ok-follow-in_default-instr : goal.returns-in_ok-follow-in_default-instr
returns-in_ok-follow-in_default-instr g c =
    let there = instruction_at _ _ _ _ c.requires.within c.index-code-here.is refl in
    let plain : IsPlain c.index-code-here.result = record { falls = c.in_default-instr.not-JumpIfZero; jumps = c.in_default-instr.not-Jump } in
    let j = c.join-in_default-instr.ensures in
    record {
      stands = stands_plain _ _ _ _ _ _ _ _ _ _ c.requires.stands c.in-Some.ensures there plain c.in_ok-follow-in_default-instr.ensures.behind j;
      stops = tt;
      long = j.long ∙ c.take.ensures.long ∙ c.requires.long;
    }
