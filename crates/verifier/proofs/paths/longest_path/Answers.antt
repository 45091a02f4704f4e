use Rattle.std.proofs.Common.{◌≡◌, ◌+◌, Err, List, Ok, length, replicate, slice_set, rules, ap, subst}
use Rattle.kernel_code.specs.declared.instructions.Instr.{Instr}
use Rattle.verifier.specs.declared.meetings.Meeting.{Meeting}
use Rattle.verifier.specs.declared.meetings.Meeting.TheVariants.{Nothing, Level}
use Rattle.verifier.specs.Misfits.{IsWellFormed, IsFirst}
use Rattle.verifier.proofs.Refusals.{goes_wrong}
use Rattle.verifier.proofs.Judgements.{stands_first}
use Rattle.verifier.proofs.OneJudgement.{one_judgement}
use Rattle.verifier.proofs.paths.longest_path.Goals as goal

pub judge-requires-clause-stands : goal.judge-requires-clause-stands
judge-requires-clause-stands g c =
    let is = c.as_slice-instructions.result.now in
    let none : c.in_ok-meetings.meetings.items ≡ replicate (length is + 1) Nothing = search rules in
    rw c.deref_mut.ensures.value (stands_first is c.args.inputs c.start.result _ (ap (λ (ms : List Meeting). slice_set ms 0 (Level c.start.result)) none) c.start.ensures.height c.start.ensures.set c.start.ensures.steps)

pub returns-in-Ok-clause-only : goal.returns-in-Ok-clause-only
returns-in-Ok-clause-only g c = λ answer other.
    let well = subst (λ (is : List Instr). IsWellFormed is c.args.inputs c.in-Ok.steps) c.as_slice-instructions.ensures.items c.in-Ok.ensures in
    one_judgement c.args.code.now c.args.inputs (Ok c.in-Ok.steps) answer c.as_slice-instructions.ensures.code.forward well other

pub returns-clause-only : goal.returns-clause-only
returns-clause-only g c = λ answer other.
    let first = subst (λ (is : List Instr). IsFirst is c.args.inputs c.in-Err.fault) c.as_slice-instructions.ensures.items c.in-Err.ensures in
    one_judgement c.args.code.now c.args.inputs (Err c.in-Err.fault) answer c.as_slice-instructions.ensures.code.forward first other

pub returns-clause-refused : goal.returns-clause-refused
returns-clause-refused g c =
    let first = subst (λ (is : List Instr). IsFirst is c.args.inputs c.in-Err.fault) c.as_slice-instructions.ensures.items c.in-Err.ensures in
    goes_wrong c.args.code.now c.args.inputs c.in-Err.fault c.as_slice-instructions.ensures.code.forward first
