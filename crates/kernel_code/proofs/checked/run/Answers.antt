use Rattle.std.proofs.Common.{suc, refl, sym, subst, arith}
use Rattle.fixed.specs.Fractions.{bits_of}
use Rattle.kernel_code.specs.Machine.{Ends}
use Rattle.kernel_code.proofs.Runs.{after_more, ends_trapped, ends_there, instruction_at, turn_leads}
use Rattle.kernel_code.proofs.checked.run.Goals as goal

pub loop-pc-smaller : goal.loop-pc-smaller
loop-pc-smaller g c =
    omega (arith, turn_leads _ _ _ _ _ _ _ _ c.requires.forward (omega arith) (instruction_at _ c.loop-pc.pc _ _ (omega arith) c.index-code-pc.is refl) c.in-Ok.ensures)

pub loop-pc-preserved : goal.loop-pc-preserved
loop-pc-preserved g c =
    let there = instruction_at c.args.code.now c.loop-pc.pc c.index-code-pc.result _ (omega arith) c.index-code-pc.is refl in
    let r = c.loop-pc.invariant.reached in
    record {
      within = (turn_leads _ _ _ _ _ _ _ _ c.requires.forward (omega arith) there c.in-Ok.ensures).1;
      locals = omega arith;
      reached = (suc r.0, after_more _ _ _ r.0 _ _ _ r.1 there c.in-Ok.ensures);
    }

pub returns-in-Err : goal.returns-in-Err
returns-in-Err g c =
    let r = c.loop-pc.invariant.reached in
    (r.0, ends_trapped _ _ _ r.0 _ _ _ r.1 (instruction_at _ c.loop-pc.pc _ _ (omega arith) c.index-code-pc.is refl) c.in-Err.ensures)

pub returns : goal.returns
returns g c =
    let r = c.loop-pc.invariant.reached in
    (r.0, subst (Ends (bits_of c.args.frac) c.args.code.now c.args.inputs.now r.0) (sym c.answer.ensures) (ends_there _ _ _ r.0 _ r.1 (omega arith)))
