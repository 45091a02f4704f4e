use Rattle.std.proofs.Common.{◌^◌, ◌+◌, ◌*◌, length, arith, sym, ◌∙◌}
use Rattle.std.proofs.lemmas.Result.{err_from_is_err_and}
use Rattle.integrator.specs.Frames.{pair_force}
use Rattle.integrator.specs.Systems.{dynamics_of}
use Rattle.run_laws.proofs.BoundLaws.{all_within-weaker}
use Rattle.run_laws.proofs.PairLemmas.{rows_go_on, rows_stop, rows_end}
use Rattle.run_laws.proofs.tested_run.forces.add_rows.Goals as goal

pub returns-in_err-add_row-clause-fault : goal.returns-in_err-add_row-clause-fault
returns-in_err-add_row-clause-fault g c =
    let p = err_from_is_err_and c.from_residual.result c.from_residual.ensures.1 in
    let force = pair_force (dynamics_of g.K.TestedSlope.slope c.args.system.now) c.args.frame.now in
    let e = c.in_err-add_row.field-0.0 in
    rw (p.1, p.2)
    (sym c.loop-low.invariant.left
    ∙ rows_stop force c.loop-low.sums (e.low, e.high) c.loop-low.low (length c.args.frame.now) (omega arith) c.in_err-add_row.ensures.fault)

pub loop-low-preserved : goal.loop-low-preserved
loop-low-preserved g c =
    let force = pair_force (dynamics_of g.K.TestedSlope.slope c.args.system.now) c.args.frame.now in
    let low = c.loop-low.low in
    let n = length c.args.frame.now in
    record {
      left = sym (rows_go_on force c.loop-low.sums c.add_row.new.sums low n (omega arith) c.in_ok-add_row.ensures.value) ∙ c.loop-low.invariant.left;
      within = all_within-weaker (2 ^ 64 * (low * n) + 2 ^ 64 * n) (2 ^ 64 * ((low + 1) * n)) _ (omega arith) (c.in_ok-add_row.ensures.within (2 ^ 64 * (low * n)) c.loop-low.invariant.within);
    }

pub returns-clause-value : goal.returns-clause-value
returns-clause-value g c =
    let force = pair_force (dynamics_of g.K.TestedSlope.slope c.args.system.now) c.args.frame.now in
    sym c.loop-low.invariant.left ∙ rows_end force c.loop-low.sums c.loop-low.low (length c.args.frame.now) (omega arith)
