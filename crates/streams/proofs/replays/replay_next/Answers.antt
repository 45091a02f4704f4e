use Rattle.std.proofs.Common.{rules, w64, subst, []}
use Rattle.std.proofs.lemmas.Int.{to_z-of_z}
use Rattle.std.proofs.lemmas.Result.{err_from_is_err_and}
use Rattle.fallible.specs.Out.{Appends, AppendsBeginning}
use Rattle.fallible.proofs.Appends.{appends_nothing}
use Rattle.engine.specs.RunSpecification.{IsTextOf}
use Rattle.state.specs.StateViews.{state_view}
use Rattle.streams.proofs.ReplayLaws.{engine_line, engine_text}
use Rattle.streams.proofs.WatchedLaws.{passed_fails, run_fails, run_reported, unread_fails}
use Rattle.streams.specs.Plans.{replay_plan_view}
use Rattle.streams.specs.Segments as segments
use Rattle.streams.specs.Watched as watched
use Rattle.streams.proofs.replays.replay_next.Goals as goal

-- the text is no state's
pub returns-in-Err-clause-fails : goal.returns-in-Err-clause-fails
returns-in-Err-clause-fails g c =
    let w = c.args.watch.now in
    rw c.state_fault.ensures (unread_fails (replay_plan_view c.args.plan.now) c.args.number c.args.engine.now c.args.text.now (g.O.Out.output c.args.out.now)
    (g.W.Watch.told w w) _ c.in-Err.failure c.in-Err.ensures.fault (g.met.W.Watch.told_nothing w))

-- the segment isn't to be replayed
pub returns-then-not-replays-clause-replayed : goal.returns-then-not-replays-clause-replayed
returns-then-not-replays-clause-replayed g c =
    let from = to_z-of_z w64 c.step-from.result (search rules) in
    let to = to_z-of_z w64 c.in-Ok.state.step (search rules) in
    let not = rw (from, to, c.step-from.ensures) at c.if-not-replays.ensures.not in
    record {
      s = state_view c.in-Ok.state;
      state_text' = record { fits = c.in-Ok.ensures.found.0; is = c.in-Ok.ensures.found.1 };
      it = record {
        line = [];
        is = segments.passed not;
        appends = appends_nothing (g.O.Out.output c.args.out.now);
        reported = (0, ([], watched.passed not, g.met.W.Watch.told_nothing c.args.watch.now));
      };
    }

-- its state wasn't taken
pub returns-in_err-take-clause-fails : goal.returns-in_err-take-clause-fails
returns-in_err-take-clause-fails g c =
    let p = err_from_is_err_and c.from_residual.result c.from_residual.ensures.1 in
    let w = c.args.watch.now in
    let from = to_z-of_z w64 c.step-from.result (search rules) in
    let to = to_z-of_z w64 c.in-Ok.state.step (search rules) in
    rw (p.1, p.2) (passed_fails (replay_plan_view c.args.plan.now) c.args.number c.args.engine.now c.args.text.now (g.O.Out.output c.args.out.now)
    (g.W.Watch.told w w) (state_view c.in-Ok.state) (record { fits = c.in-Ok.ensures.found.0; is = c.in-Ok.ensures.found.1 })
    c.in_err-take.field-0.0 (rw (from, to, c.step-from.ensures) at c.if-not-replays.ensures.not) c.in_err-take.ensures.refused
    (g.met.W.Watch.told_nothing w))

-- the run to its state failed
pub returns-in_err-difference-clause-fails : goal.returns-in_err-difference-clause-fails
returns-in_err-difference-clause-fails g c =
    let p = err_from_is_err_and c.from_residual-in_err-difference.result c.from_residual-in_err-difference.ensures.1 in
    let from = to_z-of_z w64 c.step-from.result (search rules) in
    let to = to_z-of_z w64 c.in-Ok.state.step (search rules) in
    rw (p.1, p.2) (run_fails (replay_plan_view c.args.plan.now) c.args.number c.args.engine.now c.args.text.now (g.O.Out.output c.args.out.now)
    (g.W.Watch.told c.args.watch.now c.compare.new.watch) (state_view c.in-Ok.state)
    (record { fits = c.in-Ok.ensures.found.0; is = c.in-Ok.ensures.found.1 })
    (rw (from, to, c.step-from.ensures) at c.if-not-replays.ensures.is) c.in_err-difference.field-0.0 c.in_err-difference.ensures.fails)

-- its line was written
pub returns-in-Ok-write_all-clause-replayed : goal.returns-in-Ok-write_all-clause-replayed
returns-in-Ok-write_all-clause-replayed g c =
    let from = to_z-of_z w64 c.step-from.result (search rules) in
    let to = to_z-of_z w64 c.in-Ok.state.step (search rules) in
    let plan = replay_plan_view c.args.plan.now in
    let s = state_view c.in-Ok.state in
    let is : IsTextOf c.args.text.now s = record { fits = c.in-Ok.ensures.found.0; is = c.in-Ok.ensures.found.1 } in
    record {
      s = s;
      state_text' = is;
      it = record {
        line = c.segment_line.result.items;
        is = engine_text plan c.args.number c.args.engine.now c.compare.new.engine s c.in_ok-difference.difference c.step-from.result
            c.segment_line.result.items _ c.step-from.ensures (rw (from, to) at c.segment_line.ensures)
            (rw (from, to) at c.if-not-replays.ensures.is) c.in_ok-difference.ensures.compared c.in_ok-difference.ensures.at
            c.is_some.ensures;
        appends = subst (Appends (g.O.Out.output c.args.out.now) (g.O.Out.output c.write_all.new.out)) c.as_slice.ensures.value
            c.in-Ok-write_all.ensures;
        reported = run_reported plan c.args.number c.args.engine.now c.args.text.now (g.O.Out.output c.args.out.now)
            (g.W.Watch.told c.args.watch.now c.compare.new.watch) s is
            (rw (from, to, c.step-from.ensures) at c.if-not-replays.ensures.is) c.in_ok-difference.ensures.reported;
      };
    }

-- a beginning of its line was written
pub returns-in-Err-write_all-clause-fails : goal.returns-in-Err-write_all-clause-fails
returns-in-Err-write_all-clause-fails g c =
    let from = to_z-of_z w64 c.step-from.result (search rules) in
    let to = to_z-of_z w64 c.in-Ok.state.step (search rules) in
    let plan = replay_plan_view c.args.plan.now in
    let s = state_view c.in-Ok.state in
    let is : IsTextOf c.args.text.now s = record { fits = c.in-Ok.ensures.found.0; is = c.in-Ok.ensures.found.1 } in
    record {
      s = s;
      state_text' = is;
      it = (
        record {
          text = c.segment_line.result.items;
          shown = engine_line plan c.args.number c.args.engine.now c.compare.new.engine s
              c.in_ok-difference.difference c.step-from.result c.segment_line.result.items c.step-from.ensures
              (rw (from, to) at c.segment_line.ensures) (rw (from, to) at c.if-not-replays.ensures.is)
              c.in_ok-difference.ensures.compared c.in_ok-difference.ensures.at;
          beginning = subst (AppendsBeginning (g.O.Out.output c.args.out.now) (g.O.Out.output c.write_all.new.out))
              c.as_slice.ensures.value c.in-Err-write_all.ensures;
        },
        run_reported plan c.args.number c.args.engine.now c.args.text.now (g.O.Out.output c.args.out.now)
            (g.W.Watch.told c.args.watch.now c.compare.new.watch) s is
            (rw (from, to, c.step-from.ensures) at c.if-not-replays.ensures.is) c.in_ok-difference.ensures.reported,
      );
    }
