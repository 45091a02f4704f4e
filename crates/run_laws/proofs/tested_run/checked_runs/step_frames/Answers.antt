use Rattle.std.proofs.lemmas.Result.{on_ok_weaker, MatchResult-weaker}
use Rattle.integrator.specs.Systems.{dynamics_of}
use Rattle.integrator.proofs.MotionLaws.{back_from_forward}
use Rattle.run_laws.specs.Stops.{faults_of}
use Rattle.run_laws.proofs.StopLaws.{stops_exchanged}
use Rattle.run_laws.proofs.tested_run.checked_runs.step_frames.Goals as goal

pub returns-in-Back-clause-value : goal.returns-in-Back-clause-value
returns-in-Back-clause-value g c =
    let d = dynamics_of g.K.TestedSlope.slope c.args.system.now in
    rw c.in-Back.is
    (on_ok_weaker c.make_steps-in-Back.result
    (back_from_forward d c.args.steps c.args.previous.now.items c.args.current.now.items c.make_steps-in-Back.new.middle.items c.make_steps-in-Back.new.before.items)
    c.make_steps-in-Back.ensures.value)

pub returns-in-Back-clause-fault : goal.returns-in-Back-clause-fault
returns-in-Back-clause-fault g c =
    let d = dynamics_of g.K.TestedSlope.slope c.args.system.now in
    rw c.in-Back.is
    (MatchResult-weaker c.make_steps-in-Back.result c.make_steps-in-Back.ensures.fault (λ x h. h)
    (λ s h. stops_exchanged d (faults_of g.K.TestedSlope.fault c.args.system.now) c.args.steps c.args.previous.now.items c.args.current.now.items s.done (s.pair.low, s.pair.high) s.pair.fault h))
