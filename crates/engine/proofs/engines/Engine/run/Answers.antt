use Rattle.std.proofs.lemmas.Result.{MatchResult-weaker}
use Rattle.state.specs.StateViews.{state_view}
use Rattle.state.proofs.StateFits.{state_fits}
use Rattle.engine.proofs.EngineLaws.{each_fits, step_fits}
use Rattle.engine.proofs.CourseLaws.{ran_engine, ran_sizes, ran_steps}
use Rattle.engine.proofs.engines.Engine.run.Goals as goal

pub run-made-requires-after_bounds : goal.run-made-requires-after_bounds
run-made-requires-after_bounds g c = λ κs bounds.
    let s = c.self.inside.state in
    rw c.self.invariant.step (each_fits c.args.direction s.step c.args.steps (step_fits (state_view s) (state_fits s)) (rw (← c.self.view_is) at c.requires))

pub arrive-requires : goal.arrive-requires
arrive-requires g c =
    let sizes = ran_sizes c.args.direction c.args.steps _ _ _ c.run-made.new.self c.self.invariant c.run-made.result c.run-made.ensures in
    record { previous = sizes.0; current = sizes.1 }

pub invariant_of-self : goal.invariant_of-self
invariant_of-self g c =
    ran_engine c.args.direction c.args.steps _ _ _ c.run-made.new.self c.self.invariant c.run-made.result c.run-made.ensures
    c.arrive.new.state c.arrive.ensures.value c.arrive.ensures.ring c.arrive.ensures.atoms

pub returns-clause-went : goal.returns-clause-went
returns-clause-went g c =
    let i = c.self.inside in
    rw (← c.self.view_is)
    (MatchResult-weaker c.run-made.result (ran_steps c.args.direction c.args.steps i.job i.state c.arrive.new.state i.course c.run-made.new.self c.run-made.result c.self.invariant c.arrive.ensures.value c.run-made.ensures) (λ _ went. went) (λ _ _. tt))

pub returns-clause-stopped : goal.returns-clause-stopped
returns-clause-stopped g c =
    let i = c.self.inside in
    rw (← c.self.view_is)
    (MatchResult-weaker c.run-made.result (ran_steps c.args.direction c.args.steps i.job i.state c.arrive.new.state i.course c.run-made.new.self c.run-made.result c.self.invariant c.arrive.ensures.value c.run-made.ensures) (λ _ _. tt) (λ _ stopped. stopped))
