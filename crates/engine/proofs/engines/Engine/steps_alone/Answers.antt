use Rattle.std.proofs.Common.{arith, rules}
use Rattle.engine.specs.Counting.{AllFit}
use Rattle.engine.proofs.CourseLaws.{ran_engine, ran_sizes, ran_steps}
use Rattle.engine.proofs.engines.Engine.steps_alone.Goals as goal
use Rattle.engine.proofs.engines.Engine.steps_alone.Goals.{in-Ok, in-Err}

pub run_alone-made-requires : goal.run_alone-made-requires
run_alone-made-requires g c =
    let all : AllFit c.args.direction c.args.self.now.state.step c.args.steps = search rules in
    rw c.self.invariant.step (rw (← c.self.view_is) at all)

pub arrive-requires : goal.arrive-requires
arrive-requires g c =
    let sizes = ran_sizes c.args.direction c.args.steps _ _ _ c.run_alone-made.new.self c.self.invariant c.run_alone-made.result c.run_alone-made.ensures in
    record { previous = sizes.0; current = sizes.1 }

pub invariant_of-self : goal.invariant_of-self
invariant_of-self g c =
    ran_engine c.args.direction c.args.steps _ _ _ c.run_alone-made.new.self c.self.invariant c.run_alone-made.result c.run_alone-made.ensures
    c.arrive.new.state c.arrive.ensures.value c.arrive.ensures.ring c.arrive.ensures.atoms

pub returns-clause-went : goal.returns-clause-went
returns-clause-went g c =
    let i = c.self.inside in
    let ran = ran_steps c.args.direction c.args.steps i.job i.state c.arrive.new.state i.course c.run_alone-made.new.self c.run_alone-made.result c.self.invariant c.arrive.ensures.value c.run_alone-made.ensures in
    elim c.match-made.branch [
      | in-Ok w ↦ rw w.result-is (rw (← c.self.view_is) (rw w.in-Ok.is at ran))
      | in-Err w ↦ rw w.result-is tt
    ]

pub returns-clause-stopped : goal.returns-clause-stopped
returns-clause-stopped g c =
    let all : AllFit c.args.direction c.args.self.now.state.step c.args.steps = search rules in
    let i = c.self.inside in
    let ran = ran_steps c.args.direction c.args.steps i.job i.state c.arrive.new.state i.course c.run_alone-made.new.self c.run_alone-made.result c.self.invariant c.arrive.ensures.value c.run_alone-made.ensures in
    elim c.match-made.branch [
      | in-Ok w ↦ rw w.result-is tt
      | in-Err w ↦
          (let part = rw w.in-Err.is at ran in
          rw w.result-is (omega (arith, part.0), (λ _. all c.args.steps (omega arith)), rw (← c.self.view_is) part.1))
    ]
