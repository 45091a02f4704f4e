use Rattle.std.proofs.Common.{rules}
use Rattle.engine.specs.EngineEnergies.{IsEnergyOfEngine}
use Rattle.engine.proofs.EngineForceLaws.{seen_energy}
use Rattle.engine.proofs.ObserverLaws.{code_of_observer}
use Rattle.engine.proofs.engines.Engine.energy.Goals as goal

pub energy-requires : goal.energy-requires
energy-requires g c =
    let i = c.self.inside in
    let is = rw (← c.self.view_is, ← c.observer-2.view_is) at c.in_ok-observer.ensures.observer in
    code_of_observer i.job i.state i.course.system.system c.self.invariant.system c.observer-2.inside.kernel is

pub returns-clause-value : goal.returns-clause-value
returns-clause-value g c =
    let i = c.self.inside in
    let is : IsEnergyOfEngine c.args.self.now c.in_ok-energy.field-0 =
    rw (← c.self.view_is) (seen_energy i.job i.state i.course c.self.invariant _ c.in_ok-energy.ensures.energy) in
    search rules
