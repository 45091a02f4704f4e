-- there is an observer of the engine
use Rattle.std.proofs.Common.{◌≡◌, rules}
use Rattle.runs.proofs.ReadinessLaws.{ready_observes, ready_some}
use Rattle.streams.specs.Texts.{HasEnergies, IsQuantity, energy_line}
use Rattle.streams.specs.declared.quantities.Quantity.TheVariants.{Energy}
use Rattle.streams.proofs.quantities.quantity_lines.Goals as goal

pub observer-requires : goal.observer-requires
observer-requires g c =
    ready_some (HasEnergies c.args.quantity) c.args.observer.now c.args.engine.now c.requires (rw c.in-Energy.is tt)

pub observe-requires : goal.observe-requires
observe-requires g c =
    ready_observes (HasEnergies c.args.quantity) c.args.observer.now c.args.engine.now c.observer.result.now c.requires (rw c.in-Energy.is tt)
    c.observer.ensures

-- the line of the energy
pub returns-in_ok-energy_line-in-Energy-clause-lines : goal.returns-in_ok-energy_line-in-Energy-clause-lines
returns-in_ok-energy_line-in-Energy-clause-lines g c =
    let energy = c.in_ok-totals-in-Energy.totals.energy in
    let line : c.into_bytes.result.items ≡ energy_line energy = search rules in
    let is : IsQuantity Energy c.args.engine.now c.into_bytes.result.items = (energy, c.in_ok-totals-in-Energy.ensures.totals.energy, line) in
    rw c.in-Energy.is is
