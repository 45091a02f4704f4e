use Rattle.std.proofs.Common.{◌≡◌, ap, length, subst, sym, ◌∙◌, rules, to_z, of_z}
use mir.Syntax.{w128}
use Rattle.pair_lists.specs.PairLists.{lists_of}
use Rattle.frame_sums.proofs.EnergyTileLaws.{energy_code}
use Rattle.frame_sums.proofs.FoundLaws.{energy_of_found}
use Rattle.frame_sums.proofs.TileLaws.{prepared_lists}
use Rattle.frame_sums.specs.SafeEnergies.{IsEnergyCode}
use Rattle.frame_sums.proofs.safe_systems.SafeSystem.energy.Goals as goal

pub add_all-requires-clause-own : goal.add_all-requires-clause-own
add_all-requires-clause-own g c =
    let k = c.args.kernel.now in
    subst (λ s. IsEnergyCode s k) (sym c.prepare.ensures.same)
    (energy_code c.args.self.now.system k c.requires.table c.requires.core c.requires.cutoff c.requires.gives c.requires.has)

pub returns : goal.returns
returns g c =
    let y = c.prepare.new.self in
    let k = c.args.kernel.now in
    let same = c.prepare.ensures.same in
    let sum = c.add_all.new.sum in
    let code = energy_code c.args.self.now.system k c.requires.table c.requires.core c.requires.cutoff c.requires.gives c.requires.has in
    let frame = c.args.frame.now in
    let listed = prepared_lists y.system frame y.lists y.ring y.reach c.in_ok-prepare.ensures.prepared in
    let told = energy_of_found y.system frame y.accepted (lists_of y.lists) listed
    (c.requires.atoms ∙ ap (λ s. length s.types.items) (sym same)) c.args.self.now.system same code.given sum c.add_all.ensures in
    let read : to_z w128 (of_z w128 sum) ≡ sum = search rules in
    record { energy = rw read told.0; small = rw read told.1; same = same }
