use Rattle.std.proofs.Common.{◌≡◌, ◌^◌, ◌<◌, ap, arith, length, subst, sym, unsigned_abs, ◌∙◌, rules, to_z, of_z}
use mir.Syntax.{w128}
use Rattle.pair_lists.specs.PairLists.{lists_of}
use Rattle.frame_sums.proofs.EnergyTileLaws.{energy_code}
use Rattle.frame_sums.proofs.FoundLaws.{energy_of_found, forces_of_found}
use Rattle.frame_sums.proofs.FrameSumLaws.{sums_bounded, totals_of_found}
use Rattle.frame_sums.proofs.TileLaws.{prepared_lists}
use Rattle.frame_sums.specs.Rounds.{AreForces}
use Rattle.frame_sums.specs.SafeEnergies.{IsEnergyCode, safe_value}
use Rattle.frame_sums.proofs.safe_systems.SafeSystem.observe.Goals as goal

pub add_all-requires-clause-own : goal.add_all-requires-clause-own
add_all-requires-clause-own g c =
    let k = c.args.kernel.now in
    let code = energy_code c.args.self.now.system k c.requires.table c.requires.core c.requires.cutoff c.requires.gives c.requires.has in
    (subst (λ s. IsEnergyCode s k) (sym c.prepare.ensures.same) code, (tt, c.requires.atoms ∙ ap (λ s. length s.types.items) (sym c.prepare.ensures.same)))

pub invariant_of-totals : goal.invariant_of-totals
invariant_of-totals g c =
    let y = c.prepare.new.self in
    let frame = c.args.frame.now in
    let k = c.args.kernel.now in
    let same = c.prepare.ensures.same in
    let energy = c.add_all.new.sum.0 in
    let lists = lists_of y.lists in
    let listed = prepared_lists y.system frame y.lists y.ring y.reach c.in_ok-prepare.ensures.prepared in
    let atoms = c.requires.atoms ∙ ap (λ s. length s.types.items) (sym same) in
    let code = energy_code c.args.self.now.system k c.requires.table c.requires.core c.requires.cutoff c.requires.gives c.requires.has in
    let told = energy_of_found y.system frame y.accepted lists listed atoms c.args.self.now.system same code.given energy c.add_all.ensures.0 in
    let read : to_z w128 (of_z w128 energy) ≡ energy = search rules in
    let small : unsigned_abs energy < 2 ^ 100 = omega (arith, told.1) in
    record {
      small_energy = rw read small;
      small_sums = sums_bounded y.system y.accepted frame lists listed atoms _ c.add_all.ensures.1.1;
    }

pub returns : goal.returns
returns g c =
    let y = c.prepare.new.self in
    let frame = c.args.frame.now in
    let k = c.args.kernel.now in
    let same = c.prepare.ensures.same in
    let energy = c.add_all.new.sum.0 in
    let lists = lists_of y.lists in
    let listed = prepared_lists y.system frame y.lists y.ring y.reach c.in_ok-prepare.ensures.prepared in
    let atoms = c.requires.atoms ∙ ap (λ s. length s.types.items) (sym same) in
    let code = energy_code c.args.self.now.system k c.requires.table c.requires.core c.requires.cutoff c.requires.gives c.requires.has in
    let told = energy_of_found y.system frame y.accepted lists listed atoms c.args.self.now.system same code.given energy c.add_all.ensures.0 in
    let read : to_z w128 (of_z w128 energy) ≡ energy = search rules in
    let forces = forces_of_found y.system frame y.accepted lists listed atoms c.add_all.new.sum.1.0 c.add_all.ensures.1.0 in
    record {
      totals = totals_of_found y.system y.accepted frame lists listed atoms c.args.self.now.system same (safe_value c.args.self.now.system)
          _ c.add_all.ensures.1.1 (rw read told.0);
      forces = subst (λ s. AreForces s frame c.add_all.new.sum.1.0) same forces;
      same = same;
    }
