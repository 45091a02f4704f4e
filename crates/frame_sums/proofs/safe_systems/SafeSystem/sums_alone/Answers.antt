use Rattle.std.proofs.Common.{ap, length, subst, sym, ◌∙◌}
use Rattle.pair_lists.specs.PairLists.{lists_of}
use Rattle.frame_sums.proofs.FoundLaws.{forces_of_found}
use Rattle.frame_sums.proofs.TileLaws.{prepared_lists}
use Rattle.frame_sums.specs.Rounds.{AreForces}
use Rattle.frame_sums.proofs.safe_systems.SafeSystem.sums_alone.Goals as goal

pub returns-clause-forces : goal.returns-clause-forces
returns-clause-forces g c =
    let y = c.prepare.new.self in
    let frame = c.args.frame.now in
    let same = c.prepare.ensures.same in
    let atoms = c.requires ∙ (ap (λ t. length t.masses.items) (sym same) ∙ sym y.system.atoms) in
    subst (λ s. AreForces s frame c.add_all.new.sum) same
    (forces_of_found y.system frame y.accepted (lists_of y.lists) (prepared_lists y.system frame y.lists y.ring y.reach c.in_ok-prepare.ensures.prepared) atoms c.add_all.new.sum c.add_all.ensures)
