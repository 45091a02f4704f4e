use Rattle.std.proofs.Common.{ap, length, subst, sym, ◌∙◌}
use Rattle.std.proofs.lemmas.Result.{IfOk-weaker}
use Rattle.pair_lists.specs.PairLists.{lists_of}
use Rattle.frame_sums.proofs.TileLaws.{frame_round, prepared_lists}
use Rattle.frame_sums.specs.Rounds.{AreForces}
use Rattle.frame_sums.proofs.safe_systems.SafeSystem.sums_pooled.Goals as goal

pub returns-clause-forces : goal.returns-clause-forces
returns-clause-forces g c =
    let y = c.prepare.new.self in
    let s = y.system in
    let frame = c.args.frame.now in
    let same = c.prepare.ensures.same in
    let atoms = c.requires ∙ (ap (λ t. length t.masses.items) (sym same) ∙ sym s.atoms) in
    IfOk-weaker c.sums.result _ _
    (λ sums totals.
    subst (λ t. AreForces t frame sums) same
    (frame_round s frame (lists_of y.lists) y.accepted (prepared_lists s frame y.lists y.ring y.reach c.in_ok-prepare.ensures.prepared) atoms sums totals))
    c.sums.ensures
