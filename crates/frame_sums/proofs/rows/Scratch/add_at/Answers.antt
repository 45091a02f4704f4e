use Rattle.std.proofs.Common.{ℕ, ◌∙◌, Some, ap, arith, sym}
use Rattle.ring_box.specs.PairForces.{force_in}
use Rattle.frame_sums.proofs.RowLaws.{add_in_lane, adds_length, pair_at, same_atoms}
use Rattle.frame_sums.specs.Rounds.{pair_add}
use Rattle.frame_sums.proofs.rows.Scratch.add_at.Goals as goal

pub atoms-low-requires : goal.atoms-low-requires
atoms-low-requires g c = omega (arith, c.requires, adds_length 0 c.args.self.now.found.pairs c.args.self.now.forces)

pub returns : goal.returns
returns g c =
    let found = c.args.self.now.found.pairs in
    let forces = c.args.self.now.forces in
    let l = c.args.l in
    let atoms = c.atoms-low.result in
    let here = pair_at found l atoms c.atoms-low.ensures.value in
    let same = same_atoms found l here.0 atoms here.1 c.atoms-low.ensures.value in
    add_in_lane found forces l here.0 here.1
    ∙ ap Some (ap (λ (p : ℕ × ℕ). pair_add p.0 p.1 (force_in forces l)) same ∙ (ap (pair_add atoms.0 atoms.1) (sym c.force.ensures) ∙ sym c.added.ensures))
