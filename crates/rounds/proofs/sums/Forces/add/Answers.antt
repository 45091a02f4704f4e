use Rattle.std.proofs.Common.{◌≡◌, ◌∙◌, Some, ap, arith, drop, length, subst, sym, take_at}
use Rattle.rounds.specs.Tiles.{additions_of}
use Rattle.rounds.specs.Totals.{GoesOn}
use Rattle.rounds.proofs.sums.Forces.add.Goals as goal

pub returns : goal.returns
returns g c =
    let sums = c.self.inside.sums in
    let new = c.add_pair.new.sums in
    let xs = additions_of (Some c.args.add.now) in
    let goes : GoesOn c.args.self.now xs new = subst (λ s. GoesOn s xs new) (c.as_mut_slice.ensures.value ∙ c.self.view_is) c.add_pair.ensures in
    let len : length new ≡ sums.len = omega (arith, c.add_pair.ensures.0, ap length c.as_mut_slice.ensures.value, sums.ok.0) in
    subst (GoesOn c.args.self.now xs) (sym (take_at new (drop (length new) sums.items) sums.len len)) goes
