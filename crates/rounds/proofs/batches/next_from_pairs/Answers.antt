use Rattle.std.proofs.Common.{◌≡◌, ◌++◌, ◌∷◌, [], length, Some, None, ap, subst, sym, ◌∙◌, append-nil, arith, All}
use Rattle.std.proofs.lemmas.List.Elements.{All-push}
use Rattle.rounds.specs.Tiles.{pairs_at, IsPairOf}
use Rattle.rounds.proofs.ActingLemmas.{acts_on}
use Rattle.rounds.proofs.batches.next_from_pairs.Goals as goal
use Rattle.rounds.proofs.batches.next_from_pairs.Goals.{in-Some, in-None}

pub loop-number-preserved : goal.loop-number-preserved
loop-number-preserved g c =
    let pairs = pairs_at (g.W.Work.plan c.args.work.now) c.args.tile in
    let inv = c.loop-number.invariant in
    let found = c.loop-number.adds.items in
    elim c.match-pair.branch [
      | in-Some w ↦
          let next : c.match-pair.adds.items ≡ found ++ w.in-Some.add ∷ [] = cc in
          let here = c.pair.ensures.planned ∙ ap Some w.in-Some.is in (
            omega (arith, inv.0, w.push.ensures.len, ap (λ xs. length xs.items) w.adds-is),
            acts_on pairs c.args.k c.loop-number.number found c.match-pair.adds.items (Some w.in-Some.add) inv.1 here next,
            subst (All (IsPairOf (g.W.Work.atoms c.args.work.now))) (sym next) (All-push (IsPairOf (g.W.Work.atoms c.args.work.now)) found w.in-Some.add inv.2 w.in-Some.ensures.atoms),
          )
      | in-None w ↦
          let here = c.pair.ensures.planned ∙ ap Some w.in-None.is in
          rw w.adds-is (omega (arith, inv.0), acts_on pairs c.args.k c.loop-number.number found found None inv.1 here (sym (append-nil found)), inv.2)
    ]
