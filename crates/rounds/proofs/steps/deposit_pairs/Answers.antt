use Rattle.std.proofs.Common.{◌++◌, ◌∙◌, ap, drop, List, Some, suc, sym, take}
use Rattle.rounds.specs.Tiles.{Addition, additions_of, additions_of_all, tiles_of}
use Rattle.rounds.specs.Workers.{added}
use Rattle.rounds.specs.Rule.{alone, first_of}
use Rattle.rounds.proofs.OweLemmas.{added_on, pair_owes}
use Rattle.rounds.proofs.TakeLemmas.{adds_next}
use Rattle.rounds.proofs.steps.deposit_pairs.Goals as goal

pub deposit_pair-requires-clause-next : goal.deposit_pair-requires-clause-next
deposit_pair-requires-clause-next g c =
    let adds = g.W.RowWork.held c.args.scratch.now in
    let k = c.loop-k.k in
    let add = c.add_at.result in
    let rest = c.requires.next.0 in (
      additions_of_all (drop (suc k) adds) ++ rest,
      pair_owes adds c.args.seat.now.me (tiles_of (g.W.Work.plan c.args.table.now.key.work.value)) c.loop-k.seat.me k add rest c.requires.next.1 c.add_at.ensures c.loop-k.invariant.1,
    )

pub loop-k-preserved : goal.loop-k-preserved
loop-k-preserved g c =
    let adds = g.W.RowWork.held c.args.scratch.now in
    let me = c.args.seat.now.me in
    let k = c.loop-k.k in
    let add = c.add_at.result in (
      c.deposit_pair.ensures.table ∙ c.loop-k.invariant.0,
      added_on me c.loop-k.seat.me c.deposit_pair.new.seat.me (additions_of_all (take k adds)) (additions_of (Some add)) c.loop-k.invariant.1 c.deposit_pair.ensures.added
          ∙ ap (λ (xs : List Addition). alone (added (first_of me.0) xs)) (sym (adds_next adds k add c.add_at.ensures)),
    )
