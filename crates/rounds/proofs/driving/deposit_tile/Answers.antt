use Rattle.std.proofs.Common.{◌∙◌, ◌++◌, sym, subst, List}
use Rattle.rounds.specs.Tiles.{Addition, additions_of_all, tiles_of}
use Rattle.rounds.specs.Workers.{HasPending}
use Rattle.rounds.specs.Rule.{first_of}
use Rattle.rounds.proofs.OweLemmas.{row_owes, row_leads}
use Rattle.rounds.proofs.driving.deposit_tile.Goals as goal

pub deposit_pairs-requires-clause-next : goal.deposit_pairs-requires-clause-next
deposit_pairs-requires-clause-next g c =
    let now = c.loop-k.seat.me in
    let adds = g.W.RowWork.held c.next_adds-k.new.scratch in
    let row = c.next_adds-k.ensures.next in
    let owed = row_owes (g.W.Work.plan c.args.work.now) c.args.tile c.args.seat.now.me now c.loop-k.k c.next_adds-k.result adds c.requires.drawn row c.loop-k.invariant.1 in
    subst (λ w. (rest : List Addition) × HasPending (tiles_of (g.W.Work.plan w)) (first_of now.0) (additions_of_all adds ++ rest)) (sym c.requires.made.this) owed

pub loop-k-preserved : goal.loop-k-preserved
loop-k-preserved g c =
    let adds = g.W.RowWork.held c.next_adds-k.new.scratch in
    let row = c.next_adds-k.ensures.next in (
      c.deposit_pairs.ensures.table ∙ c.loop-k.invariant.0,
      row_leads (g.W.Work.plan c.args.work.now) c.args.tile c.args.seat.now.me c.loop-k.seat.me c.deposit_pairs.new.seat.me c.loop-k.k c.next_adds-k.result adds row c.loop-k.invariant.1 c.deposit_pairs.ensures.added,
    )
