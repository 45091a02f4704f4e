use Rattle.std.proofs.Common.{◌≡◌, ◌*◌, pos, ap, replicate, arith, rules, vec_capacity}
use Rattle.rounds.specs.Tiles.{tiles_of}
use Rattle.rounds.specs.Interleaving.{State}
use Rattle.round_model.specs.Statuses.{Progress}
use Rattle.round_model.specs.declared.statuses.WorkerStatus.TheVariants.{Resting}
use Rattle.round_model.proofs.StatusLemmas.{opens_so, opening_sound}
use Rattle.round_model.proofs.round.Round.new.Goals as goal

pub invariant_of-result : goal.invariant_of-result
invariant_of-result g c =
    let plan = g.W.Work.plan c.args.work.now in
    let statuses : c.in_ok-statuses.statuses.items ≡ replicate c.args.workers Resting = c.in_ok-statuses.ensures.items_if_clones_equal (search rules) in
    let sums : c.in_ok-sums.sums.items ≡ replicate (3 * c.args.atoms) (pos 0) = c.in_ok-sums.ensures.items_if_clones_equal (λ y e. e) in
    opening_sound plan (g.W.Work.atoms c.args.work.now) c.args.workers (3 * c.args.atoms) (vec_capacity c.in_ok-drawn.drawn) c.in_ok-drawn.drawn.items c.in_ok-statuses.statuses.items c.in_ok-sums.sums.items
    c.in_ok-drawn.ensures.items statuses sums (omega (arith, c.requires.atoms)) (let room = c.in_ok-drawn.ensures.capacity in omega (arith, c.tiles.ensures))

pub returns : goal.returns
returns g c =
    let plan = g.W.Work.plan c.args.work.now in
    let statuses : c.in_ok-statuses.statuses.items ≡ replicate c.args.workers Resting = c.in_ok-statuses.ensures.items_if_clones_equal (search rules) in
    let sums : c.in_ok-sums.sums.items ≡ replicate (3 * c.args.atoms) (pos 0) = c.in_ok-sums.ensures.items_if_clones_equal (λ y e. e) in
    record {
      opens = ap (λ (s : State). let v : Progress = record { tiles = tiles_of plan; state = s } in v) (opens_so plan (g.W.Work.atoms c.args.work.now) c.args.workers (3 * c.args.atoms) (vec_capacity c.in_ok-drawn.drawn) c.in_ok-drawn.drawn.items c.in_ok-statuses.statuses.items c.in_ok-sums.sums.items c.in_ok-drawn.ensures.items statuses sums);
    }
