use Rattle.std.proofs.Common.{◌∙◌, slice_get, ap, arith, rules, vec_capacity}
use Rattle.rounds.specs.declared.events.Outcome.TheVariants.{Drew, Ended}
use Rattle.round_model.specs.declared.statuses.WorkerStatus.TheVariants.{Stopped}
use Rattle.rounds.specs.Interleaving.{on_claim}
use Rattle.round_model.specs.Statuses.{Progress}
use Rattle.round_model.proofs.StatusLemmas.{rests_at, adds_at, stands_adding, claim_busy, rest_of, has_room, drew_tile, drew_none, claim_sound, claims_so}
use Rattle.round_model.proofs.round.Round.claim.Goals as goal

pub push_reserved-requires : goal.push_reserved-requires
push_reserved-requires g c =
    let r = c.self.inside in
    let room = has_room (g.W.Work.plan r.work.now) (g.W.Work.atoms r.work.now) r.drawn.items (vec_capacity r.drawn) r.statuses.items r.sums.items c.args.worker c.self.invariant (rests_at _ (search rules)) in
    search rules

pub invariant_of-self : goal.invariant_of-self
invariant_of-self g c =
    let r = c.self.inside in
    let plan = g.W.Work.plan r.work.now in
    let drew = drew_tile plan r.drawn.items c.len-ticket.result c.status_from.result (search rules) (omega (arith, c.if-ticket-tiles.true, c.tiles.ensures)) c.status_from.ensures.stage in
    claim_sound plan (g.W.Work.atoms r.work.now) r.drawn.items c.push_reserved.new.self.items (vec_capacity r.drawn) (vec_capacity c.push_reserved.new.self) r.statuses.items r.sums.items c.args.worker c.status_from.result
    c.self.invariant (rests_at _ (search rules)) c.status_from.ensures.status c.push_reserved.ensures.items c.push_reserved.ensures.capacity drew.0

pub invariant_of-self-else-ticket-tiles : goal.invariant_of-self-else-ticket-tiles
invariant_of-self-else-ticket-tiles g c =
    let r = c.self.inside in
    let plan = g.W.Work.plan r.work.now in
    let drew = drew_none plan r.drawn.items (search rules) in
    claim_sound plan (g.W.Work.atoms r.work.now) r.drawn.items c.push_reserved.new.self.items (vec_capacity r.drawn) (vec_capacity c.push_reserved.new.self) r.statuses.items r.sums.items c.args.worker Stopped
    c.self.invariant (rests_at _ (search rules)) tt c.push_reserved.ensures.items c.push_reserved.ensures.capacity drew.0

pub returns-in-Some-clause-event : goal.returns-in-Some-clause-event
returns-in-Some-clause-event g c =
    let r = c.self.inside in
    let plan = g.W.Work.plan r.work.now in
    let task = c.in-Some.field-0 in
    let stages = stands_adding plan (g.W.Work.atoms r.work.now) r.drawn.items (vec_capacity r.drawn) r.statuses.items r.sums.items c.args.worker task c.self.invariant (adds_at _ task (search rules)) in
    claim_busy plan c.args.self.now r.drawn.items r.statuses.items r.sums.items c.args.worker stages.0 (rest_of plan task) c.self.view_is stages.1

pub returns-then-ticket-tiles-clause-event : goal.returns-then-ticket-tiles-clause-event
returns-then-ticket-tiles-clause-event g c =
    let r = c.self.inside in
    let plan = g.W.Work.plan r.work.now in
    let drew = drew_tile plan r.drawn.items c.len-ticket.result c.status_from.result (search rules) (omega (arith, c.if-ticket-tiles.true, c.tiles.ensures)) c.status_from.ensures.stage in
    claims_so plan r.drawn.items c.push_reserved.new.self.items r.statuses.items r.sums.items c.args.worker c.status_from.result (Drew c.len-ticket.result)
    c.push_reserved.ensures.items (rests_at _ (search rules)) drew.0 drew.1
    ∙ ap (λ (v : Progress). on_claim v.tiles v.state c.args.worker (slice_get v.state.stages c.args.worker)) c.self.view_is

pub returns-else-ticket-tiles-clause-event : goal.returns-else-ticket-tiles-clause-event
returns-else-ticket-tiles-clause-event g c =
    let r = c.self.inside in
    let plan = g.W.Work.plan r.work.now in
    let drew = drew_none plan r.drawn.items (search rules) in
    claims_so plan r.drawn.items c.push_reserved.new.self.items r.statuses.items r.sums.items c.args.worker Stopped Ended
    c.push_reserved.ensures.items (rests_at _ (search rules)) drew.0 drew.1
    ∙ ap (λ (v : Progress). on_claim v.tiles v.state c.args.worker (slice_get v.state.stages c.args.worker)) c.self.view_is
