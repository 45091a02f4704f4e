use Rattle.std.proofs.Common.{◌∙◌, slice_get, ap, arith, rules, length-set, vec_capacity}
use Rattle.std.specs.Int.{w64, cast_signed, cast_unsigned}
use Rattle.rounds.specs.Interleaving.{on_deposit}
use Rattle.round_model.specs.Statuses.{Progress}
use Rattle.round_model.proofs.StatusLemmas.{deposit_idle, rests_at, adds_at, is_task, has_sum, stored_added, stored_signed, deposit_sound, deposits_so}
use Rattle.round_model.proofs.round.Round.deposit.Goals as goal

pub addition-entry-requires : goal.addition-entry-requires
addition-entry-requires g c = (is_task c.self.invariant c.args.worker c.in-Some.task (search rules)).part

pub index-requires : goal.index-requires
index-requires g c =
    omega (arith, has_sum c.self.invariant c.args.worker c.in-Some.task (search rules) c.addition-entry.result c.addition-entry.ensures, c.self.inside.sums.ok.0)

pub index_mut-requires : goal.index_mut-requires
index_mut-requires g c =
    omega (arith, has_sum c.self.invariant c.args.worker c.in-Some.task (search rules) c.addition-entry.result c.addition-entry.ensures, c.self.inside.sums.ok.0)

pub after-requires : goal.after-requires
after-requires g c = is_task c.self.invariant c.args.worker c.in-Some.task (search rules)

pub invariant_of-self : goal.invariant_of-self
invariant_of-self g c =
    let r = c.self.inside in
    let task = c.in-Some.task in
    let a = c.addition-entry.result in
    let has = has_sum c.self.invariant c.args.worker task (search rules) a c.addition-entry.ensures in
    deposit_sound (g.W.Work.plan r.work.now) (g.W.Work.atoms r.work.now) r.drawn.items (vec_capacity r.drawn) r.statuses.items r.sums.items _ c.args.worker task c.after.result a
    c.self.invariant (adds_at _ task (search rules)) c.after.ensures.status c.addition-entry.ensures c.after.ensures.stage (length-set r.sums.items a.0 (cast_signed w64 (cast_unsigned w64 c.cast_signed.result)))
    (stored_signed r.sums.items a.0 a.1 c.cast_unsigned.result c.index.result.now c.cast_signed.result has c.index.ensures c.self.invariant.signed c.cast_unsigned.ensures c.cast_signed.ensures)

pub returns-in-None-clause-event : goal.returns-in-None-clause-event
returns-in-None-clause-event g c =
    let r = c.self.inside in
    deposit_idle (g.W.Work.plan r.work.now) c.args.self.now r.drawn.items r.statuses.items r.sums.items c.args.worker c.self.view_is (rests_at _ (search rules))

pub returns-in-Some-clause-event : goal.returns-in-Some-clause-event
returns-in-Some-clause-event g c =
    let r = c.self.inside in
    let task = c.in-Some.task in
    let a = c.addition-entry.result in
    let has = has_sum c.self.invariant c.args.worker task (search rules) a c.addition-entry.ensures in
    deposits_so (g.W.Work.plan r.work.now) r.drawn.items r.statuses.items r.sums.items _ c.args.worker task c.after.result a
    (adds_at _ task (search rules)) c.addition-entry.ensures c.after.ensures.stage
    (stored_added r.sums.items a.0 a.1 c.cast_unsigned.result c.index.result.now c.cast_signed.result has c.index.ensures c.self.invariant.signed c.cast_unsigned.ensures c.cast_signed.ensures)
    ∙ ap (λ (v : Progress). on_deposit v.tiles v.state c.args.worker (slice_get v.state.stages c.args.worker)) c.self.view_is

pub overflow_add-result : goal.overflow_add-result
overflow_add-result g c =
    omega (arith, has_sum c.self.invariant c.args.worker c.in-Some.task (search rules) c.addition-entry.result c.addition-entry.ensures, c.self.inside.sums.ok.0)
