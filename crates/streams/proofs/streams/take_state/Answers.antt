use Rattle.std.proofs.lemmas.Result.{IfErr-weaker, on_ok_weaker}
use Rattle.engine.specs.RunSpecification.{IsTextOf}
use Rattle.state.specs.StateViews.{state_view}
use Rattle.streams.proofs.StreamLaws.{not_taken}
use Rattle.streams.proofs.streams.take_state.Goals as goal

pub returns-in-Ok-clause-taken : goal.returns-in-Ok-clause-taken
returns-in-Ok-clause-taken g c =
    let found = c.in-Ok.ensures.found in
    on_ok_weaker c.take.result
    (λ is. record { s = state_view c.in-Ok.state; state_text' = record { fits = found.0; is = found.1 }; is = is }) c.take.ensures.taken

-- the state can't be run under the job
pub returns-in-Ok-clause-refused : goal.returns-in-Ok-clause-refused
returns-in-Ok-clause-refused g c =
    let found = c.in-Ok.ensures.found in
    let is : IsTextOf c.args.text.now (state_view c.in-Ok.state) = record { fits = found.0; is = found.1 } in
    IfErr-weaker c.take.result _ _
    (not_taken c.args.engine.now.job c.args.text.now c.args.number (state_view c.in-Ok.state) is) c.take.ensures.refused
