use Rattle.std.proofs.Common.{rules}
use Rattle.std.proofs.lemmas.Result.{IfErr-weaker, IfOk-weaker}
use Rattle.job.specs.Views.{job_value}
use Rattle.state.specs.StateViews.{state_view}
use Rattle.engine.specs.Engines.{HasNoEngineOfTexts}
use Rattle.engine.specs.declared.faults.InputFault.TheVariants as input
use Rattle.engine.proofs.EngineLaws.{handed_on, of_texts, texts_fail}
use Rattle.engine.proofs.engine_runs.open.Goals as goal

pub returns-in-Err-clause-refused : goal.returns-in-Err-clause-refused
returns-in-Err-clause-refused g c =
    handed_on _ input.Job c.in-Err.failure _ _ (HasNoEngineOfTexts c.args.job.now c.args.state.now) c.refused_as-in-Err.ensures (λ f t b. search rules)
    c.in-Err.ensures.fault (λ f h. h)

pub returns-in-Err-read-clause-refused : goal.returns-in-Err-read-clause-refused
returns-in-Err-read-clause-refused g c =
    handed_on _ input.State c.in-Err-read.failure _ _ (HasNoEngineOfTexts c.args.job.now c.args.state.now) c.refused_as.ensures (λ f t b. search rules)
    c.in-Err-read.ensures.fault (λ f h. (job_value c.in-Ok.job, c.in-Ok.ensures.job, h))

pub returns-in-Ok-read-clause-refused : goal.returns-in-Ok-read-clause-refused
returns-in-Ok-read-clause-refused g c =
    let found = c.in-Ok-read.ensures.found in
    IfErr-weaker c.new.result _ _
    (texts_fail c.args.job.now c.args.state.now (job_value c.in-Ok.job) (state_view c.in-Ok-read.state) c.in-Ok.ensures.job
    (record { fits = found.0; is = found.1 })) c.new.ensures.refused

-- the job's text is read, and its energy's, in one way
pub returns-in-Ok-read-clause-once : goal.returns-in-Ok-read-clause-once
returns-in-Ok-read-clause-once g c =
    let found = c.in-Ok-read.ensures.found in
    let job = c.in-Ok.ensures.job in
    IfOk-weaker c.new.result _ _
    (λ _ says. of_texts (job_value c.in-Ok.job) (state_view c.in-Ok-read.state) job (record { fits = found.0; is = found.1 }) (job.say.apart, says)) c.new.ensures.says

-- the engine is the engine of both texts
pub returns-in-Ok-read-clause-opens : goal.returns-in-Ok-read-clause-opens
returns-in-Ok-read-clause-opens g c =
    let found = c.in-Ok-read.ensures.found in
    IfOk-weaker c.new.result _ _
    (λ _ is. of_texts (job_value c.in-Ok.job) (state_view c.in-Ok-read.state) c.in-Ok.ensures.job (record { fits = found.0; is = found.1 }) is) c.new.ensures.engine
