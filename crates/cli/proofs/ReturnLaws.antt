-- `pairmd back` accepts the output of `pairmd run`, and the other way round.
use Rattle.std.proofs.Common.{◌≡◌, ◌⊎◌, ◌∙◌, ◌<◌, ℕ, List, ◌++◌, Some, ap, inl, inr, subst, sym}
use Rattle.std.proofs.lemmas.List.{append_cancel_left}
use Rattle.command_line.specs.Commands as command
use Rattle.command_line.specs.Commands.{RunView}
use Rattle.command_line.proofs.OneCommand.{no_help, no_version, one_command}
use Rattle.engine.specs.Engines.{AreSafe}
use Rattle.engine.specs.RunSpecification.{IsLevesqueVerletRun, WroteLevesqueVerletRun}
use Rattle.engine.proofs.SpecifiedRuns.{leads_back}
use Rattle.engine.proofs.SafeRuns.{runs_stay_safe}
use Rattle.integrator.specs.Frames.{opposite}
use Rattle.integrator.specs.declared.direction.Direction.{Direction}
use Rattle.fallible.specs.Out.{Appends, Output, appended}
use Rattle.cli.specs.Actions.{Held, OfKnownTask, OfTask, Paths}
use Rattle.cli.specs.Command.{HasOutput, HasPrinted, IsDone, IsNotRefused}
use Rattle.cli.specs.CommandLaws.{NamesRun, PrintedRunsReturn}
use Rattle.cli.proofs.FileLaws.{given}

-- the output of a run of known files
run_printed : (held : Held) (run : RunView) (job state : List ℕ) (w : Direction) (n : ℕ) (out out' : Output) → run.direction ≡ w
    → run.steps ≡ n → held run.job ≡ Some job → held run.state ≡ Some state
    → OfTask held (command.Run run) (λ task. HasPrinted task out out') → AreSafe job state × WroteLevesqueVerletRun job state w n out out'
run_printed held run job state w n out out' way count known known' (a, a_is, (b, b_is, printed)) =
    rw (way, count, given held run.job a job known a_is, given held run.state b state known' b_is) at printed

-- If arguments name a run and the command succeeded, its output is a run of the texts in the named files.
printed_run : (words : List (List ℕ)) (held : Held) (requested requested' : Paths) (out out' : Output) (job state : List ℕ) (w : Direction) (n : ℕ) → NamesRun words held job state w n
    → IsDone words held requested requested' out out' → AreSafe job state × WroteLevesqueVerletRun job state w n out out'
printed_run words held requested requested' out out' job state w n names (inl help) = absurd (no_help words (command.Run names.run) names.named help.0)
printed_run words held requested requested' out out' job state w n names (inr (inl version)) = absurd (no_version words (command.Run names.run) names.named version.0)
printed_run words held requested requested' out out' job state w n names (inr (inr (c, named, all, printed))) =
    let one = one_command words (command.Run names.run) c names.named named in
    run_printed held names.run job state w n out out' names.way names.count names.job_held names.state_held
    (subst (λ d. OfTask held d (λ task. HasPrinted task out out')) one printed)

-- if an output's bytes are known before and after, the appended text is the text that it accepted
one_taken : (before after : Output) (bytes text other : List ℕ) → before.taken ≡ Some bytes → after.taken ≡ Some (bytes ++ text) → Appends before after other → other ≡ text
one_taken before after bytes text other taken taken' appends =
    let all : Some (bytes ++ other) ≡ Some (bytes ++ text) = sym (appends.taken ∙ ap (λ t. appended t other) taken) ∙ taken' in
    let same : bytes ++ other ≡ bytes ++ text = cc in
    append_cancel_left bytes other text same

-- a run that is named, and that there is, is an output of its command
run_output : (words : List (List ℕ)) (held : Held) (job state : List ℕ) (w : Direction) (n : ℕ) (text : List ℕ)
    (names : NamesRun words held job state w n) → IsLevesqueVerletRun job state w n text → AreSafe job state
    → OfKnownTask held (command.Run names.run) HasOutput
run_output words held job state w n text names is safe =
    let counted = subst (λ k. IsLevesqueVerletRun job state w k text) (sym names.count) is in
    let run = subst (λ d. IsLevesqueVerletRun job state d names.run.steps text) (sym names.way) counted in
    (job, names.job_held, (state, names.state_held, (text, run, safe)))

-- a run that was printed is accepted on the way back
pub printed_runs_return : PrintedRunsReturn
printed_runs_return first second job state text w n answer names printed answer' names' =
    let there = printed_run first.words first.held first.requested first.requested' first.out first.out' job state w n names (answer.done printed.done) in
    let wrote = there.1 in
    let same = one_taken first.out first.out' printed.bytes text wrote.text printed.taken printed.taken' wrote.appends in
    let run : IsLevesqueVerletRun job state w n text = subst (IsLevesqueVerletRun job state w n) same wrote.run in
    let safe : AreSafe job text = runs_stay_safe job state w n text run there.0 in
    let back : IsLevesqueVerletRun job text (opposite w) n state = leads_back job state w n text run in
    by_status back (answer'.only (command.Run names'.run) names'.named (run_output second.words second.held job text (opposite w) n state names' back safe))
  where
    by_status : IsLevesqueVerletRun job text (opposite w) n state → IsNotRefused second.status second.out second.out'
        → ((second.status ≡ 0) × Appends second.out second.out' state) ⊎ (second.status ≡ 4) ⊎ ((second.status ≡ 5) × (second.out.failed < second.out'.failed))
    by_status back (inl zero) =
        let back' = (printed_run second.words second.held second.requested second.requested' second.out second.out' job text (opposite w) n names' (answer'.done zero)).1 in
        inl (zero, subst (Appends second.out second.out') (sym (back'.only state back)) back'.appends)
    by_status back (inr wanting) = inr wanting
