-- The progress of `replay`: its lines are those of the reports on its segments.
use Rattle.std.proofs.Common.{◌≡◌, ◌⊎◌, ◌∷◌, ℕ, List, [], Bool, true, false, Ok, Err, Result, inl, inr, map, refl, subst, sym}
use Rattle.std.specs.Borrow.{Bor}
use Rattle.std.specs.Result.{result_map_both}
use Rattle.command_line.specs.Commands.{ReplayView}
use Rattle.command_line.specs.Commands as command
use Rattle.engine.specs.declared.faults.InputFault.{InputFault}
use Rattle.engine.specs.declared.faults.InputFault.TheVariants as input
use Rattle.fallible.specs.Out.{Output}
use Rattle.runs.specs.Watching.{Report}
use Rattle.state.specs.Sources.{Left}
use Rattle.streams.specs.Streams.{OfLeft}
use Rattle.streams.specs.Watched.{AreAllWatched, AreFirstWatched, AreWatchedBefore, AreWatchedTo, AreWatchedUpTo, IsUnrun, IsWatched}
use Rattle.streams.specs.declared.faults.StreamFault.{StreamFault}
use Rattle.streams.specs.declared.faults.StreamFault.TheVariants as stream
use Rattle.cli.specs.Actions.{Held, IsHeld, MayBegin, OfReports, report_line, work_of}
use Rattle.cli.specs.Command.{PrintsLines, ReportsAll}
use Rattle.cli.specs.Failures.{fault_of_stream}
use Rattle.cli.specs.Progress.{Reports, ReportsBefore, ReportsState, ReportsSteps}
use Rattle.cli.specs.StreamTexts.{plan_of_replay}
use Rattle.cli.specs.declared.faults.CommandFault.{CommandFault}

-- without reports nothing is printed
nothing : (progress : Bool) (before after : Output) (reports : List Report) → reports ≡ [] → ReportsSteps progress before after reports
    → after ≡ before
nothing true before after [] none told = told
nothing true before after (r ∷ rs) none told = cc
nothing false before after reports none told = told

-- the lines of reports
printed : (progress : Bool) (Are : List (List ℕ) → Type 0) (before after : Output) (reports : List Report) → Are (map report_line reports)
    → ReportsSteps progress before after reports → PrintsLines progress Are before after
printed true Are before after reports are told = (map report_line reports, are, told)
printed false Are before after reports are told = told

module _ (held : Held) (r : ReplayView) (job : List ℕ) (known : IsHeld held r.job job) (o o' err err' : Output) where
  -- all reports of a replay
  whole : (bytes : List ℕ) (reports : List Report) → IsHeld held r.states bytes
      → AreAllWatched (plan_of_replay r) job o bytes o' reports → ReportsSteps r.progress err err' reports
      → ReportsAll (work_of held o o' (command.Replay r)) err err'
  whole bytes reports read are =
      printed r.progress (work_of held o o' (command.Replay r)).whole err err' reports (job, known, (bytes, read, (reports, are, refl)))

  -- reports of this stream, of which the statement holds
  lines : (Are : (job bytes : List ℕ) → List Report → Type 0) (bytes : List ℕ) (reports : List Report) → IsHeld held r.states bytes
      → Are job bytes reports → OfReports held r Are (map report_line reports)
  lines Are bytes reports read are = (job, known, (bytes, read, (reports, are, refl)))

  -- the reports behind whole lines of segments
  behind : (bytes : List ℕ) (reports : List Report) → IsHeld held r.states bytes
      → AreFirstWatched (plan_of_replay r) job o bytes o' reports
      → (work_of held o o' (command.Replay r)).read (map report_line reports)
  behind bytes reports read first =
      lines (λ job bytes. AreFirstWatched (plan_of_replay r) job o bytes o') bytes reports read first

  -- the reports of a whole segment more, whose line may be begun
  before_line : (bytes : List ℕ) (reports : List Report) (now : Output) → IsHeld held r.states bytes → MayBegin now o'
      → ((steps : ℕ) × AreWatchedUpTo (plan_of_replay r) job o bytes now steps steps reports)
      → (work_of held o o' (command.Replay r)).texts (map report_line reports)
  before_line bytes reports now read begins next = lines (λ job bytes reports. (now : Output) × MayBegin now o'
      × ((steps : ℕ) × AreWatchedUpTo (plan_of_replay r) job o bytes now steps steps reports)) bytes reports read (now, begins, next)

  -- the reports before a state is rejected
  rejected : {A : Type 0} (bytes : List ℕ) (reports : List Report) (n : ℕ) (f : InputFault A) → IsHeld held r.states bytes
      → (((n ≡ 1) ⊎ IsUnrun f) × AreFirstWatched (plan_of_replay r) job o bytes o' reports)
      ⊎ ((steps : ℕ) × AreWatchedUpTo (plan_of_replay r) job o bytes o' steps steps reports)
      → ReportsSteps r.progress err err' reports → ReportsState (work_of held o o' (command.Replay r)) err err' n f
  rejected bytes reports n f read are told =
      let replay = work_of held o o' (command.Replay r) in
      inr (tt, printed r.progress (λ x. (((n ≡ 1) ⊎ IsUnrun f) × replay.read x) ⊎ replay.texts x) err err' reports (by_run are) told)
    where
      by_run : (((n ≡ 1) ⊎ IsUnrun f) × AreFirstWatched (plan_of_replay r) job o bytes o' reports)
          ⊎ ((steps : ℕ) × AreWatchedUpTo (plan_of_replay r) job o bytes o' steps steps reports)
          → (((n ≡ 1) ⊎ IsUnrun f) × (work_of held o o' (command.Replay r)).read (map report_line reports))
          ⊎ (work_of held o o' (command.Replay r)).texts (map report_line reports)
      by_run (inl (unrun, first)) = inl (unrun, behind bytes reports read first)
      by_run (inr next) = inr (before_line bytes reports o' read (inl refl) next)

  -- the reports before a fault
  before_fault : {A : Type 0} (path : Bor (List ℕ)) (bytes : List ℕ) (reports : List Report) (f : StreamFault (InputFault A))
      → IsHeld held r.states bytes → AreWatchedBefore (plan_of_replay r) job o bytes o' f reports
      → ReportsSteps r.progress err err' reports
      → ReportsBefore (work_of held o o' (command.Replay r)) err err' (fault_of_stream path f)
  before_fault path bytes reports (stream.Rejected (input.Job f)) read (still, none) told = nothing r.progress err err' reports none told
  before_fault path bytes reports (stream.Rejected (input.State f)) read (still, none) told = nothing r.progress err err' reports none told
  before_fault path bytes reports (stream.Rejected (input.Energy f)) read (still, none) told =
      inl (λ x. x, nothing r.progress err err' reports none told)
  before_fault path bytes reports (stream.Rejected (input.System f)) read (still, none) told = nothing r.progress err err' reports none told
  before_fault path bytes reports (stream.Rejected input.ForceRange) read (still, none) told = nothing r.progress err err' reports none told
  before_fault path bytes reports (stream.State n (input.Job f)) read (bad, are) told = absurd bad
  before_fault path bytes reports (stream.State n (input.Energy f)) read (bad, are) told = absurd bad
  before_fault {A} path bytes reports (stream.State n (input.State f)) read (is, are) told =
      rejected {A = A} bytes reports n (input.State f) read are told
  before_fault {A} path bytes reports (stream.State n (input.System f)) read (is, are) told =
      rejected {A = A} bytes reports n (input.System f) read are told
  before_fault {A} path bytes reports (stream.State n input.ForceRange) read (is, are) told =
      rejected {A = A} bytes reports n input.ForceRange read are told
  before_fault path bytes reports (stream.Differ n) read all told = inr (tt, whole bytes reports read all told)
  before_fault path bytes reports stream.CannotRead read first told =
      let replay = work_of held o o' (command.Replay r) in
      inr (tt, printed r.progress replay.read err err' reports (behind bytes reports read first) told)
  before_fault path bytes reports (stream.Out f) read (now, line, begins, next) told =
      let replay = work_of held o o' (command.Replay r) in
      printed r.progress replay.texts err err' reports (before_line bytes reports now read (inr (line, begins)) next) told
  before_fault path bytes reports stream.Memory read (made, are) told =
      let replay = work_of held o o' (command.Replay r) in
      let some = lines (λ job bytes reports. (now : Output) × MayBegin now o'
      × AreWatchedTo (plan_of_replay r) job o bytes now made reports) bytes reports read (o', inl refl, are) in
      inr (inr (tt, (made, printed r.progress (replay.part made) err err' reports some told)))

  -- The reports of a replay of a stream are the progress of the command.
  pub replay_reports : {T A : Type 0} (wrote : Result T (StreamFault (InputFault A))) (result : Result T (CommandFault A)) (left : Left)
      (path : Bor (List ℕ)) → result ≡ result_map_both (λ x. x) (fault_of_stream path) wrote → left ≡ held r.states
      → IsWatched (plan_of_replay r) job left o o' (ReportsSteps r.progress err err') wrote
      → Reports (work_of held o o' (command.Replay r)) err err' result
  replay_reports (Ok x) result left path is lines watched =
      let all = subst (λ (l : Left). OfLeft l (λ bytes. (reports : List Report) × AreAllWatched (plan_of_replay r) job o bytes o' reports
      × ReportsSteps r.progress err err' reports)) lines watched.all in
      subst (Reports (work_of held o o' (command.Replay r)) err err') (sym is) (of_all all)
    where
      of_all : OfLeft (held r.states) (λ bytes. (reports : List Report) × AreAllWatched (plan_of_replay r) job o bytes o' reports
          × ReportsSteps r.progress err err' reports) → ReportsAll (work_of held o o' (command.Replay r)) err err'
      of_all (bytes, read, (reports, are, told)) = whole bytes reports read are told
  replay_reports {T} {A} (Err f) result left path is lines watched =
      let some = subst (λ (l : Left). OfLeft l (λ bytes. (reports : List Report) × AreWatchedBefore (plan_of_replay r) job o bytes o' f reports
      × ReportsSteps r.progress err err' reports)) lines watched.some in
      subst (Reports (work_of held o o' (command.Replay r)) err err') (sym is) (of_some some)
    where
      of_some : OfLeft (held r.states) (λ bytes. (reports : List Report) × AreWatchedBefore (plan_of_replay r) job o bytes o' f reports
          × ReportsSteps r.progress err err' reports)
          → ReportsBefore (work_of held o o' (command.Replay r)) err err' (fault_of_stream path f)
      of_some (bytes, read, (reports, are, told)) = before_fault path bytes reports f read are told
