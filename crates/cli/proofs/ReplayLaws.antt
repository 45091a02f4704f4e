-- `pairmd replay` finds out whether a stream is of one run.
use Rattle.std.proofs.Common.{◌≡◌, ◌<◌, ◌≤◌, ℕ, suc, List, Some, arith, inl, inr, subst, sym}
use Rattle.command_line.specs.Commands as command
use Rattle.command_line.specs.Commands.{ReplayView}
use Rattle.command_line.proofs.OneCommand.{no_help, no_version, one_command}
use Rattle.fallible.specs.Out.{Output}
use Rattle.streams.specs.OneRun.{IsOneRun, OneRunsAreReplayed, ReplaysAreOne, SameStreamsAreOneRun, StatesAreOne, part_of_all}
use Rattle.streams.specs.Plans.{ReplayPlanView}
use Rattle.streams.specs.Replays.{AreReplayed, replayed_by}
use Rattle.streams.specs.Streams.{AreAccepted}
use Rattle.cli.specs.Actions.{Held, OfTask, Paths}
use Rattle.cli.specs.Command.{HasPrinted, IsDone}
use Rattle.cli.specs.CommandLaws.{NamesReplay, OneRunsAreNotRefused, ReplayedStreamsAreOneRun}
use Rattle.cli.specs.StreamTexts.{NoneDiffers, plan_of_replay}
use Rattle.cli.proofs.FileLaws.{given}

-- a replay of a stream of one state or more, of which no segment differs
abbrev IsSame : ReplayPlanView → (job stream : List ℕ) → Type 0
IsSame plan job stream = (n : ℕ) × (last : List ℕ) × (text : List ℕ) × AreReplayed plan job (suc n) 0 stream last text

has_same : (plan : ReplayPlanView) (job stream : List ℕ) (n : ℕ) (text : List ℕ)
    → (replayed_by plan job).has (suc n) 0 stream text → IsSame plan job stream
has_same plan job stream n text (inl (none, same, front, text')) = absurd (omega (arith, none))
has_same plan job stream n text (inr (last, are)) = (n, last, text, are)

-- the output of a replay of known files
same_of : (held : Held) (replay : ReplayView) (job stream : List ℕ) (out out' : Output) → held replay.job ≡ Some job
    → held replay.states ≡ Some stream → OfTask held (command.Replay replay) (λ task. HasPrinted task out out')
    → IsSame (plan_of_replay replay) job stream
same_of held replay job stream out out' known known' (a, a_is, (b, b_is, (n, text, has, appends))) =
    has_same (plan_of_replay replay) job stream n text
    (subst (λ j. (replayed_by (plan_of_replay replay) j).has (suc n) 0 stream text) (given held replay.job a job known a_is)
    (subst (λ bytes. (replayed_by (plan_of_replay replay) a).has (suc n) 0 bytes text) (given held replay.states b stream known' b_is) has))

-- If arguments name a replay and the command succeeded, no replayed segment differs.
replayed_same : (words : List (List ℕ)) (held : Held) (requested requested' : Paths) (out out' : Output) (job stream : List ℕ)
    (plan : ReplayPlanView) → NamesReplay words held job stream plan → IsDone words held requested requested' out out'
    → IsSame plan job stream
replayed_same words held requested requested' out out' job stream plan names (inl help) =
    absurd (no_help words (command.Replay names.replay) names.named help.0)
replayed_same words held requested requested' out out' job stream plan names (inr (inl version)) =
    absurd (no_version words (command.Replay names.replay) names.named version.0)
replayed_same words held requested requested' out out' job stream plan names (inr (inr (c, named, all, printed))) =
    let one = one_command words (command.Replay names.replay) c names.named named in
    let same = same_of held names.replay job stream out out' names.job_held names.stream_held
    (subst (λ d. OfTask held d (λ task. HasPrinted task out out')) one printed) in
    subst (λ p. IsSame p job stream) names.planned same

-- All parts have the same last state, so the stream is of one run.
pub streams_are_one_run : SameStreamsAreOneRun → StatesAreOne → ReplayedStreamsAreOneRun
streams_are_one_run law one use_of job stream parts some uses =
    let first = same 1 (omega arith) (omega (arith, some)) in
    let last = first.1 in (
      last,
      law parts job stream last some (λ part low high.
          let is = same part low high in
          let states = one (part_of_all part parts) (part_of_all 1 parts) job (suc is.0) (suc first.0) 0 0 stream is.1 first.1 is.2 first.2
          is.3 first.3 in
          (suc is.0, is.2, subst (λ l. AreReplayed (part_of_all part parts) job (suc is.0) 0 stream l is.2) states.1 is.3)),
    )
  where
    same : (part : ℕ) → 0 < part → part ≤ parts → IsSame (part_of_all part parts) job stream
    same part low high =
        let u = use_of part in
        let h = uses part low high in
        replayed_same u.words u.held u.requested u.requested' u.out u.out' job stream (part_of_all part parts) h.2 (h.0.done h.1)

-- A stream of one run has a replay without a differing segment, and it is the only one.
none_differs : OneRunsAreReplayed → ReplaysAreOne → (plan : ReplayPlanView) (job stream last : List ℕ) (n : ℕ)
    → IsOneRun job stream last → AreAccepted job (suc n) stream → NoneDiffers (replayed_by plan job) stream
none_differs law one plan job stream last n run accepted count differing text (inl (none, same, front, text')) = same
none_differs law one plan job stream last n run accepted count differing text (inr (last', are)) =
    let is = law plan job (suc n) stream last run accepted in
    sym (one plan job is.0 count 0 differing stream last last' is.1 text is.2 are).0

pub runs_are_not_refused : OneRunsAreReplayed → ReplaysAreOne → OneRunsAreNotRefused
runs_are_not_refused law one u job stream last n plan answer names run accepted few =
    let none = none_differs law one (plan_of_replay names.replay) job stream last n run accepted in
    answer.only (command.Replay names.replay) names.named
    (job, names.job_held, (stream, names.stream_held, ((n, few, accepted), (λ no. absurd no), none)))
