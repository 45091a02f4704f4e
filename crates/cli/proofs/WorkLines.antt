-- The lines of works: how those before each end of a work fit one another, and that a work may have printed none yet.
use Rattle.std.proofs.Common.{◌≡◌, ◌⊎◌, ◌*◌, ◌/◌, ℕ, List, [], Bool, true, false, Option, Some, None, append-nil, inl, inr, refl, sym, codes, IfSome}
use Rattle.command_line.specs.Commands.{CommandView, CurveView, ReplayView}
use Rattle.command_line.specs.Commands as command
use Rattle.fallible.specs.Out.{Output}
use Rattle.runs.specs.Watching.{Report}
use Rattle.streams.specs.Watched.{AreFirstWatched, AreWatchedTo}
use Rattle.cli.specs.Actions.{AreSlices, Held, IsHeld, MayBegin, OfFile, OfReports, Work, check_work, curve_work, parts_work, replay_work, steps_work, work_of}
use Rattle.cli.specs.Command.{PrintsLines}
use Rattle.cli.specs.StreamTexts.{plan_of_replay}

-- without lines the output is unchanged
pub none_told : (progress : Bool) (Are : List (List ℕ) → Type 0) (o : Output) → Are [] → PrintsLines progress Are o o
none_told true Are o are = ([], are, refl)
none_told false Are o are = refl

-- A work may have printed no line yet: it replays no stream, or none of its segments is reported.
abbrev pub IsUnbegun : Work → Type 0
IsUnbegun work = (work.replays → ⊥) ⊎ (work.replays × work.read [] × work.part 0 [])

-- ---- works

-- these are all progress lines, or those of some of the parts
abbrev pub AreReached : Work → List (List ℕ) → Type 0
AreReached work lines = work.whole lines ⊎ ((done : ℕ) × work.part done lines)

-- all progress lines, or those of some of the parts, were printed
abbrev pub IsReached : Work → (before after : Output) → Type 0
IsReached work before after = PrintsLines work.progress (AreReached work) before after

-- The lines of a work fit one another: those before a text are all lines or those of some of the parts. In a replay those
-- before a state is read, or before a text, are those of some of the parts, and all lines come before a state is read.
pub record IsOrderly (work : Work) : Type 0 where
  pub texts : (lines : List (List ℕ)) → work.texts lines → AreReached work lines
  pub some : work.replays → (lines : List (List ℕ)) → work.read lines ⊎ work.texts lines → (done : ℕ) × work.part done lines
  pub whole : work.replays → (lines : List (List ℕ)) → work.whole lines → work.read lines

orderly_steps : (progress : Bool) (n : ℕ) (every : Option ℕ) → IsOrderly (steps_work progress n every)
orderly_steps progress n None =
    record { texts = λ lines h. inl h; some = λ bad lines h. absurd bad; whole = λ bad lines h. absurd bad }
orderly_steps progress n (Some k) =
    record { texts = λ lines h. inr (h.0 * k, h.1); some = λ bad lines h. absurd bad; whole = λ bad lines h. absurd bad }

orderly_parts : (progress : Bool) (word : List ℕ) (IsAll Rejects : ℕ → Type 0) → IsOrderly (parts_work progress word IsAll Rejects)
orderly_parts progress word IsAll Rejects =
    record { texts = λ lines h. inl h; some = λ bad lines h. absurd bad; whole = λ bad lines h. absurd bad }

orderly_curve : (held : Held) (out out' : Output) (c : CurveView) → IsOrderly (curve_work held out out' c)
orderly_curve held out out' c =
    record { texts = λ lines h. inr (before_text lines h); some = λ bad lines h. absurd bad; whole = λ bad lines h. absurd bad }
  where
    before_text : (lines : List (List ℕ)) → (curve_work held out out' c).texts lines → (done : ℕ) × (curve_work held out out' c).part done lines
    before_text lines (job, known, (j, read, (plan, planned, (f, n, cut, (all, is, few, same))))) =
        (n, (all, (job, known, (j, read, (plan, planned, is))), few, same))

orderly_replay : (held : Held) (out out' : Output) (r : ReplayView) → IsOrderly (replay_work held out out' r)
orderly_replay held out out' r = record { texts = λ lines h. inr (before_text lines h); some = λ is lines. some lines; whole = λ is. all_read }
  where
    before_text : (lines : List (List ℕ)) → (replay_work held out out' r).texts lines
        → (done : ℕ) × (replay_work held out out' r).part done lines
    before_text lines (job, known, (bytes, known', (reports, (now, begins, (steps, next)), same))) =
        (steps, (job, known, (bytes, known', (reports, (now, begins, inr (steps, next)), same))))

    some : (lines : List (List ℕ)) → (replay_work held out out' r).read lines ⊎ (replay_work held out out' r).texts lines
        → (done : ℕ) × (replay_work held out out' r).part done lines
    some lines (inl (job, known, (bytes, known', (reports, first, same)))) =
        (0, (job, known, (bytes, known', (reports, (out', inl refl, inl first), same))))
    some lines (inr h) = before_text lines h

    all_read : (lines : List (List ℕ)) → (replay_work held out out' r).whole lines → (replay_work held out out' r).read lines
    all_read lines (job, known, (bytes, known', (reports, (count, differing, last, are), same))) =
        (job, known, (bytes, known', (reports, inr (count, differing, bytes, [], last, sym (append-nil bytes), are), same)))

-- the lines of each command fit one another
pub orderly : (held : Held) (out out' : Output) (c : CommandView) → IsOrderly (work_of held out out' c)
orderly held out out' (command.Run run) = orderly_steps run.progress run.steps None
orderly held out out' (command.Trajectory v) = orderly_steps v.run.progress (v.run.steps / v.every * v.every) (Some v.every)
orderly held out out' (command.States v) = orderly_steps v.run.progress (v.run.steps / v.every * v.every) (Some v.every)
orderly held out out' (command.Replay r) = orderly_replay held out out' r
orderly held out out' (command.Observe v table) = orderly_steps v.run.progress (v.run.steps / v.every * v.every) (Some v.every)
orderly held out out' (command.Check job listing progress) =
    orderly_parts progress (codes "slices") (λ all. OfFile held job (λ text. AreSlices text all))
    (check_work held job listing progress).rejects
orderly held out out' (command.Curve c) = orderly_curve held out out' c
orderly held out out' _ = orderly_steps false 0 None

-- a file has some bytes
some_bytes : (held : Held) (path : List ℕ) → (bytes : List ℕ) × IsHeld held path bytes
some_bytes held path = of_told (held path)
  where
    of_told : (told : Option (List ℕ)) → (bytes : List ℕ) × IfSome told (λ t. bytes ≡ t)
    of_told None = ([], tt)
    of_told (Some t) = (t, refl)

-- a statement about no reports that is true of any files is true of no lines
no_lines : (held : Held) (r : ReplayView) (Are : (job bytes : List ℕ) → List Report → Type 0)
    → ((job bytes : List ℕ) → Are job bytes []) → OfReports held r Are []
no_lines held r Are are =
    let job = some_bytes held r.job in
    let states = some_bytes held r.states in
    (job.0, job.1, (states.0, states.1, ([], are job.0 states.0, refl)))

-- a replay that has written nothing may have printed no line yet
pub unbegun_replay : (held : Held) (o : Output) (r : ReplayView) → IsUnbegun (replay_work held o o r)
unbegun_replay held o r = inr (
  tt,
  no_lines held r (λ job bytes. AreFirstWatched (plan_of_replay r) job o bytes o) (λ job bytes. inl (refl, refl)),
  no_lines held r (λ job bytes reports. (now : Output) × MayBegin now o × AreWatchedTo (plan_of_replay r) job o bytes now 0 reports)
      (λ job bytes. (o, inl refl, inl (inl (refl, refl)))),
)

-- nor may any command that has written nothing
pub unbegun : (held : Held) (o : Output) (c : CommandView) → IsUnbegun (work_of held o o c)
unbegun held o (command.Replay r) = unbegun_replay held o r
unbegun held o _ = inl (λ x. x)
