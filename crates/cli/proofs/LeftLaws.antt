-- Tables, and texts of a stream, that were printed before an error.
use Rattle.std.proofs.Common.{◌≡◌, ◌⊎◌, ℕ, List, [], Option, Some, None, ap, arith, codes, inl, inr, map, refl, subst, sym}
use Rattle.command_line.specs.Commands.{CommandView, CurveView}
use Rattle.command_line.specs.Commands as command
use Rattle.curves.specs.Tables.{curve_parts}
use Rattle.fallible.specs.Out.{Output}
use Rattle.runs.proofs.HundredthLaws.{hundredths-zero}
use Rattle.cli.specs.Actions.{Contents, EndOfRun, Held, IsHeld, OneText, StatesOfRun, StatesOfStream, TablesOfJob, Task, action_of, check_action, curve_work, files_of, progress_line, work_of}
use Rattle.cli.specs.Command.{PrintsBefore, PrintsLines}
use Rattle.cli.specs.CommandFailure.{LeavesTexts, LosesStream, RejectsData, ReportsMemory, ReportsPart}
use Rattle.cli.proofs.FileLaws.{AreHeld}
use Rattle.cli.proofs.WorkLines.{none_told}

-- the task prints an output of a stream
abbrev pub IsStream : Task → Type 0
IsStream (StatesOfStream o states job bytes) = Unit {0}
IsStream _ = ⊥

-- a task of tables or of a stream, whose first texts are printed before memory runs out without a number of steps
abbrev pub MayLeave : Task → Type 0
MayLeave (TablesOfJob job c) = Unit {0}
MayLeave (StatesOfStream o states job bytes) = Unit {0}
MayLeave _ = ⊥

pub stream_leaves : (t : Task) → IsStream t → MayLeave t
stream_leaves (StatesOfStream o states job bytes) is = tt
stream_leaves _ is = absurd is

-- ---- progress

-- no part of a curve was reported, though some tables were printed
tables_begun : (held : Held) (out out' : Output) (c : CurveView) (job : List ℕ) → IsHeld held c.job job
    → LeavesTexts (TablesOfJob job c) 0 out out' → (curve_work held out out' c).part 0 []
tables_begun held out out' c job known (said, read, (plan, planned, cut)) =
    let all = curve_parts said plan in
    (all, (job, known, (said, read, (plan, planned, refl))), omega arith, sym (ap (map (progress_line (codes "parts") all)) (hundredths-zero all 0)))

-- the progress of tables and of a stream is that of some number of parts
pub texts_told : (held : Held) (out out' : Output) (c : CommandView) (contents : Contents (files_of c)) (before after : Output)
    → AreHeld held (files_of c) contents → MayLeave ((action_of c).task contents) → LeavesTexts ((action_of c).task contents) 0 out out'
    → ReportsMemory (work_of held out out' c) before after → ReportsPart (work_of held out out' c) before after
texts_told held out out' (command.Replay r) contents before after gives may left (inl bad) = absurd bad.0
texts_told held out out' (command.Replay r) contents before after gives may left (inr (inl none)) = absurd (none.0 tt)
texts_told held out out' (command.Replay r) contents before after gives may left (inr (inr part)) = part.1
texts_told held out out' (command.Each e) contents before after gives may left (inl bad) = absurd bad.0
texts_told held out out' (command.Each e) contents before after gives may left (inr (inl none)) = (0, none.1)
texts_told held out out' (command.Each e) contents before after gives may left (inr (inr bad)) = absurd bad.0
texts_told held out out' (command.Curve c) contents before after gives may left (inl some) = some.1
texts_told held out out' (command.Curve c) contents before after gives may left (inr (inl none)) = (
  0,
  subst (λ o. PrintsLines c.progress ((curve_work held out out' c).part 0) before o) (sym none.1)
      (none_told c.progress ((curve_work held out out' c).part 0) before (tables_begun held out out' c contents.0 gives.0 left)),
)
texts_told held out out' (command.Curve c) contents before after gives may left (inr (inr bad)) = absurd bad.0
texts_told held out out' (command.Check job listing progress) contents before after gives may left told =
    absurd (of_check job listing contents may)
  where
    of_check : (job : List ℕ) (listing : Option (List ℕ)) (contents : Contents (check_action job listing).files)
        → MayLeave ((check_action job listing).task contents) → ⊥
    of_check job None contents may = may
    of_check job (Some listing) contents may = may
texts_told held out out' _ contents before after gives may left told = absurd may

-- tables or texts of a stream were printed, however many parts were reported
pub texts_left : (t : Task) (done : ℕ) (before after : Output) → MayLeave t → LeavesTexts t 0 before after → LeavesTexts t done before after
texts_left (TablesOfJob job c) done before after may left = left
texts_left (StatesOfStream o states job bytes) done before after may left = left
texts_left _ done before after may left = absurd may

-- ---- other errors

-- data that are rejected leave the output unchanged, or are behind the texts of some states of a stream
pub rejected : (t : Task) (before after : Output) → RejectsData t before after
    → (after ≡ before) ⊎ (MayLeave t × LeavesTexts t 0 before after)
rejected (OneText text) before after h = inl h.1
rejected (TablesOfJob job c) before after h = inl h.1
rejected (EndOfRun job state r) before after h = inl h.1
rejected (StatesOfRun Shows job state v) before after h = inl h.1
rejected (StatesOfStream o states job bytes) before after (part, text, between, split, has, appends, next) =
    inr (tt, (part, text, between, split, has, appends, next.1))

-- likewise if a stream can't be read on
pub lost : (held : Held) (t : Task) (before after : Output) → LosesStream held t before after → IsStream t × LeavesTexts t 0 before after
lost held (StatesOfStream o states job bytes) before after (part, text, between, split, has, appends, next) =
    (tt, (part, text, between, split, has, appends, next.1))
lost held _ before after h = absurd h

pub lost_left : (t : Task) (before after : Output) → IsStream t × LeavesTexts t 0 before after → MayLeave t × LeavesTexts t 0 before after
lost_left t before after (is, left) = (stream_leaves t is, left)

-- a stream prints before any error
pub stream_before : (t : Task) (status : ℕ) → IsStream t → PrintsBefore status t
stream_before (StatesOfStream o states job bytes) status is = tt
stream_before _ status is = absurd is
