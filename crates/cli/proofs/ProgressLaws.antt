-- Laws of progress: the lines that a command has printed before its fault, and those that it prints in all.
use Rattle.std.proofs.Common.{◌≡◌, ◌⊎◌, ◌<◌, ◌-◌, ◌^◌, ℕ, List, [], ◌∷◌, Bool, true, false, None, arith, inl, inr, map, refl, subst, sym, Result, Ok, Err}
use Rattle.std.specs.Borrow.{Bor}
use Rattle.std.specs.Result.{IsErrAnd}
use Rattle.engine.specs.declared.faults.InputFault.{InputFault}
use Rattle.engine.specs.declared.faults.InputFault.TheVariants as input
use Rattle.fallible.specs.Out.{Output}
use Rattle.integrator.specs.declared.faults.StepFault.TheVariants as step
use Rattle.command_line.specs.Commands.{CommandView}
use Rattle.command_line.specs.CommandLine.{IsCommand}
use Rattle.command_line.proofs.OneCommand.{no_help, no_version}
use Rattle.runs.specs.Watching.{hundredths_behind}
use Rattle.streams.specs.Watched.{IsUnrun}
use Rattle.cli.specs.Actions.{AllLines, FirstLines, Held, Paths, Work, progress_line, steps_work, work_of}
use Rattle.cli.specs.Command.{IsLate, Prints, PrintsIfCounted, PrintsError, PrintsLines, ReportsDone, ReportsReached}
use Rattle.cli.specs.CommandFailure.{ReportsCode, ReportsData, ReportsMemory, ReportsPart, ReportsRead, ReportsReplayed}
use Rattle.cli.specs.Performed.{EndsIn}
use Rattle.cli.specs.Progress.{IsBegun, IsTold, Reports, ReportsBefore, ReportsState}
use Rattle.cli.specs.Refusals.{IsUnread, IsUnreadOf, unread}
use Rattle.cli.specs.Reports.{IsReported}
use Rattle.cli.specs.Statuses.{status_number, status_of}
use Rattle.cli.specs.declared.faults.CommandFault.{CommandFault}
use Rattle.cli.specs.declared.faults.CommandFault.TheVariants as fault
use Rattle.cli.specs.declared.faults.Status.{Status}
use Rattle.cli.specs.declared.faults.Status.TheVariants as status
use Rattle.cli.proofs.PerformLaws.{handed_on}
use Rattle.cli.proofs.WorkLines.{AreReached, IsOrderly, IsReached, IsUnbegun, none_told, orderly}
use Rattle.state.specs.declared.sources.ReadFault.{ReadFault}
use Rattle.state.specs.declared.sources.ReadFault.TheVariants as read

-- ---- no progress

replayed_none : (work : Work) (o : Output) (Printed : Type 0) → (work.read [] → work.part 0 [] → Printed) → IsUnbegun work
    → ReportsReplayed work o o Printed
replayed_none work o Printed printed (inl none) = inl (none, refl)
replayed_none work o Printed printed (inr (replays, read, part)) = inr (replays, printed read part)

unread_told : {A : Type 0} (work : Work) (o : Output) (f : CommandFault A) (why : ReadFault) (borrowed : Bor (List ℕ)) → IsUnbegun work
    → f ≡ unread why borrowed
    → ReportsBefore work o o f
unread_told {A} work o f read.CannotRead borrowed begins is = subst (ReportsBefore {A = A} work o o) (sym is)
    (replayed_none work o _ (λ read part. none_told work.progress work.read o read) begins)
unread_told {A} work o f read.Memory borrowed begins is = subst (ReportsBefore {A = A} work o o) (sym is)
    (inr (replayed_none work o _ (λ read part. (0, none_told work.progress (work.part 0) o part)) begins))

-- a command that wasn't able to read a file has printed no progress
pub unread_quiet : {T A : Type 0} (r : Result T (CommandFault A)) (held : Held) (work : Work) (o : Output) (path : List ℕ) (requested requested' : Paths)
    (f : CommandFault A) → IsUnbegun work → IsErrAnd r (λ e. e ≡ f) → IsUnread held path requested requested' f → Reports work o o r
unread_quiet r held work o path requested requested' f begins is h =
    handed_on r f _ _ is (unread_told work o f h.why h.borrowed begins h.is)

-- a command without progress prints none
pub silent : {T A : Type 0} (r : Result T (CommandFault A)) (o : Output) → Reports (steps_work false 0 None) o o r
silent (Ok x) o = refl
silent (Err (fault.Rejected (input.Energy f))) o = inl (λ x. x, refl)
silent (Err (fault.InState n (input.Energy f))) o = inl (λ x. x, refl)
silent (Err fault.Memory) o = inr (inl (λ x. x, refl))
silent (Err (fault.CannotRead path)) o = inl (λ x. x, refl)
silent (Err (fault.InState n (input.Job f))) o = inl (λ x. x, refl)
silent (Err (fault.InState n (input.State f))) o = inl (λ x. x, refl)
silent (Err (fault.InState n (input.System f))) o = inl (λ x. x, refl)
silent (Err (fault.InState n input.ForceRange)) o = inl (λ x. x, refl)
silent (Err (fault.NotOneRun n)) o = inl (λ x. x, refl)
silent (Err (fault.Steps (step.Memory done))) o = refl
silent (Err (fault.Out f)) o = refl
silent (Err _) o = refl

-- what requests files that weren't read has printed no progress
pub files_told : {A : Type 0} (held : Held) (work : Work) (o : Output) (paths : List (List ℕ)) (requested requested' : Paths)
    (f : CommandFault A) → IsUnbegun work → IsUnreadOf held paths requested requested' f → ReportsBefore work o o f
files_told held work o [] requested requested' f begins h = absurd h
files_told held work o (p ∷ ps) requested requested' f begins (inl h) = unread_told work o f h.why h.borrowed begins h.is
files_told held work o (p ∷ ps) requested requested' f begins (inr h) = files_told held work o ps _ requested' f begins h

-- ---- by words

-- the progress before a fault is that which the arguments print before it
pub begun : {A : Type 0} (words : List (List ℕ)) (held : Held) (requested requested' : Paths) (out out' err err' : Output) (f : CommandFault A)
    → EndsIn words held requested requested' out out' err err' f → IsBegun words held out out' f err err'
begun words held requested requested' out out' err err' f (inl (inl (e, is, misuse, same), still, quiet)) = inl (quiet, inr misuse.1)
begun words held requested requested' out out' err err' f (inl (inr (inl (o, is, inl help)), still, quiet)) =
    inl (quiet, inr (λ c named. no_help words c named help.0))
begun words held requested requested' out out' err err' f (inl (inr (inl (o, is, inr version)), still, quiet)) =
    inl (quiet, inr (λ c named. no_version words c named version.0))
begun words held requested requested' out out' err err' f (inl (inr (inr (is, same)), still, quiet)) = inl (quiet, inl (is, same))
begun words held requested requested' out out' err err' f (inr (c, named, undone, told)) = inr (c, named, told)

-- ---- after the progress lines

-- the text of a fault follows the progress lines of the command
pub told_behind : {A : Type 0} (words : List (List ℕ)) (held : Held) (out out' : Output) (before between after : Output) (f : CommandFault A) (result : ℕ)
    → IsBegun words held out out' f before between → IsReported f result (PrintsIfCounted between after) → IsTold words held out out' f result before after
told_behind words held out out' before between after f result begun (inl told) = inl (told.0, (told.1.0, told.1.1, (between, begun, told.1.2)))
told_behind words held out out' before between after f result begun (inr told) = inr (told.0, (between, begun, told.1))

-- the status of out of memory, of a file or the output, of rejected code in a work that verifies code, or of rejected data
-- in a replay
abbrev pub ComesLate : Status → Work → Type 0
ComesLate status.Memory work = Unit {0}
ComesLate status.File work = Unit {0}
ComesLate status.RefusedKernel work = work.verifies
ComesLate status.RefusedData work = work.replays
ComesLate _ work = ⊥

-- all progress lines are those of all parts
pub all_parts : (progress : Bool) (word : List ℕ) (IsAll : ℕ → Type 0) (before after : Output)
    → PrintsLines progress (AllLines word IsAll) before after
    → (done : ℕ) × PrintsLines progress (FirstLines word IsAll done) before after
all_parts true word IsAll before after (lines, (all, is, same), told) = (all, (lines, (all, is, omega arith, same), told))
all_parts false word IsAll before after h = (0, h)

-- the progress lines of all n parts are all progress lines
pub whole_told : (progress : Bool) (word : List ℕ) (IsAll : ℕ → Type 0) (n : ℕ) (before after : Output) → ((all : ℕ) → IsAll all → all ≡ n)
    → PrintsLines progress (FirstLines word IsAll n) before after → PrintsLines progress (AllLines word IsAll) before after
whole_told true word IsAll n before after only (lines, (all, is, few, same), told) = (
  lines,
  (all, is, subst (λ k. lines ≡ map (progress_line word all) (hundredths_behind all 0 k)) (sym (only all is)) same),
  told,
)
whole_told false word IsAll n before after only h = h

-- progress lines satisfy each weaker statement
pub lines_also : (progress : Bool) (Are Are' : List (List ℕ) → Type 0) (before after : Output) → ((lines : List (List ℕ)) → Are lines → Are' lines)
    → PrintsLines progress Are before after → PrintsLines progress Are' before after
lines_also true Are Are' before after also (lines, are, told) = (lines, also lines are, told)
lines_also false Are Are' before after also h = h

-- the number of all parts satisfies each weaker statement
pub whole_also : (progress : Bool) (word : List ℕ) (IsAll IsAll' : ℕ → Type 0) (before after : Output)
    → ((all : ℕ) → IsAll all → IsAll' all)
    → PrintsLines progress (AllLines word IsAll) before after → PrintsLines progress (AllLines word IsAll') before after
whole_also progress word IsAll IsAll' before after also =
    lines_also progress (AllLines word IsAll) (AllLines word IsAll') before after (λ lines h. (h.0, also h.0 h.1, h.2))

-- likewise for some of the parts
pub part_also : (progress : Bool) (word : List ℕ) (IsAll IsAll' : ℕ → Type 0) (done : ℕ) (before after : Output)
    → ((all : ℕ) → IsAll all → IsAll' all)
    → PrintsLines progress (FirstLines word IsAll done) before after → PrintsLines progress (FirstLines word IsAll' done) before after
part_also progress word IsAll IsAll' done before after also =
    lines_also progress (FirstLines word IsAll done) (FirstLines word IsAll' done) before after (λ lines h. (h.0, also h.0 h.1, h.2, h.3))

-- ---- faults

-- in a replay, lines are those of some number of parts
pub parts_told : (work : Work) (Are : List (List ℕ) → Type 0) (before after : Output)
    → ((lines : List (List ℕ)) → Are lines → (done : ℕ) × work.part done lines)
    → PrintsLines work.progress Are before after → ReportsPart work before after
parts_told work Are before after some told = by_flag work.progress told
  where
    by_flag : (progress : Bool) → PrintsLines progress Are before after
        → (done : ℕ) × PrintsLines progress (work.part done) before after
    by_flag true (lines, are, printed) = let is = some lines are in (is.0, (lines, is.1, printed))
    by_flag false same = (0, same)

-- what a replay printed implies each weaker statement
pub replayed_also : (work : Work) (before after : Output) (Printed Printed' : Type 0) → (work.replays → Printed → Printed')
    → ReportsReplayed work before after Printed → ReportsReplayed work before after Printed'
replayed_also work before after Printed Printed' also (inl none) = inl none
replayed_also work before after Printed Printed' also (inr (replays, printed)) = inr (replays, also replays printed)

-- the progress before a rejected state is one before rejected data
state_data : {A : Type 0} (work : Work) (before after : Output) (n : ℕ) (f : InputFault A) → ReportsState work before after n f
    → ReportsData work before after
state_data work before after n f = replayed_also work before after _ _
    (λ replays. lines_also work.progress (λ lines. (((n ≡ 1) ⊎ IsUnrun f) × work.read lines) ⊎ work.texts lines)
    (λ lines. work.read lines ⊎ work.texts lines) before after by_run)
  where
    by_run : (lines : List (List ℕ)) → (((n ≡ 1) ⊎ IsUnrun f) × work.read lines) ⊎ work.texts lines → work.read lines ⊎ work.texts lines
    by_run lines (inl read) = inl read.1
    by_run lines (inr text) = inr text

-- memory may run out for the text of the error that data are rejected
pub data_memory : (work : Work) (before after : Output) → IsOrderly work → ReportsData work before after → ReportsMemory work before after
data_memory work before after fits told = inr (replayed_also work before after _ _
    (λ replays printed. parts_told work (λ lines. work.read lines ⊎ work.texts lines) before after (fits.some replays) printed) told)

-- or that a file can't be read
pub read_memory : (work : Work) (before after : Output) → IsOrderly work → ReportsRead work before after → ReportsMemory work before after
read_memory work before after fits told = inr (replayed_also work before after _ _
    (λ replays printed. parts_told work work.read before after (λ lines h. fits.some replays lines (inl h)) printed) told)

part_reached : (work : Work) (done : ℕ) (before after : Output) → ReportsDone work done before after → IsReached work before after
part_reached work done before after =
    lines_also work.progress (work.part done) (AreReached work) before after (λ lines h. inr (done, h))

replayed_late : (work : Work) (Late : Type 0) (before after : Output) (Printed : Type 0) → (work.replays → Late)
    → (work.replays → Printed → IsReached work before after) → ReportsReplayed work before after Printed
    → (after ≡ before) ⊎ (Late × IsReached work before after)
replayed_late work Late before after Printed late reaches (inl (none, same)) = inl same
replayed_late work Late before after Printed late reaches (inr (replays, printed)) = inr (late replays, reaches replays printed)

data_late : (work : Work) (before after : Output) → IsOrderly work → ReportsData work before after
    → (after ≡ before) ⊎ (work.replays × IsReached work before after)
data_late work before after fits = replayed_late work work.replays before after _ (λ x. x)
    (λ replays. lines_also work.progress (λ lines. work.read lines ⊎ work.texts lines) (AreReached work) before after
    (λ lines h. inr (fits.some replays lines h)))

-- there is progress only before memory runs out, the output fails, code is rejected by a work that verifies code, or a
-- replay ends
pub told_late : {A : Type 0} (work : Work) (before after : Output) (f : CommandFault A) → IsOrderly work → ReportsBefore work before after f
    → (after ≡ before) ⊎ (ComesLate (status_of f) work × IsReached work before after)
told_late work before after (fault.Steps (step.Memory done)) fits h = inr (tt, part_reached work done before after h)
told_late work before after (fault.Out o) fits h =
    inr (tt, lines_also work.progress work.texts (AreReached work) before after fits.texts h)
told_late work before after (fault.Rejected (input.Energy f)) fits (inl none) = inl none.1
told_late work before after (fault.Rejected (input.Energy f)) fits (inr (verifies, (done, rejects, h))) =
    inr (verifies, part_reached work done before after h)
told_late work before after (fault.InState n (input.Energy f)) fits (inl none) = inl none.1
told_late work before after (fault.InState n (input.Energy f)) fits (inr (verifies, (done, rejects, h))) =
    inr (verifies, part_reached work done before after h)
told_late work before after fault.Memory fits (inl (verifies, (done, h))) = inr (tt, part_reached work done before after h)
told_late work before after fault.Memory fits (inr h) =
    replayed_late work (Unit {0}) before after _ (λ x. tt) (λ replays part. part_reached work part.0 before after part.1) h
told_late work before after (fault.CannotRead path) fits h = replayed_late work (Unit {0}) before after _ (λ x. tt)
    (λ replays. lines_also work.progress work.read (AreReached work) before after (λ lines read. inr (fits.some replays lines (inl read)))) h
told_late {A} work before after (fault.InState n (input.Job f)) fits h =
    data_late work before after fits (state_data {A = A} work before after n (input.Job f) h)
told_late {A} work before after (fault.InState n (input.State f)) fits h =
    data_late work before after fits (state_data {A = A} work before after n (input.State f) h)
told_late {A} work before after (fault.InState n (input.System f)) fits h =
    data_late work before after fits (state_data {A = A} work before after n (input.System f) h)
told_late {A} work before after (fault.InState n input.ForceRange) fits h =
    data_late work before after fits (state_data {A = A} work before after n input.ForceRange h)
told_late work before after (fault.NotOneRun n) fits h = replayed_late work work.replays before after _ (λ x. x)
    (λ replays. lines_also work.progress work.whole (AreReached work) before after (λ lines all. inl all)) h
told_late work before after _ fits h = inl h

-- the progress before rejected code
pub told_code : {A : Type 0} (work : Work) (before after : Output) (f : CommandFault A) → status_of f ≡ status.RefusedKernel
    → ReportsBefore work before after f → ReportsCode work before after
told_code work before after (fault.Steps (step.Memory done)) is h = let bad : status.Memory ≡ status.RefusedKernel = is in cc
told_code work before after (fault.Out o) is h = let bad : status.File ≡ status.RefusedKernel = is in cc
told_code work before after (fault.Rejected (input.Energy f)) is h = h
told_code work before after fault.Memory is h = let bad : status.Memory ≡ status.RefusedKernel = is in cc
told_code work before after (fault.CannotRead path) is h = let bad : status.File ≡ status.RefusedKernel = is in cc
told_code work before after (fault.InState n (input.Energy f)) is h = h
told_code work before after (fault.InState n (input.Job f)) is h = let bad : status.RefusedData ≡ status.RefusedKernel = is in cc
told_code work before after (fault.InState n (input.State f)) is h = let bad : status.RefusedData ≡ status.RefusedKernel = is in cc
told_code work before after (fault.InState n (input.System f)) is h = let bad : status.RefusedData ≡ status.RefusedKernel = is in cc
told_code work before after (fault.InState n input.ForceRange) is h = let bad : status.RefusedData ≡ status.RefusedKernel = is in cc
told_code work before after (fault.NotOneRun n) is h = let bad : status.RefusedData ≡ status.RefusedKernel = is in cc
told_code work before after (fault.CommandLine e) is h = let bad : status.CommandLine ≡ status.RefusedKernel = is in cc
told_code work before after fault.NotText is h = let bad : status.CommandLine ≡ status.RefusedKernel = is in cc
told_code work before after (fault.Rejected (input.Job f)) is h = let bad : status.RefusedData ≡ status.RefusedKernel = is in cc
told_code work before after (fault.Rejected (input.State f)) is h = let bad : status.RefusedData ≡ status.RefusedKernel = is in cc
told_code work before after (fault.Rejected (input.System f)) is h = let bad : status.RefusedData ≡ status.RefusedKernel = is in cc
told_code work before after (fault.Rejected input.ForceRange) is h = let bad : status.RefusedData ≡ status.RefusedKernel = is in cc
told_code work before after (fault.NoSuchType name) is h = let bad : status.RefusedData ≡ status.RefusedKernel = is in cc
told_code work before after (fault.Gro f) is h = let bad : status.RefusedData ≡ status.RefusedKernel = is in cc
told_code work before after (fault.Box f) is h = let bad : status.RefusedData ≡ status.RefusedKernel = is in cc
told_code work before after (fault.Listing f) is h = let bad : status.RefusedData ≡ status.RefusedKernel = is in cc
told_code work before after (fault.Steps step.StepRange) is h = let bad : status.RefusedData ≡ status.RefusedKernel = is in cc

-- The fault may come after the first state of a stream that is replayed.
abbrev pub IsOnWay : {A : Type 0} → CommandFault A → Type 0
IsOnWay (fault.InState n f) = Unit {0}
IsOnWay (fault.NotOneRun n) = Unit {0}
IsOnWay _ = ⊥

-- without progress data are rejected before any output
none_data : (work : Work) (before after : Output) → IsUnbegun work → after ≡ before → ReportsData work before after
none_data work before after begins same = subst (λ o. ReportsData work before o) (sym same)
    (replayed_none work before _
    (λ read part. none_told work.progress (λ lines. work.read lines ⊎ work.texts lines) before (inl read)) begins)

-- the progress before rejected data, which come before any output or on the way of a stream
pub told_data : {A : Type 0} (work : Work) (before after : Output) (f : CommandFault A) → IsOrderly work → status_of f ≡ status.RefusedData
    → IsUnbegun work ⊎ IsOnWay f → ReportsBefore work before after f → ReportsData work before after
told_data work before after (fault.Steps (step.Memory done)) fits is at h = let bad : status.Memory ≡ status.RefusedData = is in cc
told_data work before after (fault.Out o) fits is at h = let bad : status.File ≡ status.RefusedData = is in cc
told_data work before after (fault.Rejected (input.Energy f)) fits is at h = let bad : status.RefusedKernel ≡ status.RefusedData = is in cc
told_data work before after fault.Memory fits is at h = let bad : status.Memory ≡ status.RefusedData = is in cc
told_data work before after (fault.CannotRead path) fits is at h = let bad : status.File ≡ status.RefusedData = is in cc
told_data {A} work before after (fault.InState n (input.Job f)) fits is at h = state_data {A = A} work before after n (input.Job f) h
told_data {A} work before after (fault.InState n (input.State f)) fits is at h = state_data {A = A} work before after n (input.State f) h
told_data work before after (fault.InState n (input.Energy f)) fits is at h = let bad : status.RefusedKernel ≡ status.RefusedData = is in cc
told_data {A} work before after (fault.InState n (input.System f)) fits is at h = state_data {A = A} work before after n (input.System f) h
told_data {A} work before after (fault.InState n input.ForceRange) fits is at h = state_data {A = A} work before after n input.ForceRange h
told_data work before after (fault.NotOneRun n) fits is at h = replayed_also work before after _ _
    (λ replays. lines_also work.progress work.whole (λ lines. work.read lines ⊎ work.texts lines) before after
    (λ lines all. inl (fits.whole replays lines all))) h
told_data work before after _ fits is (inl begins) h = none_data work before after begins h
told_data work before after _ fits is (inr bad) h = absurd bad

-- a command that has printed progress has completed some part
reached : (words : List (List ℕ)) (held : Held) (out out' : Output) (c : CommandView) (status : ℕ) (progress : Bool) (before after : Output)
    → (work_of held out out' c).progress ≡ progress → IsCommand words c → IsLate status (work_of held out out' c)
    → PrintsLines progress (AreReached (work_of held out out' c)) before after
    → (after ≡ before) ⊎ ReportsReached words held out out' status before after
reached words held out out' c status true before after is named late (lines, are, told) =
    inr (record { c = c; named = named; late = late; wanted = is; lines = lines; reached = are; told = told })
reached words held out out' c status false before after is named late h = inl h

late_number : (s : Status) (result : ℕ) (work : Work) → ComesLate s work → (result ≡ status_number s) ⊎ (result ≡ 4)
    → IsLate result work
late_number status.Memory result work late (inl is) = inl is
late_number status.File result work late (inl is) = inr (inl is)
late_number status.RefusedKernel result work late (inl is) = inr (inr (inl (is, late)))
late_number status.RefusedData result work late (inl is) = inr (inr (inr (is, late)))
late_number _ result work late (inl is) = absurd late
late_number _ result work late (inr four) = inl four

begun_late : {A : Type 0} (words : List (List ℕ)) (held : Held) (out out' : Output) (before after : Output) (f : CommandFault A) (result : ℕ)
    → (result ≡ status_number (status_of f)) ⊎ (result ≡ 4) → IsBegun words held out out' f before after
    → (after ≡ before) ⊎ ReportsReached words held out out' result before after
begun_late words held out out' before after f result number (inl h) = inl h.0
begun_late words held out out' before after f result number (inr (c, named, told)) =
    by_late (told_late (work_of held out out' c) before after f (orderly held out out' c) told)
  where
    by_late : (after ≡ before) ⊎ (ComesLate (status_of f) (work_of held out out' c) × IsReached (work_of held out out' c) before after)
        → (after ≡ before) ⊎ ReportsReached words held out out' result before after
    by_late (inl same) = inl same
    by_late (inr (late, h)) =
        reached words held out out' c result (work_of held out out' c).progress before after refl named
        (late_number (status_of f) result (work_of held out out' c) late number) h

says : (words : List (List ℕ)) (held : Held) (out out' : Output) (before between after : Output) (result : ℕ) (text : List ℕ) → before.failed < 2 ^ 64 - 1
    → (between ≡ before) ⊎ ReportsReached words held out out' result before between → PrintsIfCounted between after text
    → PrintsError words held out out' result before after text
says words held out out' before between after result text room (inl same) (inl prints) = inl (subst (λ o. Prints o after text) same prints)
says words held out out' before between after result text room (inl same) (inr left) =
    let few : between.failed < 2 ^ 64 - 1 = subst (λ (o : Output). o.failed < 2 ^ 64 - 1) (sym same) room in
    let bad : ⊥ = omega (arith, few, left.1) in absurd bad
says words held out out' before between after result text room (inr told) prints = inr (between, told, prints)

-- the statement of the page about a fault whose text follows the progress lines
pub says_told : {A : Type 0} (words : List (List ℕ)) (held : Held) (out out' : Output) (before between after : Output) (f : CommandFault A) (result : ℕ)
    → before.failed < 2 ^ 64 - 1 → IsBegun words held out out' f before between → IsReported f result (PrintsIfCounted between after)
    → IsReported f result (PrintsError words held out out' result before after)
says_told words held out out' before between after f result room begun (inl told) =
    let late = begun_late words held out out' before between f result (inl told.0) begun in
    inl (told.0, (told.1.0, told.1.1, says words held out out' before between after result _ room late told.1.2))
says_told words held out out' before between after f result room begun (inr told) =
    let late = begun_late words held out out' before between f result (inr told.0) begun in
    inr (told.0, says words held out out' before between after result _ room late told.1)
