-- The program's answer by the result of its arguments; and the page never rejects input for which it gives an output.
use Rattle.std.proofs.Common.{◌≡◌, ◌⊎◌, ◌∙◌, ◌<◌, ◌-◌, ◌^◌, ℕ, List, [], ◌∷◌, ap, arith, inl, inr, refl, sym, subst, codes}
use Rattle.command_line.specs.Commands.{CommandView}
use Rattle.command_line.specs.CommandLine.{AsksForHelp, AsksForVersion, IsCommand, IsMisuse}
use Rattle.command_line.proofs.OneCommand.{no_help, no_version, one_command}
use Rattle.fallible.specs.Out.{Output}
use Rattle.cli.specs.Actions.{AsksFor, EndOfRun, Held, OfKnownTask, OneText, Paths, StatesOfRun, StatesOfStream, TablesOfJob, Task, UpTo, also_requested, files_of}
use Rattle.cli.specs.Command.{HasOutput, IsAnswer, IsDone, IsNotRefused, IsQuiet, IsSaid, PrintsBefore, PrintsError, PrintsIfCounted, line}
use Rattle.cli.specs.CommandFailure.{IsFailure}
use Rattle.cli.specs.Performed.{EndsIn}
use Rattle.cli.specs.Refusals.{IsFaultOf, IsUnreadOf}
use Rattle.cli.specs.Reports.{IsReported, said}
use Rattle.cli.specs.Statuses.{status_number, status_of}
use Rattle.cli.specs.declared.faults.CommandFault.{CommandFault}
use Rattle.cli.specs.declared.faults.Status.TheVariants as status
use Rattle.cli.proofs.FileLaws.{task_also}
use Rattle.cli.proofs.FailLaws.{IsAccepted, IsKeptBut, IsWanting, ends, failure, fails_at, kept, reported, wanting}
use Rattle.cli.proofs.Printing.{said_by, said_memory}
use Rattle.cli.proofs.ProgressLaws.{begun, says_told}
use Rattle.cli.proofs.StatusLaws.{number_most}

-- ---- the files that are requested

asks_first : {A : Type 0} (held : Held) (paths : List (List ℕ)) (requested requested' : Paths) (f : CommandFault A) → IsUnreadOf held paths requested requested' f
    → UpTo (λ path before after. after ≡ also_requested before path) paths requested requested'
asks_first held [] requested requested' f h = h
asks_first held (path ∷ more) requested requested' f (inl h) = inl h.requested
asks_first held (path ∷ more) requested requested' f (inr h) = inr (asks_first held more (also_requested requested path) requested' f h)

asks_faulty : {A : Type 0} (words : List (List ℕ)) (held : Held) (requested requested' : Paths) (out out' err err' : Output) (f : CommandFault A)
    → EndsIn words held requested requested' out out' err err' f → (requested' ≡ requested) ⊎ ((c : CommandView) × IsCommand words c × AsksFor c requested requested')
asks_faulty words held requested requested' out out' err err' f (inl (h, still, quiet)) = inl still
asks_faulty words held requested requested' out out' err err' f (inr (c, named, inl h, told)) = inr (c, named, inr (asks_first held (files_of c) requested requested' f h.0))
asks_faulty words held requested requested' out out' err err' f (inr (c, named, inr h, told)) = inr (c, named, inl h.0)

-- ---- input with an output

-- words that name a command with an output are accepted
output_accepted : (words : List (List ℕ)) (held : Held) (c : CommandView) → IsCommand words c → OfKnownTask held c HasOutput
    → IsAccepted words held
output_accepted words held c named is = (
  λ misuse. misuse.1 c named,
  λ d named'. subst (λ x. OfKnownTask held x HasOutput) (sym (one_command words c d named named')) is,
)

-- Arguments that request help or the version, and aren't a misuse, are accepted.
wish_accepted : (words : List (List ℕ)) (held : Held) → AsksForHelp words ⊎ AsksForVersion words → (IsMisuse words → ⊥) → IsAccepted words held
wish_accepted words held (inl help) none = (none, λ c named. absurd (no_help words c named help))
wish_accepted words held (inr version) none = (none, λ c named. absurd (no_version words c named version))

-- ---- misuse

-- and end with the status of the command line, or memory ran out
misuse_faulty : {A : Type 0} (words : List (List ℕ)) (held : Held) (requested requested' : Paths) (out out' err err' : Output)
    (f : CommandFault A) → IsMisuse words → (AsksForHelp words ⊎ AsksForVersion words → ⊥) → EndsIn words held requested requested' out out' err err' f
    → (status_of f ≡ status.CommandLine) ⊎ (status_of f ≡ status.Memory)
misuse_faulty words held requested requested' out out' err err' f misuse none (inl (inl (e, told, also, same), still, quiet)) = inl (ap status_of told)
misuse_faulty words held requested requested' out out' err err' f misuse none (inl (inr (inl (o, told, inl help)), still, quiet)) = absurd (none (inl help.0))
misuse_faulty words held requested requested' out out' err err' f misuse none (inl (inr (inl (o, told, inr version)), still, quiet)) = absurd (none (inr version.0))
misuse_faulty words held requested requested' out out' err err' f misuse none (inl (inr (inr (told, same)), still, quiet)) = inr (ap status_of told)
misuse_faulty words held requested requested' out out' err err' f misuse none (inr (c, named, undone, told)) = absurd (misuse.1 c named)

misused_told : {A : Type 0} (f : CommandFault A) (result : ℕ) (Printed : List ℕ → Type 0)
    → (status_of f ≡ status.CommandLine) ⊎ (status_of f ≡ status.Memory) → IsReported f result Printed
    → (result ≡ 2) ⊎ (result ≡ 4)
misused_told f result Printed (inl is) (inl told) = inl (told.0 ∙ ap status_number is)
misused_told f result Printed (inr is) (inl told) = inr (told.0 ∙ ap status_number is)
misused_told f result Printed is (inr told) = inr told.0

-- ---- the status

-- texts that were printed before an error are also before the error that memory ran out for its text
before_memory : (t : Task) (status : ℕ) → PrintsBefore status t → PrintsBefore 4 t
before_memory (OneText text) status h = absurd h
before_memory (TablesOfJob job c) status h = refl
before_memory (EndOfRun job state run) status h = absurd h
before_memory (StatesOfRun Shows job state v) status h = refl
before_memory (StatesOfStream o states job bytes) status h = tt

-- If the fault is memory or a failed write, the exit status is its status or the status of memory.
only_told : {A : Type 0} (f : CommandFault A) (result : ℕ) (Printed : List ℕ → Type 0) (before after : Output) → IsWanting (status_of f) before after → IsReported f result Printed → IsNotRefused result before after
only_told f result Printed before after (inl memory) (inl told) = inr (inl (told.0 ∙ ap status_number memory))
only_told f result Printed before after (inr file) (inl told) = inr (inr (told.0 ∙ ap status_number file.0, file.1))
only_told f result Printed before after wants (inr told) = inr (inl told.0)

-- the output is kept, or texts were printed before an error with this status
kept_told : {A : Type 0} (words : List (List ℕ)) (held : Held) (requested requested' : Paths) (out out' err between : Output) (f : CommandFault A)
    (result : ℕ) (Printed : List ℕ → Type 0)
    → IsKeptBut words held requested requested' out out' err between (status_number (status_of f)) → IsReported f result Printed
    → IsKeptBut words held requested requested' out out' err between result
kept_told words held requested requested' out out' err between f result Printed h (inl told) =
    subst (IsKeptBut words held requested requested' out out' err between) (sym told.0) h
kept_told words held requested requested' out out' err between f result Printed (inl kept) (inr told) = inl kept
kept_told words held requested requested' out out' err between f result Printed (inr (c, named, before)) (inr told) =
    inr (
      c,
      named,
      task_also held c (PrintsBefore (status_number (status_of f))) (PrintsBefore result)
          (λ t h. subst (λ n. PrintsBefore n t) (sym told.0) (before_memory t (status_number (status_of f)) h)) before,
    )

-- ---- texts of faults

said_told : {A : Type 0} (f : CommandFault A) (result : ℕ) (Printed : List ℕ → Type 0) → IsReported f result Printed → (text : List ℕ) × IsSaid result text × Printed text
said_told f result Printed (inl told) =
    (said (status_of f) told.1.0, subst (λ n. IsSaid n (said (status_of f) told.1.0)) (sym told.0) (said_by (status_of f) told.1.0 told.1.1), told.1.2)
said_told f result Printed (inr told) = (line (codes "Memory"), said_memory result, told.1)

-- ---- the whole

-- If arguments end in a fault, the fault is explained by the arguments and the files (`IsFaultOf`).
pub faulty : {A : Type 0} (words : List (List ℕ)) (held : Held) (requested requested' : Paths) (out out' err err' : Output) (f : CommandFault A)
    → EndsIn words held requested requested' out out' err err' f → IsFaultOf words held requested requested' out out' f
faulty words held requested requested' out out' err err' f (inl (h, still, quiet)) = inl (h, still)
faulty words held requested requested' out out' err err' f (inr (c, named, undone, told)) = inr (c, named, undone)

pub answers_fault : {A : Type 0} (words : List (List ℕ)) (held : Held) (requested requested' : Paths) (out out' err between err' : Output) (f : CommandFault A) (result : ℕ) → err.failed < 2 ^ 64 - 1
    → EndsIn words held requested requested' out out' err between f → IsReported f result (PrintsIfCounted between err')
    → IsAnswer words held requested requested' out out' err err' result
answers_fault words held requested requested' out out' err between err' f result room is told =
    let fails = ends words held requested requested' out out' err between f is in
    let wants = λ (has : IsAccepted words held). wanting words held requested requested' out out' err between (status_of f) has fails in
    let number = reported words held requested requested' out out' err between f result (PrintsIfCounted between err') fails told in
    let same : result ≡ status_number number.0 = number.2 in
    let most = number_most number.0 in
    record {
      most = omega (arith, same, most);
      done = λ zero. absurd (fails_at words held requested requested' out out' err between result status.Done number zero);
      quiet = λ zero. absurd (fails_at words held requested requested' out out' err between result status.Done number zero);
      said = λ some. said_told f result (PrintsError words held out out' result err err')
          (says_told words held out out' err between err' f result room (begun words held requested requested' out out' err between f is) told);
      kept = λ some. kept_told words held requested requested' out out' err between f result (PrintsIfCounted between err')
          (kept words held requested requested' out out' err between (status_of f) fails) told;
      misuse = λ two. let misused = fails_at words held requested requested' out out' err between result status.CommandLine number two in (misused.0, misused.2);
      misused = λ misuse none. misused_told f result (PrintsIfCounted between err')
          (misuse_faulty words held requested requested' out out' err between f misuse none is) told;
      reads = asks_faulty words held requested requested' out out' err between f is;
      only = λ c named accepted. only_told f result (PrintsIfCounted between err') out out' (wants (output_accepted words held c named accepted)) told;
      answered = λ wish none. only_told f result (PrintsIfCounted between err') out out' (wants (wish_accepted words held wish none)) told;
    }

-- If arguments were carried out, and standard error has at most progress lines, the answer is status 0.
pub answers_done : (words : List (List ℕ)) (held : Held) (requested requested' : Paths) (out out' err err' : Output) (result : ℕ)
    → result ≡ 0 → IsDone words held requested requested' out out' → IsQuiet words held out out' err err'
    → IsAnswer words held requested requested' out out' err err' result
answers_done words held requested requested' out out' err err' result zero ended told = record {
  most = omega (arith, zero);
  done = λ same. ended;
  quiet = λ same. told;
  said = λ some. absurd (some zero);
  kept = λ some. absurd (some zero);
  misuse = λ two. absurd (omega (arith, two, zero));
  misused = λ misuse none. absurd (is_wished misuse none ended);
  reads = asked ended;
  only = λ c named known. inl zero;
  answered = λ wish named. inl zero;
}
  where
    is_wished : IsMisuse words → (AsksForHelp words ⊎ AsksForVersion words → ⊥) → IsDone words held requested requested' out out' → ⊥
    is_wished misuse none (inl help) = none (inl help.0)
    is_wished misuse none (inr (inl version)) = none (inr version.0)
    is_wished misuse none (inr (inr (c, named, asks, printed))) = misuse.1 c named

    asked : IsDone words held requested requested' out out'
        → (requested' ≡ requested) ⊎ ((c : CommandView) × IsCommand words c × AsksFor c requested requested')
    asked (inl help) = inl help.1
    asked (inr (inl version)) = inl version.1
    asked (inr (inr (c, named, asks, printed))) = inr (c, named, inl asks)

-- and how it failed
pub failure_told : {A : Type 0} (words : List (List ℕ)) (held : Held) (requested requested' : Paths) (out out' err between err' : Output) (f : CommandFault A) (result : ℕ)
    → EndsIn words held requested requested' out out' err between f → IsReported f result (PrintsIfCounted between err')
    → IsFailure words held requested requested' out out' err err' result
failure_told words held requested requested' out out' err between err' f result is told =
    failure words held requested requested' out out' err between result err'
    (reported words held requested requested' out out' err between f result (PrintsIfCounted between err') (ends words held requested requested' out out' err between f is) told)
    (said_told f result (PrintsIfCounted between err') told)
