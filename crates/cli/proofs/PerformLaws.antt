-- How commands end, by the calls that they end with.
use Rattle.std.proofs.Common.{◌≡◌, ℕ, List, inr, refl, subst, sym, IfErr, OnOk, Result, Ok, Err}
use Rattle.command_line.specs.Commands.{CommandView}
use Rattle.command_line.specs.CommandLine.{IsCommand}
use Rattle.command_line.specs.Views.{command_view}
use Rattle.command_line.specs.declared.commands.Command.{Command}
use Rattle.std.specs.Result.{IsErrAnd, MatchResult, result_map_both}
use Rattle.fallible.specs.Out.{Appends, AppendsBeginning, Output, Writes}
use Rattle.fallible.specs.declared.output.OutFault.{OutFault}
use Rattle.cli.specs.Actions.{Held, IsHeld, OneText, Paths, Task, Text, action_of, also_requested, of_one, of_two, work_of}
use Rattle.cli.specs.Command.{HasPrinted, HasText, IsDone, IsQuiet}
use Rattle.cli.specs.Performed.{EndsIn, Performs, WritesText}
use Rattle.cli.specs.Progress.{Reports}
use Rattle.cli.specs.Refusals.{IsTaskUndone, RefusesText}
use Rattle.cli.specs.declared.faults.CommandFault.{CommandFault}
use Rattle.cli.specs.declared.faults.CommandFault.TheVariants as fault

-- ---- results that are handed on

-- If a result is this error, and a statement holds of the error, the statement holds of the result.
pub handed_on : {T E : Type 0} (r : Result T E) (f : E) (P : T → Type 0) (Q : E → Type 0) → IsErrAnd r (λ e. e ≡ f) → Q f → MatchResult r P Q
handed_on (Ok x) f P Q is why = absurd is
handed_on (Err e) f P Q is why = subst Q (sym is) why

-- ---- texts

-- If a command's result is the result of writing its text, the command writes this text, or a prefix on failure.
pub text_written : {T A : Type 0} (wrote : Result T OutFault) (r : Result T (CommandFault A)) (Why : CommandFault A → Type 0) (HasText : (List ℕ → Type 0) → Type 0) (before after : Output) (text : List ℕ)
    → r ≡ result_map_both (λ x. x) fault.Out wrote → Writes before after text wrote
    → (Appends before after text → HasText (Appends before after)) → (AppendsBeginning before after text → HasText (AppendsBeginning before after)) → WritesText Why HasText before after r
text_written (Ok x) r Why HasText before after text is writes whole began = subst (λ t. WritesText Why HasText before after t) (sym is) (whole writes)
text_written (Err o) r Why HasText before after text is writes whole began = subst (λ t. WritesText Why HasText before after t) (sym is) (inr (o, refl, began writes))

-- What read its file, and ended with a result of the task that the file's contents give it, is an action.
pub file_read : {T A : Type 0} (r : Result T (CommandFault A)) (held : Held) (requested requested' : Paths) (path a : List ℕ)
    (task : List ℕ → Task) (before after : Output) → requested' ≡ also_requested requested path → IsHeld held path a
    → MatchResult r (λ x. HasPrinted (task a) before after) (IsTaskUndone held (task a) before after)
    → Performs held requested requested' (of_one path task) before after r
file_read (Ok x) held requested requested' path a task before after asks known h = (asks, (a, known, h))
file_read (Err f) held requested requested' path a task before after asks known h = inr (asks, (a, known, h))

-- What read its two files, and ended with the result of writing a text of their contents, is an action with this text.
pub text_of_files : {T A : Type 0} (r : Result T (CommandFault A)) (held : Held) (requested requested' : Paths)
    (first second a b : List ℕ) (text : List ℕ → List ℕ → Text) (before after : Output)
    → requested' ≡ also_requested (also_requested requested first) second → IsHeld held first a → IsHeld held second b
    → WritesText (RefusesText (text a b)) (HasText (text a b)) before after r
    → Performs held requested requested' (of_two first second (λ x y. OneText (text x y))) before after r
text_of_files (Ok x) held requested requested' first second a b text before after all known known' h = (all, (a, known, (b, known', h)))
text_of_files (Err f) held requested requested' first second a b text before after all known known' h =
    inr (all, (a, known, (b, known', h)))

-- A command that was performed is done.
pub performed : {T A : Type 0} (r : Result T (CommandFault A)) (words : List (List ℕ)) (held : Held) (requested requested' : Paths)
    (c : CommandView) (before after : Output) → IsCommand words c → Performs held requested requested' (action_of c) before after r
    → OnOk r (IsDone words held requested requested' before after)
performed (Ok x) words held requested requested' c before after named h = inr (inr (c, named, h.0, h.1))
performed (Err f) words held requested requested' c before after named h = tt

-- Its progress is all that it prints on standard error.
pub performed_quiet : {T A : Type 0} (r : Result T (CommandFault A)) (words : List (List ℕ)) (held : Held) (out out' : Output)
    (c : CommandView) (before after : Output) → IsCommand words c → Reports (work_of held out out' c) before after r
    → OnOk r (IsQuiet words held out out' before after)
performed_quiet (Ok x) words held out out' c before after named h = inr (c, named, h)
performed_quiet (Err f) words held out out' c before after named h = tt

-- If a command isn't performed, the fault explains why.
pub unperformed : {T A : Type 0} (r : Result T (CommandFault A)) (words : List (List ℕ)) (held : Held) (requested requested' : Paths)
    (c : CommandView) (out out' before after : Output) → IsCommand words c
    → Performs held requested requested' (action_of c) out out' r → Reports (work_of held out out' c) before after r
    → IfErr r (EndsIn words held requested requested' out out' before after)
unperformed (Ok x) words held requested requested' c out out' before after named h told = tt
unperformed (Err f) words held requested requested' c out out' before after named h told = inr (c, named, h, told)

-- ---- commands

-- If two commands are equal, the result of one is a result of the other.
pub performs_as : {T A : Type 0} (r : Result T (CommandFault A)) (held : Held) (requested requested' : Paths) (c d : Command)
    (before after : Output) → c ≡ d → Performs held requested requested' (action_of (command_view d)) before after r
    → Performs held requested requested' (action_of (command_view c)) before after r
performs_as r held requested requested' c d before after is h =
    subst (λ x. Performs held requested requested' (action_of (command_view x)) before after r) (sym is) h

-- likewise its progress
pub reports_as : {T A : Type 0} (r : Result T (CommandFault A)) (held : Held) (out out' : Output) (c d : Command) (before after : Output)
    → c ≡ d → Reports (work_of held out out' (command_view d)) before after r → Reports (work_of held out out' (command_view c)) before after r
reports_as r held out out' c d before after is h = subst (λ x. Reports (work_of held out out' (command_view x)) before after r) (sym is) h
