-- Laws of arguments that name no command, and of lines written after a verdict.
use Rattle.std.proofs.Common.{◌≡◌, ◌≢◌, ◌⊎◌, ℕ, List, [], ◌∷◌, inl, inr, refl, subst, sym, IfErr, IfOk, OnOk, Result, Ok, Err}
use Rattle.command_line.specs.Commands.{CommandView}
use Rattle.command_line.specs.CommandLine.{IsCommand, faults_of}
use Rattle.command_line.proofs.CommandLineLaws.{asks_for_help, asks_for_version, is_misuse}
use Rattle.clap.specs.Words.{HasKind, kind_of}
use Rattle.clap.specs.declared.error.Error.{Error}
use Rattle.clap.specs.declared.error.kind.ErrorKind.{ErrorKind}
use Rattle.clap.specs.declared.error.kind.ErrorKind.TheVariants.{DisplayHelp, DisplayVersion, OutOfMemory}
use Rattle.fallible.specs.Out.{Appends, AppendsBeginning, Output}
use Rattle.cli.specs.Actions.{Held, Paths}
use Rattle.cli.specs.Command.{IsDone, version_line}
use Rattle.cli.specs.Performed.{HasAnswered, WritesLine, WritesText}
use Rattle.cli.specs.Refusals.{BeginsAnswer, IsUnanswered, WhyNotAnswered}
use Rattle.cli.specs.declared.faults.CommandFault.{CommandFault}
use Rattle.cli.specs.declared.faults.CommandFault.TheVariants as fault

-- why they were not answered, by the parser's error
pub unanswered : {A : Type 0} (words : List (List ℕ)) (e : Error) (before after : Output) (f : CommandFault A) → HasKind (faults_of words) e
    → (kind_of e ≡ OutOfMemory) ⊎ ((c : CommandView) → IsCommand words c → ⊥) → WhyNotAnswered (kind_of e) before after f → IsUnanswered words before after f
unanswered words e before after f kind none (inl h) = inl (h.0, h.1, is_misuse words e h.2 h.3 h.4 kind none, h.5)
unanswered words e before after f kind none (inr (inl (o, is, inl help))) =
    inr (inl (o, is, inl (asks_for_help words e help.0 kind, help.1)))
unanswered words e before after f kind none (inr (inl (o, is, inr version))) =
    inr (inl (o, is, inr (asks_for_version words e version.0 kind, version.1)))
unanswered words e before after f kind none (inr (inr h)) = inr (inr h)

-- why the text of the help or of the version was not printed
pub no_answer : {T A : Type 0} (r : Result T (CommandFault A)) (kind : ErrorKind) (text : List ℕ) (before after : Output)
    → (AppendsBeginning before after text → BeginsAnswer kind before after)
    → WritesLine text before after r → IfErr r (WhyNotAnswered kind before after)
no_answer (Ok x) kind text before after begun h = tt
no_answer (Err f) kind text before after begun (inl h) = inr (inr h)
no_answer (Err f) kind text before after begun (inr h) = inr (inl (h.0, h.1, begun h.2))

-- a text that isn't empty, and is the one that was made, if one was
pub some_text : {S E : Type 0} (bytes : S → List ℕ) (r : Result S E) → IfOk r (λ s. bytes s ≢ [])
    → (text : List ℕ) × (text ≢ []) × IfOk r (λ s. bytes s ≡ text)
some_text bytes (Ok s) some = (bytes s, some, refl)
some_text bytes (Err e) some = (0 ∷ [], (λ none. cc), tt)

-- words that were answered with help, or with the version, ask for it
pub answered : (words : List (List ℕ)) (held : Held) (requested : Paths) (e : Error) (before after : Output) → HasKind (faults_of words) e → HasAnswered (kind_of e) before after
    → IsDone words held requested requested before after
answered words held requested e before after kind (inl h) = inl (asks_for_help words e h.0 kind, refl, h.1)
answered words held requested e before after kind (inr h) = inr (inl (asks_for_version words e h.0 kind, refl, h.1))

-- help that was written, whatever it says, is one that says something
pub help_answered : {S E T A : Type 0} (bytes : S → List ℕ) (help : Result S E) (r : Result T (CommandFault A)) (kind : ErrorKind) (before after : Output) → kind ≡ DisplayHelp
    → IfOk help (λ s. bytes s ≢ []) → ((text : List ℕ) → IfOk help (λ s. bytes s ≡ text) → WritesLine text before after r) → OnOk r (HasAnswered kind before after)
help_answered {S} {E} {T} {A} bytes help r kind before after is some writes = of_text (some_text bytes help some)
  where
    written : (text : List ℕ) (w : Result T (CommandFault A)) → text ≢ [] → WritesLine text before after w → OnOk w (HasAnswered kind before after)
    written text (Ok x) some h = inl (is, (text, some, h))
    written text (Err f) some h = tt

    of_text : (text : List ℕ) × (text ≢ []) × IfOk help (λ s. bytes s ≡ text) → OnOk r (HasAnswered kind before after)
    of_text h = written h.0 r h.1 (writes h.0 h.2)

-- the version that was written is the program's
pub version_answered : {T A : Type 0} (r : Result T (CommandFault A)) (kind : ErrorKind) (before after : Output) → kind ≡ DisplayVersion → WritesLine version_line before after r
    → OnOk r (HasAnswered kind before after)
version_answered (Ok x) kind before after is h = inr (is, h)
version_answered (Err f) kind before after is h = tt

-- ---- the line of a verdict

-- the line states the verdict
pub line_written : {T A : Type 0} (r : Result T (CommandFault A)) (Why : CommandFault A → Type 0) (HasText : (List ℕ → Type 0) → Type 0) (text : List ℕ) (before after : Output)
    → Why fault.Memory → (Appends before after text → HasText (Appends before after)) → (AppendsBeginning before after text → HasText (AppendsBeginning before after))
    → WritesLine text before after r → WritesText Why HasText before after r
line_written (Ok x) Why HasText text before after memory whole began h = whole h
line_written (Err f) Why HasText text before after memory whole began (inl h) = inl (subst Why (sym h.0) memory, h.1)
line_written (Err f) Why HasText text before after memory whole began (inr h) = inr (h.0, h.1, began h.2)
