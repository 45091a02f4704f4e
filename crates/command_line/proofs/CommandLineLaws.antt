-- Laws of this program's command line, from the parser's contracts.
use Rattle.std.proofs.Common.{◌≡◌, ◌≢◌, ◌⊎◌, ◌∙◌, ◌<◌, ◌^◌, ℕ, List, [], ◌∷◌, Option, Some, None, MatchOption, ap, refl, sym, subst, true, inl, inr, arith, codes, length, slice_index_or, Result, map}
use Rattle.std.proofs.lemmas.List.{length-map}
use Rattle.std.specs.Borrow.{Bor}
use Rattle.std.proofs.lemmas.Result.{IfOk-weaker}
use Rattle.std.specs.declared.alloc.AllocError.{AllocError}
use Rattle.std.specs.Str.Parse.{ExplainsUnsignedError, HasUnsignedDigitsIfOk, IsNumeral, ParsesUnsigned, digits_value, without_leading_plus}
use Rattle.std.specs.declared.num.ParseIntError.{ParseIntError}
use Rattle.clap.specs.Words.{App, HasKind, HasMatchesOf, IsAmong, Kinds, ReadsOne, Row, Text, all_of, fault_of, is_simple, is_simple_and_free, kind_of, one_of, one_text, rows_of, subcommand_of, subcommand_rows_of}
use Rattle.clap.specs.declared.builder.command.Command as parser
use Rattle.clap.specs.declared.error.Error.{Error}
use Rattle.clap.specs.declared.error.kind.ErrorKind.{ErrorKind}
use Rattle.clap.specs.declared.error.kind.ErrorKind.TheVariants.{DisplayHelp, DisplayVersion, OutOfMemory, InvalidValue}
use Rattle.clap.specs.Kinds.{or_else}
use Rattle.clap.specs.declared.parser.matches.ArgMatches.{ArgMatches}
use Rattle.clap.specs.declared.parser.matches.Found.{Found}
use Rattle.clap.proofs.WalkLemmas.{one_text-rows}
use Rattle.clap.proofs.OnLiterals.{clap_on_literals}
use Rattle.command_line.specs.CommandLine.{AsksForHelp, AsksForVersion, IsBuilt, IsCommand, IsCommandOf, IsExplained, IsMisuse, IsNamedOf, IsParsed, IsShaped, Names, Says, SaysNumber, WritesNumber, faults_of, parser_faults_of, pasted, program}
use Rattle.command_line.specs.Commands.{CommandView}
use Rattle.command_line.specs.Views.{names_of}

-- ---- building the program

-- a command's shape determines the commands below it
pub shaped : (built : Result parser.Command AllocError) (app : App) → IsBuilt built app → IsShaped built app.top
shaped built app is = IfOk-weaker built _ _ (λ c h. (ap (λ (a : App). a.top) h.0, h.1)) is

-- ---- the parser's contracts for it

-- the program is a command whose matches the parser's contracts state
pub program_is_simple : is_simple program ≡ true
unfolding clap_on_literals
program_is_simple = refl

-- the program is such a command, and no argument has a rule about another, so they state its faults too
pub program_is_free : is_simple_and_free program ≡ true
unfolding clap_on_literals
program_is_free = refl

none_among : (kinds : Kinds) (k : ErrorKind) → kinds ≡ [] → IsAmong k kinds → ⊥
none_among [] k e among = among
none_among (x ∷ xs) k e among = cc

faultless : (words : List Text) (c : CommandView) → IsParsed words c → fault_of program words ≡ []
faultless words c is = is.0

-- words with a fault name no command to the parser
pub faulty_names_none : (words : List Text) (e : Error) → HasKind (fault_of program words) e
    → (kind_of e ≡ OutOfMemory) ⊎ ((c : CommandView) → IsParsed words c → ⊥)
faulty_names_none words e (inl memory) = inl memory
faulty_names_none words e (inr among) = inr (λ c is. none_among (fault_of program words) (kind_of e) (faultless words c is) among)

or_else_kind : (kinds next : Kinds) (e : Error) → HasKind kinds e → HasKind (or_else kinds next) e
or_else_kind [] next e (inl memory) = inl memory
or_else_kind [] next e (inr among) = absurd among
or_else_kind (k ∷ ks) next e has = has

-- an error of a kind that the parser finds in the words has a kind that the words' faults have
pub faulty_has_kind : (words : List Text) (e : Error) → HasKind (fault_of program words) e → HasKind (parser_faults_of words) e
faulty_has_kind words e has = or_else_kind (fault_of program words) (InvalidValue ∷ []) e has

or_else_none : (kinds : Kinds) (k : ErrorKind) (e : Error) → kinds ≡ [] → kind_of e ≡ k → HasKind (or_else kinds (k ∷ [])) e
or_else_none [] k e none is = inr (inl is)
or_else_none (x ∷ xs) k e none is = cc

-- If the parser finds no fault in the arguments, an `InvalidValue` error has a kind of their faults.
pub faultless_has_kind : (words : List Text) (e : Error) → fault_of program words ≡ [] → kind_of e ≡ InvalidValue → HasKind (parser_faults_of words) e
faultless_has_kind words e none is = or_else_none (fault_of program words) InvalidValue e none is

-- the parser's clauses, of a command that is this program
pub program_fails : (a : App) (words : List Text) (e : Error) → a ≡ program
    → (is_simple_and_free a ≡ true → HasKind (fault_of a words) e) → HasKind (fault_of program words) e
program_fails a words e is fails = subst (λ b. HasKind (fault_of b words) e) is (fails (ap is_simple_and_free is ∙ program_is_free))

-- If the parser finds no fault for a definition that is this program, the arguments have no fault.
pub program_passes : (a : App) (words : List Text) → a ≡ program
    → (is_simple_and_free a ≡ true → fault_of a words ≡ []) → fault_of program words ≡ []
program_passes a words is passes = subst (λ b. fault_of b words ≡ []) is (passes (ap is_simple_and_free is ∙ program_is_free))

-- likewise for matches: they name the command that the arguments name
pub program_meets : (a : App) (words : List Text) (m : ArgMatches) → a ≡ program → HasMatchesOf a words m
    → subcommand_rows_of m ≡ subcommand_of program words
program_meets a words m is has = (has (ap is_simple is ∙ program_is_simple)).1 ∙ ap (λ b. subcommand_of b words) is

-- If the matches give no command, the arguments name no command.
pub silent_names_none : (words : List Text) (said : Option (Text × List Row)) → said ≡ subcommand_of program words
    → ((c : CommandView) → IsNamedOf said c → ⊥) → (c : CommandView) → IsParsed words c → ⊥
silent_names_none words said is none c names = none c (subst (λ o. IsNamedOf o c) (sym is) names.1)

-- If the arguments of a pasted error name no command, all the arguments name none.
pub unexplained : (words arguments : List Text) (e : Error) → pasted words ≡ Some arguments
    → (kind_of e ≡ OutOfMemory) ⊎ ((c : CommandView) → IsExplained arguments c → ⊥)
    → (kind_of e ≡ OutOfMemory) ⊎ ((c : CommandView) → IsCommand words c → ⊥)
unexplained words arguments e is (inl memory) = inl memory
unexplained words arguments e is (inr none) = inr (λ c named. none c (subst (λ o. IsCommandOf o words c) is named))

-- a fault of the words that is neither out of memory nor a wish for help or for the version is misuse
pub is_misuse : (words : List Text) (e : Error) → (kind_of e ≢ OutOfMemory) → (kind_of e ≢ DisplayHelp) → (kind_of e ≢ DisplayVersion) → HasKind (faults_of words) e
    → (kind_of e ≡ OutOfMemory) ⊎ ((c : CommandView) → IsCommand words c → ⊥) → IsMisuse words
is_misuse words e memory help version (inl h) none = absurd (memory h)
is_misuse words e memory help version (inr among) (inl h) = absurd (memory h)
is_misuse words e memory help version (inr among) (inr none) = ((kind_of e, among, help, version), none)

-- a wish for help among the faults of the words
pub asks_for_help : (words : List Text) (e : Error) → kind_of e ≡ DisplayHelp → HasKind (faults_of words) e → AsksForHelp words
asks_for_help words e help (inl h) = let bad : DisplayHelp ≡ OutOfMemory = sym help ∙ h in cc
asks_for_help words e help (inr among) = subst (λ k. IsAmong k (faults_of words)) help among

-- a wish for the version among them
pub asks_for_version : (words : List Text) (e : Error) → kind_of e ≡ DisplayVersion → HasKind (faults_of words) e → AsksForVersion words
asks_for_version words e version (inl h) = let bad : DisplayVersion ≡ OutOfMemory = sym version ∙ h in cc
asks_for_version words e version (inr among) = subst (λ k. IsAmong k (faults_of words)) version among

-- how a text is read as an unsigned number of 64 bits
abbrev pub NumberGives : List ℕ → Result ℕ ParseIntError → Type 0
NumberGives t r = ParsesUnsigned 64 10 t r × ExplainsUnsignedError 10 t r × HasUnsignedDigitsIfOk t r

-- the result of reading a number, by the text that was read
number_read : (o : Option Text) (r : Option ℕ)
    → (o ≡ None → r ≡ None) → ((t : Text) → o ≡ Some t → ReadsOne NumberGives t r)
    → MatchOption r ((n : ℕ) → n < 2 ^ 64 → ((t : Text) × (o ≡ Some t) × WritesNumber t n) → ⊥)
    (λ n. (t : Text) × (o ≡ Some t) × WritesNumber t n)
number_read None None none some = λ n fits w. let bad : None ≡ Some w.0 = w.1 in cc
number_read None (Some n) none some = let bad : Some n ≡ None = none refl in cc
number_read (Some t) None none some = λ n fits w.
    let read = some t refl in
    let same : t ≡ w.0 = cc in
    let numeral = subst (λ u. IsNumeral 10 (without_leading_plus u)) (sym same) w.2.0 in
    let value : digits_value 10 (without_leading_plus t) ≡ n = ap (λ u. digits_value 10 (without_leading_plus u)) same ∙ w.2.1 in
    read.1.0 (numeral, omega (arith, value, fits))
number_read (Some t) (Some n) none some =
    let read = some t refl in
    (t, refl, (read.0.0.0, sym read.0.1))

-- the result of `get_one` for a number's argument
pub said_read : (name : Text) (f : Found) (r : Option ℕ) → (one_text f name ≡ None → r ≡ None)
    → ((t : Text) → one_text f name ≡ Some t → ReadsOne NumberGives t r)
    → MatchOption r ((n : ℕ) → n < 2 ^ 64 → SaysNumber name (rows_of f) n → ⊥) (SaysNumber name (rows_of f))
said_read name f r none some =
    let text = one_text-rows f name in
    number_read (one_of name (rows_of f)) r (λ e. none (text ∙ e)) (λ t e. some t (text ∙ e))

-- an argument says one number
pub said_once : (name : Text) (rows : List Row) (n m : ℕ) → SaysNumber name rows n → SaysNumber name rows m → n ≡ m
said_once name rows n m a b =
    let same : Some a.0 ≡ Some b.0 = sym a.1 ∙ b.1 in
    let same_text : a.0 ≡ b.0 = cc in
    sym a.2.1 ∙ ap (λ t. digits_value 10 (without_leading_plus t)) same_text ∙ b.2.1

-- ---- the names of types

-- the texts of a list of two
pub two_texts : (texts : List (Bor Text)) (d : Bor Text) → length texts ≡ 2
    → map (λ text. text.now) texts ≡ (slice_index_or texts 0 d).now ∷ (slice_index_or texts 1 d).now ∷ []
two_texts [] d count = absurd (omega (arith, count))
two_texts (x ∷ []) d count = absurd (omega (arith, count))
two_texts (x ∷ y ∷ []) d count = refl
two_texts (x ∷ y ∷ z ∷ rest) d count = absurd (omega (arith, count))

-- Two values of `--types` are its names.
pub types_said : (rows : List Row) (texts : List (Bor Text)) (first second : Bor Text) → Some (map (λ text. text.now) texts) ≡ all_of (codes "types") rows
    → map (λ text. text.now) texts ≡ first.now ∷ second.now ∷ []
    → Says (codes "types") rows Names (names_of (Some (first, second)))
types_said rows texts first second values two = sym values ∙ ap Some two

-- Other values are no names.
pub no_types : (rows : List Row) (texts : List (Bor Text)) → Some (map (λ text. text.now) texts) ≡ all_of (codes "types") rows
    → length texts ≢ 2 → (types : Option (Text × Text)) → Says (codes "types") rows Names types → ⊥
no_types rows texts values other None is =
    let bad : Some (map (λ text. text.now) texts) ≡ None = values ∙ is in
    cc
no_types rows texts values other (Some names) is =
    let same : Some (map (λ text. text.now) texts) ≡ Some (names.0 ∷ names.1 ∷ []) = values ∙ is in
    let texts_are : map (λ text. text.now) texts ≡ names.0 ∷ names.1 ∷ [] = some_same _ _ same in
    other (sym (length-map texts (λ text. text.now)) ∙ ap length texts_are)
  where
    some_same : (x y : List Text) → ◌≡◌ {A = Option (List Text)} (Some x) (Some y) → x ≡ y
    some_same x y e = cc
