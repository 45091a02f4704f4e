-- Arguments mean one command at most, since each argument has one value at most. Arguments that name a command request
-- neither help nor the version.
use Rattle.std.proofs.Common.{◌≡◌, ◌∙◌, List, [], ◌∷◌, Bool, true, false, Option, Some, None, ap, refl, subst, sym, inl, inr}
use Rattle.clap.specs.Words.{IsAmong, Kinds, Row, Text, fault_of, subcommand_of}
use Rattle.clap.specs.Kinds.{or_else}
use Rattle.clap.specs.declared.error.kind.ErrorKind.{ErrorKind}
use Rattle.clap.specs.declared.error.kind.ErrorKind.TheVariants.{DisplayHelp, DisplayVersion, InvalidValue}
use Rattle.command_line.specs.CommandLine.{ACode, ACount, ACounter, AFlag, AFlagUnless, ANumber, APart, AText, AsksForHelp, AsksForVersion, Gives, IsCommand, IsCommandOf, IsExplained, IsGiven, IsMeant, IsMeantBy, IsNamedOf, Kind, Names, Perhaps, Reads, Says, Takes, Usage, ValueOf, both_of, faults_in, pasted, program, followed_by, usage_in, usages}
use Rattle.command_line.specs.Commands.{CommandView, Explain}
use Rattle.command_line.proofs.CommandLineLaws.{said_once}
use Rattle.command_line.proofs.CountLaws.{count_said_once}
use Rattle.command_line.proofs.PartLaws.{counter_said_once, part_said_once}

-- ---- values of arguments

one_text : (a b : Text) → ◌≡◌ {A = Option Text} (Some b) (Some a) → b ≡ a
one_text a b same = cc

one_flag : (flag : Text) (rows : List Row) (a b : Bool) → IsGiven flag rows a → IsGiven flag rows b → b ≡ a
one_flag flag rows true true is also = refl
one_flag flag rows true false is also = absurd (also is)
one_flag flag rows false true is also = absurd (is also)
one_flag flag rows false false is also = refl

one_pair : (a b : Option (Text × Text)) → both_of b ≡ both_of a → b ≡ a
one_pair None None same = refl
one_pair None (Some t) same = let bad : Some (t.0 ∷ t.1 ∷ []) ≡ None = same in cc
one_pair (Some s) None same = let bad : None ≡ Some (s.0 ∷ s.1 ∷ []) = same in cc
one_pair (Some s) (Some t) same =
    let texts : Some (t.0 ∷ t.1 ∷ []) ≡ Some (s.0 ∷ s.1 ∷ []) = same in
    let first : t.0 ≡ s.0 = cc in
    let second : t.1 ≡ s.1 = cc in
    ap Some (both t s first second)
  where
    both : (t s : Text × Text) → t.0 ≡ s.0 → t.1 ≡ s.1 → t ≡ s
    both (t, u) (s, v) first second = rw (first, second) refl

-- an argument has one value
pub says_once : (name : Text) (rows : List Row) (kind : Kind) (a b : ValueOf kind) → Says name rows kind a
    → Says name rows kind b → b ≡ a
says_once name rows AText a b is also = one_text a b (sym also ∙ is)
says_once name rows Perhaps a b is also = sym also ∙ is
says_once name rows AFlag a b is also = one_flag name rows a b is also
says_once name rows (AFlagUnless other) a b is also = one_flag name rows a b is.0 also.0
says_once name rows (ANumber least most) a b is also = said_once name rows b a also.2 is.2
says_once name rows (ACount least most) a b is also = count_said_once name rows b a also.2 is.2
says_once name rows ACounter a b is also = counter_said_once name rows b a also is
says_once name rows APart a b is also = part_said_once name rows b a also is
says_once name rows Names a b is also = one_pair a b (sym also ∙ is)
says_once name rows ACode a b is also = also.0 ∙ sym is.0

-- ---- meanings of arguments

-- arguments have one meaning
pub meant_once : {T : Type 0} (rows : List Row) (usage : Usage T) (a b : T) → IsMeant rows usage a → IsMeant rows usage b → b ≡ a
meant_once rows (Gives value) a b is also = also ∙ sym is
meant_once rows (Takes name kind next) a b (x, says, is) (y, says', also) =
    meant_once rows (next x) a b is
    (subst (λ v. IsMeant rows (next v) b) (says_once name rows kind x y says says') also)

-- If arguments mean something, the first of them has a value.
pub unsaid : {W : Type 0} (name : Text) (rows : List Row) (kind : Kind) (next : ValueOf kind → Usage W)
    → ((value : ValueOf kind) → Says name rows kind value → ⊥) → (w : W) → IsMeant rows (Takes name kind next) w → ⊥
unsaid name rows kind next none w is = none is.0 is.1

-- If the first argument has a value, the others determine the meaning.
pub after : {R W : Type 0} (name : Text) (rows : List Row) (kind : Kind) (next : ValueOf kind → Usage W) (view : R → W)
    (r : Option R) (value : ValueOf kind) → Says name rows kind value → Reads (next value) rows view r
    → Reads (Takes name kind next) rows view r
after name rows kind next view (Some x) value says is = (value, says, is)
after name rows kind next view None value says none = λ w is.
    none w (subst (λ v. IsMeant rows (next v) w) (says_once name rows kind value is.0 says is.1) is.2)

meant_first : {T W : Type 0} (rows : List Row) (first : Usage T) (next : T → Usage W) (w : W) → IsMeant rows (followed_by first next) w
    → (v : T) × IsMeant rows first v × IsMeant rows (next v) w
meant_first rows (Gives value) next w is = (value, refl, is)
meant_first rows (Takes name kind more) next w (x, says, is) =
    let h = meant_first rows (more x) next w is in (h.0, (x, says, h.1), h.2)

-- A meaning of the first arguments and one of the others make a meaning of all.
pub meant_then : {T W : Type 0} (rows : List Row) (first : Usage T) (next : T → Usage W) (v : T) (w : W) → IsMeant rows first v
    → IsMeant rows (next v) w → IsMeant rows (followed_by first next) w
meant_then rows (Gives value) next v w is more = subst (λ u. IsMeant rows (next u) w) is more
meant_then rows (Takes name kind rest) next v w (x, says, is) more = (x, says, meant_then rows (rest x) next v w is more)

-- If the first arguments mean nothing, all arguments mean nothing.
pub none_then : {T W : Type 0} (rows : List Row) (first : Usage T) (next : T → Usage W) → ((v : T) → IsMeant rows first v → ⊥)
    → (w : W) → IsMeant rows (followed_by first next) w → ⊥
none_then rows first next none w is = let h = meant_first rows first next w is in none h.0 h.1

-- If the first arguments have a meaning, the others determine the meaning of all.
pub after_all : {R T W : Type 0} (rows : List Row) (first : Usage T) (next : T → Usage W) (view : R → W) (r : Option R) (v : T)
    → IsMeant rows first v → Reads (next v) rows view r → Reads (followed_by first next) rows view r
after_all rows first next view (Some x) v says is = meant_then rows first next v (view x) says is
after_all rows first next view None v says none = λ w is.
    let h = meant_first rows first next w is in
    none w (subst (λ u. IsMeant rows (next u) w) (meant_once rows first v h.0 says h.1) h.2)

-- ---- commands

meant_by_once : (usage : Option (Usage CommandView)) (rows : List Row) (c d : CommandView) → IsMeantBy usage rows c → IsMeantBy usage rows d
    → d ≡ c
meant_by_once None rows c d is also = absurd is
meant_by_once (Some usage) rows c d is also = meant_once rows usage c d is also

named_once : (said : Option (Text × List Row)) (c d : CommandView) → IsNamedOf said c → IsNamedOf said d → d ≡ c
named_once None c d is also = absurd is
named_once (Some said) c d is also = meant_by_once (usage_in usages said.0) said.1 c d is also

explained_once : (arguments : List Text) (c d : CommandView) → IsExplained arguments c → IsExplained arguments d → d ≡ c
explained_once arguments c d (code, is, same) (code', also, same') = same' ∙ ap Explain (also.0 ∙ sym is.0) ∙ sym same

command_once : (o : Option (List Text)) (words : List Text) (c d : CommandView) → IsCommandOf o words c → IsCommandOf o words d → d ≡ c
command_once None words c d is also = named_once (subcommand_of program words) c d is.1 also.1
command_once (Some arguments) words c d is also = explained_once arguments c d is also

-- arguments name one command
pub one_command : (words : List Text) (c d : CommandView) → IsCommand words c → IsCommand words d → d ≡ c
one_command words c d is also = command_once (pasted words) words c d is also

-- ---- help and the version

no_wish : (kinds : Kinds) (k : ErrorKind) → kinds ≡ [] → (k ≡ InvalidValue → ⊥) → IsAmong k (or_else kinds (InvalidValue ∷ [])) → ⊥
no_wish [] k none other (inl is) = other is
no_wish [] k none other (inr among) = among
no_wish (x ∷ xs) k none other among = cc

no_wish_of : (o : Option (List Text)) (words : List Text) (c : CommandView) (k : ErrorKind) → IsCommandOf o words c
    → (k ≡ InvalidValue → ⊥) → IsAmong k (faults_in o words) → ⊥
no_wish_of None words c k is other among = no_wish (fault_of program words) k is.0 other among
no_wish_of (Some arguments) words c k is other among = no_wish [] k refl other among

-- arguments that name a command request no help
pub no_help : (words : List Text) (c : CommandView) → IsCommand words c → AsksForHelp words → ⊥
no_help words c is asks = no_wish_of (pasted words) words c DisplayHelp is (λ e. cc) asks

-- nor the version
pub no_version : (words : List Text) (c : CommandView) → IsCommand words c → AsksForVersion words → ⊥
no_version words c is asks = no_wish_of (pasted words) words c DisplayVersion is (λ e. cc) asks
