-- Parts and step counters. A text writes at most one: a numeral has no slash (47), so the slash separates two numerals.
use Rattle.std.proofs.Common.{◌≡◌, ◌≢◌, ◌∙◌, ◌≤◌, ◌<◌, ◌^◌, ℕ, ℤ, List, [], ◌∷◌, ◌++◌, MatchOption, Option, Some, None, ap, arith, drop, get_or, length, refl, subst, suc, sym, zero}
use Rattle.std.proofs.lemmas.Str.Parse.{digit_from_value}
use Rattle.std.proofs.lemmas.Str.Pattern.{IsSplitOnceResult, split_after, split_parts}
use Rattle.std.specs.Borrow.{Bor}
use Rattle.std.specs.Str.Parse.{AllDigits, digits_value, signed_digits_value}
use Rattle.clap.specs.Words.{Row, Text, first_of}
use Rattle.command_line.specs.CommandLine.{SaysCounter, SaysPart, WritesCounter, WritesPart, WritesPlain}

some_text : (t u : Text) → ◌≡◌ {A = Option Text} (Some t) (Some u) → t ≡ u
some_text t u same = cc

-- ---- step counters

-- an argument says one step counter
pub counter_said_once : (name : Text) (rows : List Row) (a b : ℤ) → SaysCounter name rows a → SaysCounter name rows b → a ≡ b
counter_said_once name rows a b is also =
    let same = some_text is.0 also.0 (sym is.1 ∙ also.1) in
    sym is.2.1 ∙ ap (signed_digits_value 10) same ∙ also.2.1

-- the step counter of an argument is that of its value
pub counter_read : (name : Text) (rows : List Row) (text : Text) (r : Option ℤ) → Some text ≡ first_of name rows
    → MatchOption r ((counter : ℤ) → WritesCounter text counter → ⊥) (WritesCounter text)
    → MatchOption r ((counter : ℤ) → SaysCounter name rows counter → ⊥) (SaysCounter name rows)
counter_read name rows text (Some counter) value is = (text, sym value, is)
counter_read name rows text None value none = λ counter is.
    none counter (subst (λ t. WritesCounter t counter) (some_text is.0 text (sym is.1 ∙ sym value)) is.2)

-- ---- parts

-- a numeral has no slash
no_slash : (text : Text) → AllDigits 10 text → (i : ℕ) → i < length text → get_or text i 0 ≢ 47
no_slash [] all i within is = absurd (omega (arith, within))
no_slash (c ∷ cs) all zero within is = let range = digit_from_value c all.0 in absurd (omega (arith, range.0, is))
no_slash (c ∷ cs) all (suc i) within is = no_slash cs all.1 i (omega (arith, within)) is

-- If the text before a slash is a numeral, it is the only such text.
one_split : (f b g d : Text) → AllDigits 10 f → AllDigits 10 g → f ++ 47 ∷ b ≡ g ++ 47 ∷ d → (f ≡ g) × (b ≡ d)
one_split [] b [] d front front' same = (refl, ap (drop 1) same)
one_split [] b (y ∷ ys) d front front' same =
    absurd (no_slash (y ∷ ys) front' 0 (omega arith) (sym (ap (λ t. get_or t 0 0) same)))
one_split (x ∷ xs) b [] d front front' same = absurd (no_slash (x ∷ xs) front 0 (omega arith) (ap (λ t. get_or t 0 0) same))
one_split (x ∷ xs) b (y ∷ ys) d front front' same =
    let rest = one_split xs b ys d front.1 front'.1 (ap (drop 1) same) in
    let head : x ≡ y = ap (λ t. get_or t 0 0) same in
    (ap (λ h. h ∷ xs) head ∙ ap (λ t. y ∷ t) rest.0, rest.1)

both : (p q : ℕ × ℕ) → p.0 ≡ q.0 → p.1 ≡ q.1 → p ≡ q
both (a, b) (c, d) first second = rw (first, second) refl

-- a text writes one part
part_once : (text : Text) (p q : ℕ × ℕ) → WritesPart text p → WritesPart text q → p ≡ q
part_once text p q is also =
    let same = one_split is.number is.all also.number also.all is.part'.0.1 also.part'.0.1 (sym is.text' ∙ also.text') in
    both p q (sym is.part'.1 ∙ ap (digits_value 10) same.0 ∙ also.part'.1) (sym is.parts.1 ∙ ap (digits_value 10) same.1 ∙ also.parts.1)

-- an argument says one part
pub part_said_once : (name : Text) (rows : List Row) (p q : ℕ × ℕ) → SaysPart name rows p → SaysPart name rows q → p ≡ q
part_said_once name rows p q is also =
    let same = some_text is.0 also.0 (sym is.1 ∙ also.1) in
    part_once also.0 p q (subst (λ t. WritesPart t p) same is.2) also.2

-- the part of an argument is that of its value
pub part_read : (name : Text) (rows : List Row) (text : Text) (r : Option (ℕ × ℕ)) → Some text ≡ first_of name rows
    → MatchOption r ((part : ℕ × ℕ) → WritesPart text part → ⊥) (WritesPart text)
    → MatchOption r ((part : ℕ × ℕ) → SaysPart name rows part → ⊥) (SaysPart name rows)
part_read name rows text (Some part) value is = (text, sym value, is)
part_read name rows text None value none = λ part is.
    none part (subst (λ t. WritesPart t part) (some_text is.0 text (sym is.1 ∙ sym value)) is.2)

-- ---- reading a part

-- a text without a slash writes no part
pub no_part : (text : Text) (part : ℕ × ℕ) → IsSplitOnceResult 47 text None → WritesPart text part → ⊥
no_part text part cut w = split_after 47 text w.number w.all None cut (omega arith) w.text' (no_slash w.number w.part'.0.1)

-- the numerals of a part are the texts before and after the first slash
pub part_texts : (text : Text) (halves : Bor Text × Bor Text) (part : ℕ × ℕ) → IsSplitOnceResult 47 text (Some halves)
    → WritesPart text part → WritesPlain halves.0.now part.0 × WritesPlain halves.1.now part.1
part_texts text halves part cut w =
    let same = split_after 47 text w.number w.all (Some halves) cut (omega arith) w.text' (no_slash w.number w.part'.0.1) in
    (subst (λ t. WritesPlain t part.0) (sym same.0) w.part', subst (λ t. WritesPlain t part.1) (sym same.1) w.parts)

-- two numerals around the first slash write a part
pub writes_part : (text : Text) (halves : Bor Text × Bor Text) (part parts : ℕ) → IsSplitOnceResult 47 text (Some halves)
    → WritesPlain halves.0.now part → WritesPlain halves.1.now parts → 1 ≤ part → part ≤ parts → parts < 2 ^ 64
    → WritesPart text (part, parts)
writes_part text halves part parts cut first second some within fits = record {
  number = halves.0.now;
  all = halves.1.now;
  text' = (split_parts 47 text (Some halves) cut (omega arith)).0;
  part' = first;
  parts = second;
  some = some;
  within = within;
  fits = fits;
}

-- a numeral without a sign writes one number
pub plain_once : (text : Text) (n m : ℕ) → WritesPlain text n → WritesPlain text m → n ≡ m
plain_once text n m is also = sym is.1 ∙ also.1
