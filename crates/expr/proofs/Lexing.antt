-- The token at the front of bytes: it is read if and only if the lexical grammar derives it, and an error says what is
-- wrong.
use Rattle.std.proofs.Common.{◌≡◌, ℕ, suc, ℤ, pos, negsuc, ◌+◌, ◌-◌, ◌<◌, ◌≤◌, Bool, true, false, cond, if◌then◌else◌, eqb, List, [], ◌∷◌, ◌++◌, length, take, drop, Option, Some, None, Result, Ok, Err, refl, sym, ap, subst, ◌∙◌, append_assoc, length-append, arith, eqb-true, take-append-drop, take_at, drop_at}
use Rattle.std.proofs.lemmas.Bool.Decides.{nat_tests}
use Rattle.std.specs.List.{AllPass, prefix_len}
use Rattle.std.specs.Char.{is_ascii_digit}
use Rattle.fixed.specs.declared.constants.Constant.{Constant}
use Rattle.fixed.specs.declared.faults.NumFault.{NumFault}
use Rattle.fixed.specs.declared.faults.NumFault.TheVariants as number
use Rattle.fixed.specs.Numerals.{Fraction, no_point, point, Numeral, IsNumeral, fraction_digits, fraction_text, exponent_text, numeral_text, mantissa_of, power_of_ten, nearest_fixed, value_of, EndsBefore, with_rest}
use Rattle.fixed.specs.NumeralParts.{constant_front_of}
use Rattle.fixed.specs.Arithmetic.{in_range}
use Rattle.fixed.specs.Constants.{IsConstantOf, constant_of, constant_value}
use Rattle.expr.specs.declared.lexer.Wrong.TheVariants as wrong
use Rattle.expr.specs.Tokens.{Lexeme, whole_in}
use Rattle.expr.specs.Tokens as t
use Rattle.line_text.specs.Identifiers.{is_identifier_start, is_identifier_continue}
use Rattle.expr.specs.Bytes.{is_space, begins_number}
use Rattle.expr.specs.Lexing.{symbol_of, TokenRead, number_token, symbol_token, token_at}
use Rattle.expr.specs.Text.{Every, Stops, IsToken, BeginsNone, BeginsMalformed, BeginsTooGreat}
use Rattle.expr.specs.Text as g
use Rattle.fixed.proofs.NumeralLemmas.{constant_front_ok, constant_front_bad, constant_front_too_great, constant_front_reading, numeral_some}
use Rattle.fixed.proofs.ConstantLemmas.{constant_is, constant_unique}
use Rattle.std.proofs.lemmas.Option.{same_Some}

-- ---- the longest front that passes

-- a byte that passes lengthens the front that passes
prefix_more : (test : ℕ → Bool) (b : ℕ) (rest : List ℕ) → test b ≡ true → prefix_len test (b ∷ rest) ≡ suc (prefix_len test rest)
prefix_more test b rest h = let e : prefix_len test (b ∷ rest) ≡ 1 + prefix_len test rest = rw h refl in omega arith

-- a byte that doesn't pass ends it
prefix_stops : (test : ℕ → Bool) (b : ℕ) (rest : List ℕ) → test b ≡ false → prefix_len test (b ∷ rest) ≡ 0
prefix_stops test b rest h = rw h refl

-- a byte that may begin an identifier may also continue one
word_start : (b : ℕ) → is_identifier_start b ≡ true → is_identifier_continue b ≡ true
word_start b h = rw h refl

span_step : (test : ℕ → Bool) (b : ℕ) (rest : List ℕ) (c : Bool) → test b ≡ c → Every test (take (prefix_len test rest) rest) → Every test (take (prefix_len test (b ∷ rest)) (b ∷ rest))
span_step test b rest true h e = rw (prefix_more test b rest h) (h, e)
span_step test b rest false h e = rw (prefix_stops test b rest h) tt

-- each byte of the front that passes passes
span_every : (test : ℕ → Bool) (bs : List ℕ) → Every test (take (prefix_len test bs) bs)
span_every test [] = tt
span_every test (b ∷ rest) = span_step test b rest (test b) refl (span_every test rest)

stop_step : (test : ℕ → Bool) (b : ℕ) (rest : List ℕ) (c : Bool) → test b ≡ c → Stops test (drop (prefix_len test rest) rest) → Stops test (drop (prefix_len test (b ∷ rest)) (b ∷ rest))
stop_step test b rest true h e = rw (prefix_more test b rest h) e
stop_step test b rest false h e = rw (prefix_stops test b rest h) h

-- the byte after that front, if there is one, doesn't pass
span_stops : (test : ℕ → Bool) (bs : List ℕ) → Stops test (drop (prefix_len test bs) bs)
span_stops test [] = tt
span_stops test (b ∷ rest) = stop_step test b rest (test b) refl (span_stops test rest)

none_passes : (test : ℕ → Bool) (rest : List ℕ) → Stops test rest → prefix_len test rest ≡ 0
none_passes test [] s = refl
none_passes test (b ∷ rest) s = prefix_stops test b rest s

-- bytes that pass before one that doesn't are the whole front
span_is : (test : ℕ → Bool) (a rest : List ℕ) → Every test a → Stops test rest → prefix_len test (a ++ rest) ≡ length a
span_is test [] rest e s = none_passes test rest s
span_is test (b ∷ a) rest e s = prefix_more test b (a ++ rest) e.0 ∙ ap suc (span_is test a rest e.1 s)

-- ---- the constant of a numeral

value_is : (bits m : ℕ) (p : ℤ) → (constant_of bits m p).value ≡ nearest_fixed bits m p
value_is bits m (pos p) = refl
value_is bits m (negsuc p) = refl

module _ (bits : ℕ) (n : Numeral) where
  abbrev nearest : ℤ
  nearest = nearest_fixed bits (mantissa_of n) (power_of_ten n)

  abbrev read : Constant
  read = constant_of bits (mantissa_of n) (power_of_ten n)

  abbrev if_fits : Bool → Result Constant NumFault
  if_fits c = if c then Ok read else Err number.NumberRange

  -- a constant that a numeral has is its decimal as it is read, and is in range
  constant_found : (c : Constant) → constant_value bits n ≡ Ok c → IsConstantOf bits (mantissa_of n) (power_of_ten n) c × (in_range c.value ≡ true)
  constant_found c e = by_range (in_range nearest) refl e
    where
      by_range : (b : Bool) → in_range nearest ≡ b → (if b then Ok read else Err number.NumberRange) ≡ Ok c → IsConstantOf bits (mantissa_of n) (power_of_ten n) c × (in_range c.value ≡ true)
      by_range true h k =
          let same : read ≡ c = cc in (
            subst (λ (d : Constant). IsConstantOf bits (mantissa_of n) (power_of_ten n) d) same (constant_is bits (mantissa_of n) (power_of_ten n)),
            subst (λ (d : Constant). in_range d.value ≡ true) same (ap in_range (value_is bits (mantissa_of n) (power_of_ten n)) ∙ h),
          )
      by_range false h k = absurd cc

  -- its decimal as it is read is its constant, if it is in range
  constant_given : (c : Constant) → IsConstantOf bits (mantissa_of n) (power_of_ten n) c → in_range c.value ≡ true → constant_value bits n ≡ Ok c
  constant_given c r fits =
      let same : c ≡ read = constant_unique bits (mantissa_of n) (power_of_ten n) c r in
      let h : in_range nearest ≡ true = ap in_range (sym (value_is bits (mantissa_of n) (power_of_ten n))) ∙ ap (λ (d : Constant). in_range d.value) (sym same) ∙ fits in
      ap if_fits h ∙ ap (λ (d : Constant). Ok d) (sym same)

  -- a numeral without a constant has no value in range
  constant_out : constant_value bits n ≡ Err number.NumberRange → value_of bits n ≡ Err number.NumberRange
  constant_out e = by_range (in_range nearest) e
    where
      by_range : (b : Bool) → ◌≡◌ {A = Result Constant NumFault} (if b then Ok read else Err number.NumberRange) (Err number.NumberRange) → ◌≡◌ {A = Result ℤ NumFault} (if b then Ok nearest else Err number.NumberRange) (Err number.NumberRange)
      by_range true k = absurd cc
      by_range false k = refl

-- ---- a token that is spelled is read

-- a token at the front
pub record Front (bits : ℕ) (ts : List ℕ) (k : Lexeme) (after : List ℕ) : Type 0 where
  pub front : List ℕ
  pub parts : ts ≡ front ++ after
  pub spelled : IsToken bits after front k

module _ (bits : ℕ) (rest : List ℕ) where
  abbrev Alone : ℕ → Lexeme → Type 0
  Alone b k = IsToken bits rest (b ∷ []) k

  choose_by : (b m : ℕ) (x k : Lexeme) (other : Option Lexeme) (c : Bool) → eqb b m ≡ c → Alone m x → (other ≡ Some k → Alone b k) → cond c (Some x) other ≡ Some k → Alone b k
  choose_by b m x k other true h p q e = subst (λ (z : Lexeme). Alone b z) (same_Some x k e) (subst (λ (n : ℕ). Alone n x) (sym (eqb-true b m h)) p)
  choose_by b m x k other false h p q e = q e

  choose : (b m : ℕ) (x k : Lexeme) (other : Option Lexeme) → Alone m x → (other ≡ Some k → Alone b k) → cond (eqb b m) (Some x) other ≡ Some k → Alone b k
  choose b m x k other p q e = choose_by b m x k other (eqb b m) refl p q e

  symbol_sound : (b : ℕ) (k : Lexeme) → symbol_of b ≡ Some k → Alone b k
  unfolding symbol_of
  symbol_sound b k e =
      choose b 43 t.Plus k _ g.plus (choose b 45 t.Minus k _ g.minus (choose b 42 t.Star k _ g.star (choose b 47 t.Slash k _ g.slash (choose b 94 t.Caret k _ g.caret
      (choose b 40 t.Open k _ g.open_parenthesis (choose b 41 t.Close k _ g.close_parenthesis (choose b 44 t.Comma k _ g.comma (choose b 59 t.Semicolon k _ g.semicolon (choose b 61 t.Equals k None g.equals (λ h. absurd cc)))))))))) e

-- the bytes in front, by how many follow
front_taken : (ts front rest : List ℕ) → ts ≡ front ++ rest → take (length ts - length rest) ts ≡ front
front_taken ts front rest e =
    let n = ap length e in
    let m = length-append front rest in
    let count : length ts - length rest ≡ length front = omega arith in
    rw (count, e) (take_at front rest (length front) refl)

-- the text after a numeral is no longer than the whole text
pub number_shorter : (bits : ℕ) (text : List ℕ) (c : Constant) (after : List ℕ) → constant_front_of bits text ≡ Ok (c, after) → length after ≤ length text
number_shorter bits text c after h =
    let n = constant_front_ok bits text c after h in
    let p = ap length n.front.parts in
    let q = length-append (numeral_text n.numeral) after in
    omega arith

-- the bytes begin so
record BeginsNumeral (ts : List ℕ) : Type 0 where
  byte : ℕ
  rest : List ℕ
  parts : ts ≡ byte ∷ rest
  begins : begins_number byte ≡ true

numeral_begins_by : (w : List ℕ) (f : Fraction) (u : List ℕ) → AllPass is_ascii_digit w → 0 < length w + length (fraction_digits f) → BeginsNumeral (w ++ (fraction_text f ++ u))
numeral_begins_by [] no_point u a h = absurd (omega arith)
numeral_begins_by [] (point ds) u a h = record { byte = 46; rest = ds ++ u; parts = refl; begins = refl }
numeral_begins_by (b ∷ w) f u a h = record { byte = b; rest = w ++ (fraction_text f ++ u); parts = refl; begins = let d : is_ascii_digit b ≡ true = a 0 0 (omega arith) in rw d refl }

-- a numeral's text begins as a number
numeral_begins : (n : Numeral) (rest : List ℕ) → IsNumeral n → BeginsNumeral (numeral_text n ++ rest)
numeral_begins n rest h =
    let split : n.whole ++ (fraction_text n.fraction ++ (exponent_text n.exponent ++ rest)) ≡ numeral_text n ++ rest = simp append_assoc in
    subst BeginsNumeral split (numeral_begins_by n.whole n.fraction (exponent_text n.exponent ++ rest) h.form.whole h.some_digit)

token_number : (bits b : ℕ) (rest : List ℕ) → begins_number b ≡ true → token_at bits (b ∷ rest) ≡ number_token (b ∷ rest) (constant_front_of bits (b ∷ rest))
unfolding token_at
token_number bits b rest h =
    ap (λ c. cond c (number_token (b ∷ rest) (constant_front_of bits (b ∷ rest)))
    (cond (is_identifier_start b) (Ok (t.Name (take (prefix_len is_identifier_continue (b ∷ rest)) (b ∷ rest)), drop (prefix_len is_identifier_continue (b ∷ rest)) (b ∷ rest))) (symbol_token rest (symbol_of b)))) h

numeral_token : (bits : ℕ) (n : Numeral) (c : Constant) (rest : List ℕ) → IsNumeral n → EndsBefore n rest → constant_value bits n ≡ Ok c → token_at bits (numeral_text n ++ rest) ≡ Ok (t.Number c (whole_in (numeral_text n)), rest)
numeral_token bits n c rest h ends v =
    let b = numeral_begins n rest h in
    ap (token_at bits) b.parts ∙ token_number bits b.byte b.rest b.begins ∙ ap (λ (u : List ℕ). number_token u (constant_front_of bits u)) (sym b.parts)
    ∙ ap (number_token (numeral_text n ++ rest)) ((constant_front_reading bits (numeral_text n ++ rest)).value n rest (record { is_numeral = h; ends = ends; parts = refl }) ∙ ap (with_rest rest) v)
    ∙ ap (λ (u : List ℕ). number_read c (whole_in u) rest) (front_taken (numeral_text n ++ rest) (numeral_text n) rest refl)
  where
    number_read : Constant → ℕ → List ℕ → TokenRead
    number_read c n after = Ok (t.Number c n, after)

start_no_number : (b : ℕ) → is_identifier_start b ≡ true → begins_number b ≡ false
start_no_number b h = grind (arith, nat_tests)

name_again : (bits b : ℕ) (bs rest : List ℕ) → is_identifier_start b ≡ true → Every is_identifier_continue bs → Stops is_identifier_continue rest → token_at bits (b ∷ (bs ++ rest)) ≡ Ok (t.Name (b ∷ bs), rest)
unfolding token_at
name_again bits b bs rest d ev st =
    let n : prefix_len is_identifier_continue (b ∷ (bs ++ rest)) ≡ length (b ∷ bs) = span_is is_identifier_continue (b ∷ bs) rest (word_start b d, ev) st in
    let front = take_at (b ∷ bs) rest (length (b ∷ bs)) refl in
    let after = drop_at (b ∷ bs) rest (length (b ∷ bs)) refl in
    rw (n, start_no_number b d, d, front, after) refl

-- a token of the text's rule is read
token_complete : {bits : ℕ} {a rest : List ℕ} {k : Lexeme} → IsToken bits rest a k → token_at bits (a ++ rest) ≡ Ok (k, rest)
unfolding token_at symbol_of
token_complete {bits} {a} {rest} (g.number {n} {c} h ends r fits) = numeral_token bits n c rest h ends (constant_given bits n c r fits)
token_complete {bits} {a} {rest} (g.name {b} {bs} d ev st) = name_again bits b bs rest d ev st
token_complete _ = refl

-- ---- what is read

space_no_number : (b : ℕ) → is_space b ≡ true → begins_number b ≡ false
space_no_number b h = grind (arith, nat_tests)

space_no_start : (b : ℕ) → is_space b ≡ true → is_identifier_start b ≡ false
space_no_start b h = grind (arith, nat_tests)

symbol_none : (b : ℕ) → is_space b ≡ true → symbol_of b ≡ None
unfolding symbol_of
symbol_none b h = grind (arith, nat_tests)

-- a byte that begins no token is an error
token_none : (bits b : ℕ) (rest : List ℕ) → begins_number b ≡ false → is_identifier_start b ≡ false → symbol_of b ≡ None → token_at bits (b ∷ rest) ≡ Err wrong.Byte
unfolding token_at
token_none bits b rest n l s = rw (n, l, s) refl

-- a token that is read at the front, or what is wrong
abbrev pub TokenMeans : ℕ → ℕ → List ℕ → TokenRead → Type 0
TokenMeans bits b rest (Ok x) = Front bits (b ∷ rest) x.0 x.1
TokenMeans bits b rest (Err wrong.Byte) = is_space b ≡ false → BeginsNone b
TokenMeans bits b rest (Err (wrong.Number number.BadNumber)) = BeginsMalformed (b ∷ rest)
TokenMeans bits b rest (Err (wrong.Number number.NumberRange)) = BeginsTooGreat bits (b ∷ rest)

number_means : (bits b : ℕ) (rest : List ℕ) → begins_number b ≡ true → (r : Result (Constant × List ℕ) NumFault) → constant_front_of bits (b ∷ rest) ≡ r → TokenMeans bits b rest (number_token (b ∷ rest) r)
number_means bits b rest h (Ok x) e =
    let n = constant_front_ok bits (b ∷ rest) x.0 x.1 e in
    let r = constant_found bits n.numeral x.0 n.value in
    let text = front_taken (b ∷ rest) (numeral_text n.numeral) x.1 (sym n.front.parts) in
    record { front = numeral_text n.numeral; parts = sym n.front.parts; spelled = rw text (g.number n.front.is_numeral n.front.ends r.0 r.1) }
number_means bits b rest h (Err number.BadNumber) e = record { byte = b; rest = rest; parts = refl; begins = h; no_numeral = constant_front_bad bits (b ∷ rest) e }
number_means bits b rest h (Err number.NumberRange) e =
    let n = constant_front_too_great bits (b ∷ rest) e in
    record { numeral = n.1.numeral; rest = n.0; begins = n.1.front; too_great = constant_out bits n.1.numeral n.1.value }

name_means : (bits b : ℕ) (rest : List ℕ) → is_identifier_start b ≡ true
    → Front bits (b ∷ rest) (t.Name (take (prefix_len is_identifier_continue (b ∷ rest)) (b ∷ rest))) (drop (prefix_len is_identifier_continue (b ∷ rest)) (b ∷ rest))
name_means bits b rest d =
    let n = prefix_len is_identifier_continue rest in
    subst (λ (m : ℕ). Front bits (b ∷ rest) (t.Name (take m (b ∷ rest))) (drop m (b ∷ rest))) (sym (prefix_more is_identifier_continue b rest (word_start b d)))
    (record { front = b ∷ take n rest; parts = ap (λ (z : List ℕ). b ∷ z) (sym (take-append-drop n rest)); spelled = g.name d (span_every is_identifier_continue rest) (span_stops is_identifier_continue rest) })

symbol_means : (bits b : ℕ) (rest : List ℕ) → begins_number b ≡ false → is_identifier_start b ≡ false → (o : Option Lexeme) → symbol_of b ≡ o → TokenMeans bits b rest (symbol_token rest o)
symbol_means bits b rest n l (Some k) e = record { front = b ∷ []; parts = refl; spelled = symbol_sound bits rest b k e }
symbol_means bits b rest n l None e = λ s. record {
  no_space = s;
  no_number = n;
  no_token = λ bits a rest k i. let read = token_complete i in let none = token_none bits b (a ++ rest) n l e in absurd cc;
}

-- the token at the front of bytes follows the lexical grammar
pub token_means : (bits b : ℕ) (rest : List ℕ) → TokenMeans bits b rest (token_at bits (b ∷ rest))
unfolding token_at
token_means bits b rest = by_number (begins_number b) refl
  where
    by_start : (c : Bool) → begins_number b ≡ false → is_identifier_start b ≡ c
        → TokenMeans bits b rest (cond c (Ok (t.Name (take (prefix_len is_identifier_continue (b ∷ rest)) (b ∷ rest)), drop (prefix_len is_identifier_continue (b ∷ rest)) (b ∷ rest))) (symbol_token rest (symbol_of b)))
    by_start true n l = name_means bits b rest l
    by_start false n l = symbol_means bits b rest n l (symbol_of b) refl

    by_number : (c : Bool) → begins_number b ≡ c
        → TokenMeans bits b rest (cond c (number_token (b ∷ rest) (constant_front_of bits (b ∷ rest))) (cond (is_identifier_start b) (Ok (t.Name (take (prefix_len is_identifier_continue (b ∷ rest)) (b ∷ rest)), drop (prefix_len is_identifier_continue (b ∷ rest)) (b ∷ rest))) (symbol_token rest (symbol_of b))))
    by_number true n = number_means bits b rest n (constant_front_of bits (b ∷ rest)) refl
    by_number false n = by_start (is_identifier_start b) n refl

token_some : {bits : ℕ} {rest a : List ℕ} {k : Lexeme} → IsToken bits rest a k → 0 < length a
token_some (g.number {n} h ends r fits) = numeral_some n h
token_some _ = omega arith

-- a token takes a byte at least
pub token_less : (bits : ℕ) (ts : List ℕ) (x : Lexeme × List ℕ) → token_at bits ts ≡ Ok x → length x.1 < length ts
unfolding token_at
token_less bits [] x e = absurd cc
token_less bits (b ∷ rest) x e =
    let f : Front bits (b ∷ rest) x.0 x.1 = subst (TokenMeans bits b rest) e (token_means bits b rest) in
    let n = ap length f.parts in
    let m = length-append f.front x.1 in
    let k = token_some f.spelled in
    omega arith

-- a token is read, and it begins with a byte that isn't a space
pub record Token (bits : ℕ) (ts : List ℕ) (k : Lexeme) (after : List ℕ) : Type 0 where
  pub byte : ℕ
  pub rest : List ℕ
  pub parts : ts ≡ byte ∷ rest
  pub no_space : is_space byte ≡ false
  pub read : token_at bits (byte ∷ rest) ≡ Ok (k, after)

token_read : (bits : ℕ) (ts : List ℕ) (k : Lexeme) (after : List ℕ) → token_at bits ts ≡ Ok (k, after) → Token bits ts k after
unfolding token_at
token_read bits [] k after e = absurd cc
token_read bits (b ∷ rest) k after e = by_space (is_space b) refl
  where
    by_space : (c : Bool) → is_space b ≡ c → Token bits (b ∷ rest) k after
    by_space true s = let none = token_none bits b rest (space_no_number b s) (space_no_start b s) (symbol_none b s) in absurd cc
    by_space false s = record { byte = b; rest = rest; parts = refl; no_space = s; read = e }

-- a token of the lexical grammar is read
pub is_token_read : {bits : ℕ} {a rest : List ℕ} {k : Lexeme} → IsToken bits rest a k → Token bits (a ++ rest) k rest
is_token_read {bits} {a} {rest} {k} i = token_read bits (a ++ rest) k rest (token_complete i)
