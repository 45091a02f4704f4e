-- Texts of tokens: a text is read as tokens if and only if the lexical grammar derives the tokens; otherwise the error is
-- at the first byte or numeral that begins no token.
use Rattle.std.proofs.Common.{◌≡◌, ℕ, zero, suc, ◌+◌, ◌-◌, ◌<◌, ◌≤◌, Bool, true, false, cond, List, [], ◌∷◌, ◌++◌, length, get_or, take, drop, Ok, Err, refl, sym, ap, subst, ◌∙◌, append_assoc, length-append, arith, append-nil, take_all}
use Rattle.fixed.specs.declared.faults.NumFault.TheVariants as number
use Rattle.expr.specs.declared.lexer.Wrong.{Wrong}
use Rattle.expr.specs.declared.lexer.Wrong.TheVariants as wrong
use Rattle.energy_program.specs.Faults.{Refusal, BadCharacter, BadNumber, NumberRange}
use Rattle.expr.specs.Tokens.{Lexeme, Lexed}
use Rattle.expr.specs.Bytes.{is_space}
use Rattle.expr.specs.Lexing.{TokenRead, token_at, Tokens, with_front, refusal_at, go_on, tokens_from, tokens_of}
use Rattle.expr.specs.Text.{IsFront, IsText, BeginsBadly, BeginsMalformed, BeginsTooGreat, IsWrongAt}
use Rattle.expr.specs.Text as g
use Rattle.expr.proofs.Lexing.{TokenMeans, token_means, token_less, Token, is_token_read}

-- ---- the loop

with_none : (r : Tokens) → with_front [] r ≡ r
with_none (Ok ts) = refl
with_none (Err e) = refl

-- the result, if these tokens are in front and these bytes are left; the fuel is at least the number of bytes
pub record Left (bits total : ℕ) (whole : Tokens) (front : List Lexed) (ts : List ℕ) : Type 0 where
  pub fuel : ℕ
  pub enough : length ts ≤ fuel
  pub read : whole ≡ with_front front (tokens_from fuel bits total ts)

-- before the first byte no token is in front
pub starts : (bits : ℕ) (text : List ℕ) (front : List Lexed) → front ≡ [] → Left bits (length text) (tokens_of bits text) front text
unfolding tokens_of
starts bits text front e = record { fuel = length text; enough = omega arith; read = rw e (sym (with_none (tokens_from (length text) bits (length text) text))) }

-- the bytes after the first
abbrev pub tail : List ℕ → List ℕ
tail ts = take (length ts - 1) (drop 1 ts)

tail_is : (b : ℕ) (rest : List ℕ) → tail (b ∷ rest) ≡ rest
tail_is b rest = let h : suc (length rest) - 1 ≡ length rest = omega arith in rw h (take_all (length rest) rest (omega arith))

-- the bytes after the first are fewer than all bytes
pub tail_less : (ts : List ℕ) → 1 ≤ length ts → length (tail ts) < length ts
tail_less [] h = absurd (omega arith)
tail_less (b ∷ rest) h = let e = ap length (tail_is b rest) in omega arith

-- prepending a token and then the tokens in front is prepending the tokens in front extended by the token
regroup : (front : List Lexed) (x : Lexed) (r : Tokens) → with_front front (with_front (x ∷ []) r) ≡ with_front (front ++ (x ∷ [])) r
regroup front x (Ok ts) = ap (λ (z : List Lexed). tokens_ok z) (sym (append_assoc front (x ∷ []) ts))
  where
    tokens_ok : List Lexed → Tokens
    tokens_ok z = Ok z
regroup front x (Err e) = refl

module _ (bits total : ℕ) (whole : Tokens) (front : List Lexed) where
  abbrev Reads : ℕ → List ℕ → Type 0
  Reads fuel ts = whole ≡ with_front front (tokens_from fuel bits total ts)

  skip_by : (fuel : ℕ) (ts : List ℕ) → length ts ≤ fuel → Reads fuel ts → 1 ≤ length ts → is_space (get_or ts 0 0) ≡ true → Left bits total whole front (tail ts)
  unfolding tokens_from
  skip_by fuel [] enough read h s = absurd (omega arith)
  skip_by zero (b ∷ rest) enough read h s = absurd (omega arith)
  skip_by (suc n) (b ∷ rest) enough read h s =
      subst (Left bits total whole front) (sym (tail_is b rest))
      (record { fuel = n; enough = omega arith; read = read ∙ ap (λ c. with_front front (cond c (tokens_from n bits total rest) (go_on (total - length (b ∷ rest)) (token_at bits (b ∷ rest)) (tokens_from n bits total)))) s })

  -- a space is passed over
  pub skips : (ts : List ℕ) → Left bits total whole front ts → 1 ≤ length ts → is_space (get_or ts 0 0) ≡ true → Left bits total whole front (tail ts)
  skips ts l h s = skip_by l.fuel ts l.enough l.read h s

  -- the token at the front is read next
  record Turn (ts : List ℕ) (r : TokenRead) : Type 0 where
    fuel : ℕ
    enough : length ts ≤ suc fuel
    read : whole ≡ with_front front (go_on (total - length ts) r (tokens_from fuel bits total))

  turn : (fuel : ℕ) (ts : List ℕ) (r : TokenRead) → length ts ≤ fuel → Reads fuel ts → 1 ≤ length ts → is_space (get_or ts 0 0) ≡ false → token_at bits ts ≡ r → Turn ts r
  unfolding tokens_from
  turn fuel [] r enough read h s e = absurd (omega arith)
  turn zero (b ∷ rest) r enough read h s e = absurd (omega arith)
  turn (suc n) (b ∷ rest) r enough read h s e = record {
    fuel = n;
    enough = enough;
    read =
        read
        ∙ ap (λ c. with_front front (cond c (tokens_from n bits total rest) (go_on (total - length (b ∷ rest)) (token_at bits (b ∷ rest)) (tokens_from n bits total)))) s
        ∙ ap (λ (z : TokenRead). with_front front (go_on (total - length (b ∷ rest)) z (tokens_from n bits total))) e;
  }

  -- a token that is read is appended to the tokens in front
  pub takes : (longer : List Lexed) (ts : List ℕ) (k : Lexeme) (after : List ℕ) → Left bits total whole front ts → 1 ≤ length ts → is_space (get_or ts 0 0) ≡ false → token_at bits ts ≡ Ok (k, after)
      → longer ≡ front ++ ((k, total - length ts) ∷ []) → Left bits total whole longer after
  takes longer ts k after l h s e more =
      let n = turn l.fuel ts (Ok (k, after)) l.enough l.read h s e in
      let less = token_less bits ts (k, after) e in
      let enough = n.enough in
      record { fuel = n.fuel; enough = omega arith; read = n.read ∙ regroup front (k, total - length ts) (tokens_from n.fuel bits total after) ∙ ap (λ (z : List Lexed). with_front z (tokens_from n.fuel bits total after)) (sym more) }

  -- a token that fails is the error
  pub fails : (ts : List ℕ) (w : Wrong) → Left bits total whole front ts → 1 ≤ length ts → is_space (get_or ts 0 0) ≡ false → token_at bits ts ≡ Err w → whole ≡ Err (refusal_at (total - length ts) w)
  fails ts w l h s e = let n = turn l.fuel ts (Err w) l.enough l.read h s e in n.read

  end_by : (fuel : ℕ) (ts : List ℕ) → Reads fuel ts → length ts < 1 → whole ≡ with_front front (Ok [])
  unfolding tokens_from
  end_by zero [] read h = read
  end_by (suc n) [] read h = read
  end_by fuel (b ∷ rest) read h = absurd (omega arith)

  -- if no byte is left, the result is the tokens in front
  pub ends : (ts : List ℕ) → Left bits total whole front ts → length ts < 1 → whole ≡ Ok front
  ends ts l h = let tokens_ok : List Lexed → Tokens = λ z. Ok z in end_by l.fuel ts l.read h ∙ ap tokens_ok (append-nil front)

-- ---- the grammar

-- what is wrong at an index
abbrev WrongAt : ℕ → ℕ → List ℕ → Refusal → Type 0
WrongAt bits index rest (BadCharacter at) = (at ≡ index) × BeginsBadly rest
WrongAt bits index rest (BadNumber at) = (at ≡ index) × BeginsMalformed rest
WrongAt bits index rest (NumberRange at) = (at ≡ index) × BeginsTooGreat bits rest
WrongAt bits index rest _ = ⊥

-- tokens in front of something wrong
record Stuck (bits at : ℕ) (ts : List ℕ) (f : Refusal) : Type 0 where
  tokens : List Lexed
  index : ℕ
  rest : List ℕ
  front : IsFront bits at ts tokens index rest
  is : WrongAt bits index rest f

wrong_here : (bits b at index : ℕ) (rest : List ℕ) (w : Wrong) → TokenMeans bits b rest (Err w) → is_space b ≡ false → at ≡ index → WrongAt bits index (b ∷ rest) (refusal_at at w)
wrong_here bits b at index rest wrong.Byte m s e = (e, m s)
wrong_here bits b at index rest (wrong.Number number.BadNumber) m s e = (e, m)
wrong_here bits b at index rest (wrong.Number number.NumberRange) m s e = (e, m)

module _ (bits total : ℕ) where
  -- the tokens from an offset to the end of the text, or tokens in front of something wrong
  abbrev Lexes : ℕ → List ℕ → Tokens → Type 0
  Lexes at ts (Ok ps) = IsFront bits at ts ps total []
  Lexes at ts (Err f) = Stuck bits at ts f

  passes : (at next : ℕ) (ts after : List ℕ) (front : List Lexed) → ((ps : List Lexed) (i : ℕ) (rest : List ℕ) → IsFront bits next after ps i rest → IsFront bits at ts (front ++ ps) i rest)
      → (r : Tokens) → Lexes next after r → Lexes at ts (with_front front r)
  passes at next ts after front go (Ok ps) m = go ps total [] m
  passes at next ts after front go (Err f) m = record { tokens = front ++ m.tokens; index = m.index; rest = m.rest; front = go m.tokens m.index m.rest m.front; is = m.is }

  abbrev LexesAll : ℕ → Type 0
  LexesAll n = (at : ℕ) (ts : List ℕ) → length ts ≤ n → at + length ts ≡ total → Lexes at ts (tokens_from n bits total ts)

  lex_token : (n : ℕ) → LexesAll n → (at b : ℕ) (rest : List ℕ) → length (b ∷ rest) ≤ suc n → at + length (b ∷ rest) ≡ total → is_space b ≡ false → (r : TokenRead) → token_at bits (b ∷ rest) ≡ r → TokenMeans bits b rest r
      → Lexes at (b ∷ rest) (go_on (total - length (b ∷ rest)) r (tokens_from n bits total))
  lex_token n ih at b rest l h s (Ok x) e f =
      let index : total - length (b ∷ rest) ≡ at = omega arith in
      let less = token_less bits (b ∷ rest) x e in
      let count = ap length f.parts in
      let both = length-append f.front x.1 in
      passes at (at + length f.front) (b ∷ rest) x.1 ((x.0, total - length (b ∷ rest)) ∷ [])
      (λ ps i z p. subst (λ (q : ℕ). IsFront bits at (b ∷ rest) ((x.0, q) ∷ ps) i z) (sym index) (subst (λ (y : List ℕ). IsFront bits at y ((x.0, at) ∷ ps) i z) (sym f.parts) (g.token f.spelled p)))
      (tokens_from n bits total x.1) (ih (at + length f.front) x.1 (omega arith) (omega arith))
  lex_token n ih at b rest l h s (Err w) e m =
      let index : total - length (b ∷ rest) ≡ at = omega arith in
      record { tokens = []; index = at; rest = b ∷ rest; front = g.done; is = wrong_here bits b (total - length (b ∷ rest)) at rest w m s index }

  lex_byte : (n : ℕ) → LexesAll n → (at b : ℕ) (rest : List ℕ) → length (b ∷ rest) ≤ suc n → at + length (b ∷ rest) ≡ total → (c : Bool) → is_space b ≡ c
      → Lexes at (b ∷ rest) (cond c (tokens_from n bits total rest) (go_on (total - length (b ∷ rest)) (token_at bits (b ∷ rest)) (tokens_from n bits total)))
  lex_byte n ih at b rest l h true s =
      subst (Lexes at (b ∷ rest)) (with_none (tokens_from n bits total rest)) (passes at (at + 1) (b ∷ rest) rest [] (λ ps i z p. g.space s p) (tokens_from n bits total rest) (ih (at + 1) rest (omega arith) (omega arith)))
  lex_byte n ih at b rest l h false s = lex_token n ih at b rest l h s (token_at bits (b ∷ rest)) refl (token_means bits b rest)

  at_end : (at : ℕ) → at + 0 ≡ total → IsFront bits at [] [] total []
  at_end at h = let same : at ≡ total = omega arith in subst (λ (z : ℕ). IsFront bits at [] [] z []) same g.done

  lexes : (n : ℕ) → LexesAll n
  unfolding tokens_from
  lexes zero at [] l h = at_end at h
  lexes zero at (b ∷ rest) l h = absurd (omega arith)
  lexes (suc n) at [] l h = at_end at h
  lexes (suc n) at (b ∷ rest) l h = lex_byte n (lexes n) at b rest l h (is_space b) refl

-- the text splits into the tokens that are read, and an error is at the first byte or numeral that begins no token
abbrev pub TextMeans : ℕ → List ℕ → Tokens → Type 0
TextMeans bits text (Ok ts) = IsText bits text ts
TextMeans bits text (Err (BadCharacter at)) = IsWrongAt bits BeginsBadly text at
TextMeans bits text (Err (BadNumber at)) = IsWrongAt bits BeginsMalformed text at
TextMeans bits text (Err (NumberRange at)) = IsWrongAt bits (BeginsTooGreat bits) text at
TextMeans bits text (Err _) = ⊥

at_index : (bits : ℕ) (text : List ℕ) (Wrong : List ℕ → Type 0) (at : ℕ) (f : Refusal) (m : Stuck bits 0 text f) → at ≡ m.index → Wrong m.rest → IsWrongAt bits Wrong text at
at_index bits text Wrong at f m same w = record { tokens = m.tokens; rest = m.rest; front = subst (λ (i : ℕ). IsFront bits 0 text m.tokens i m.rest) (sym same) m.front; wrong = w }

from_start : (bits : ℕ) (text : List ℕ) (r : Tokens) → Lexes bits (length text) 0 text r → TextMeans bits text r
from_start bits text (Ok ts) m = m
from_start bits text (Err (BadCharacter at)) m = at_index bits text BeginsBadly at (BadCharacter at) m m.is.0 m.is.1
from_start bits text (Err (BadNumber at)) m = at_index bits text BeginsMalformed at (BadNumber at) m m.is.0 m.is.1
from_start bits text (Err (NumberRange at)) m = at_index bits text (BeginsTooGreat bits) at (NumberRange at) m m.is.0 m.is.1
from_start bits text (Err _) m = m.is

-- reading a text's tokens follows the lexical grammar
pub text_means : (bits : ℕ) (text : List ℕ) → TextMeans bits text (tokens_of bits text)
unfolding tokens_of
text_means bits text = from_start bits text (tokens_from (length text) bits (length text) text) (lexes bits (length text) (length text) 0 text (omega arith) (omega arith))

-- ---- and back

none_again : (n bits total : ℕ) (rest : List ℕ) → rest ≡ [] → tokens_from n bits total rest ≡ Ok []
unfolding tokens_from
none_again zero bits total [] e = refl
none_again (suc n) bits total [] e = refl
none_again n bits total (b ∷ rest) e = absurd cc

token_again : (n bits at total : ℕ) (k : Lexeme) (ts text : List ℕ) (ps : List Lexed) → Token bits ts k text → length ts ≤ suc n → at + length ts ≡ total → tokens_from n bits total text ≡ Ok ps
    → tokens_from (suc n) bits total ts ≡ Ok ((k, at) ∷ ps)
unfolding tokens_from
token_again n bits at total k ts text ps b l h e =
    let count = ap length b.parts in
    let index : total - length (b.byte ∷ b.rest) ≡ at = omega arith in
    subst (λ (z : List ℕ). tokens_from (suc n) bits total z ≡ Ok ((k, at) ∷ ps)) (sym b.parts)
    (ap (λ c. cond c (tokens_from n bits total b.rest) (go_on (total - length (b.byte ∷ b.rest)) (token_at bits (b.byte ∷ b.rest)) (tokens_from n bits total))) b.no_space
    ∙ ap (λ (z : TokenRead). go_on (total - length (b.byte ∷ b.rest)) z (tokens_from n bits total)) b.read
    ∙ ap (with_front ((k, total - length (b.byte ∷ b.rest)) ∷ [])) e ∙ ap (λ (q : ℕ). ended_at q) index)
  where
    ended_at : ℕ → Tokens
    ended_at q = Ok ((k, q) ∷ ps)

again : {bits at end : ℕ} {ts rest : List ℕ} {ps : List Lexed} → IsFront bits at ts ps end rest → rest ≡ [] → (n total : ℕ) → length ts ≤ n → at + length ts ≡ total → tokens_from n bits total ts ≡ Ok ps
unfolding tokens_from
again {bits} (g.done {at} {rest}) e n total l h = none_again n bits total rest e
again {bits} (g.space {at} {b} {end} {text} {rest} {ts} s p) e zero total l h = absurd (omega arith)
again {bits} (g.space {at} {b} {end} {text} {rest} {ts} s p) e (suc n) total l h =
    ap (λ c. cond c (tokens_from n bits total text) (go_on (total - length (b ∷ text)) (token_at bits (b ∷ text)) (tokens_from n bits total))) s ∙ again p e n total (omega arith) (omega arith)
again {bits} (g.token {at} {end} {a} {text} {rest} {k} {ts} i p) e zero total l h = let b = is_token_read i in let count = ap length b.parts in absurd (omega arith)
again {bits} (g.token {at} {end} {a} {text} {rest} {k} {ts} i p) e (suc n) total l h =
    let b = is_token_read i in
    let both = length-append a text in
    let less = token_less bits (a ++ text) (k, text) (ap (token_at bits) b.parts ∙ b.read) in
    token_again n bits at total k (a ++ text) text ts b l h (again p e n total (omega arith) (omega arith))

-- the text's tokens are read
pub text_complete : (bits : ℕ) (text : List ℕ) (ps : List Lexed) → IsText bits text ps → tokens_of bits text ≡ Ok ps
unfolding tokens_of
text_complete bits text ps p = again p refl (length text) (length text) (omega arith) (omega arith)
