-- Cutting a text into lines, words and columns.
use Rattle.std.proofs.Common.{◌≡◌, ℕ, zero, suc, ◌+◌, ◌-◌, ◌^◌, ◌<◌, ◌≤◌, ◌==◌, Bool, true, false, cond, eqb, ltb, not, List, [], ◌∷◌, ◌++◌, length, take, drop, get_or, replicate, reverse, Option, Some, None, decimal, bytes_eq, refl, sym, ap, subst, ◌∙◌, append_assoc, arith, inl, inr, lit<}
use Rattle.std.specs.Prelude.{ℤ, pos, negsuc}
use Rattle.std.specs.Fmt.{signed_decimal}
use Rattle.std.specs.List.{position_or_len, prefix_len, before_first, after_first, flat_map}
use Rattle.std.specs.Str.Parse.{AllDigits}
use Rattle.std.specs.Int.{IsInRange}
use Rattle.std.proofs.lemmas.Bool.{cases_Bool, and_parts, and_from, ltb-true, ltb-false, lt-ltb, eqb-true, ne_eqb, eq-eqb, not-true}
use Rattle.std.proofs.lemmas.Str.Parse.{digit_from_value}
use Rattle.std.proofs.lemmas.Fmt.{decimal_is_IsNumeral}
use Rattle.std.proofs.lemmas.Option.{some_pair_parts}
use Rattle.std.proofs.lemmas.List.Sums.{split_at_first, passes_at_first}
use Rattle.std.proofs.lemmas.List.{take_at, drop_at, take_all, take-append-drop, append-nil, length-append, length-replicate, reverse-append, reverse-reverse, get_or-reverse}
use Rattle.std.proofs.Math.Seq.{drop-append-add}
use lib.Signed.{mag}
use Rattle.line_text.specs.Parts.{◌>>=◌, natural_of, lacks, split_once, ended, after, word, AreThree, word_at, three_at, without_front, without_end, without_spaces, without_end_spaces, right_in, left_in}
use Rattle.line_text.proofs.PartLaws.{some_of, same_bytes, bytes_same, natural_found, natural_again}

-- the value of a step that did not fail
pub bind_some : {A B : Type 0} (o : Option A) (f : A → Option B) (y : B) → (o >>= f) ≡ Some y → (x : A) × (o ≡ Some x) × (f x ≡ Some y)
bind_some (Some x) f y e = (x, refl, e)
bind_some None f y e = absurd cc

-- equal optional pairs have equal parts
pub pair_is : {A B : Type 0} (a x : A) (b y : B) → ◌≡◌ {A = Option (A × B)} (Some (a, b)) (Some (x, y)) → (a ≡ x) × (b ≡ y)
pair_is a x b y e = some_pair_parts a x b y e

-- ---- a byte that a text lacks

-- a byte that two texts lack is lacked by them one after the other
pub lacks_append : (c : ℕ) (a b : List ℕ) → lacks c a ≡ true → lacks c b ≡ true → lacks c (a ++ b) ≡ true
lacks_append c [] b p q = q
lacks_append c (x ∷ a) b p q =
    let s = and_parts (not (eqb x c)) (lacks c a) p in and_from (not (eqb x c)) (lacks c (a ++ b)) s.0 (lacks_append c a b s.1 q)

-- a byte that a text lacks is lacked by each front of it
pub lacks_front : (c : ℕ) (a b : List ℕ) → lacks c (a ++ b) ≡ true → lacks c a ≡ true
lacks_front c [] b e = refl
lacks_front c (x ∷ a) b e =
    let s = and_parts (not (eqb x c)) (lacks c (a ++ b)) e in and_from (not (eqb x c)) (lacks c a) s.0 (lacks_front c a b s.1)

-- a byte that a text lacks is lacked by the rest after each front of it
pub lacks_rest : (c : ℕ) (a b : List ℕ) → lacks c (a ++ b) ≡ true → lacks c b ≡ true
lacks_rest c [] b e = e
lacks_rest c (x ∷ a) b e = lacks_rest c a b (and_parts (not (eqb x c)) (lacks c (a ++ b)) e).1

-- a text that lacks c does not begin with it
pub lacks_first : (c : ℕ) (t : List ℕ) → 0 < c → lacks c t ≡ true → get_or t 0 0 ≡ c → ⊥
lacks_first c [] some l e = omega arith
lacks_first c (x ∷ xs) some l e =
    let no : eqb x c ≡ false = not-true (eqb x c) (and_parts (not (eqb x c)) (lacks c xs) l).0 in
    let yes : eqb x c ≡ true = eq-eqb x c e in
    absurd cc

-- if a front that lacks c is followed by c, the index of the first c is the length of the front
pub first_index_is : (c : ℕ) (a b : List ℕ) → lacks c a ≡ true → position_or_len (λ x. x == c) (a ++ c ∷ b) ≡ length a
first_index_is c [] b p = rw (eq-eqb c c refl) refl
first_index_is c (x ∷ a) b p =
    let s = and_parts (not (eqb x c)) (lacks c a) p in rw (s.0, first_index_is c a b s.1) (omega arith)

-- in a text that lacks c the first index is its end
pub first_index_none : (c : ℕ) (a : List ℕ) → lacks c a ≡ true → position_or_len (λ x. x == c) a ≡ length a
first_index_none c [] p = refl
first_index_none c (x ∷ a) p =
    let s = and_parts (not (eqb x c)) (lacks c a) p in rw (s.0, first_index_none c a s.1) (omega arith)

-- the part before the first c lacks c
pub before_lacks : (c : ℕ) (text : List ℕ) → lacks c (before_first (λ x. x == c) text) ≡ true
before_lacks c [] = refl
before_lacks c (x ∷ xs) =
    elim (cases_Bool (eqb x c)) [
      | inl e ↦ rw e refl
      | inr e ↦ rw (e, add_is (prefix_len (λ y. not (y == c)) xs), e) (before_lacks c xs)
    ]
  where
    add_is : (n : ℕ) → 1 + n ≡ suc n
    add_is n = omega arith

-- digits have no byte below 48
pub digits_lack : (c : ℕ) (ds : List ℕ) → c < 48 → AllDigits 10 ds → lacks c ds ≡ true
digits_lack c [] small h = refl
digits_lack c (x ∷ xs) small h =
    let r : IsInRange 48 57 x = digit_from_value x h.0 in
    rw (ne_eqb x c (λ e. omega (arith, r)), digits_lack c xs small h.1) refl

-- the decimal of a 64-bit number has no byte below 48
pub decimal_lacks : (c n : ℕ) → c < 48 → n < 2 ^ 64 → lacks c (decimal n) ≡ true
decimal_lacks c n small fits = digits_lack c (decimal n) small (decimal_is_IsNumeral n fits).0.1

-- the decimal of a signed 64-bit number has no byte below the minus
pub signed_lacks : (c : ℕ) (z : ℤ) → c < 45 → mag z < 2 ^ 63 → lacks c (signed_decimal z) ≡ true
signed_lacks c (pos n) small fits = decimal_lacks c n (omega arith) (omega arith)
signed_lacks c (negsuc n) small fits = rw (ne_eqb 45 c (λ e. omega arith), decimal_lacks c (suc n) (omega arith) (omega arith)) refl

-- ---- cut

-- a text that is cut at c is its first part, c and the second part, and the first lacks c
pub cut_found : (c : ℕ) (text a b : List ℕ) → split_once c text ≡ Some (a, b) → (text ≡ a ++ c ∷ b) × (lacks c a ≡ true)
unfolding split_once
cut_found c text a b e =
    let s = some_of (ltb (position_or_len (λ x. x == c) text) (length text)) (before_first (λ x. x == c) text, after_first (λ x. x == c) text) (a, b) e in
    let inside : position_or_len (λ x. x == c) text < length text = ltb-true _ _ s.0 in
    let front : before_first (λ x. x == c) text ≡ a = ap (λ (p : List ℕ × List ℕ). p.0) s.1 in
    let rest : after_first (λ x. x == c) text ≡ b = ap (λ (p : List ℕ × List ℕ). p.1) s.1 in
    let byte : get_or text (position_or_len (λ x. x == c) text) 0 ≡ c = eqb-true _ _ (passes_at_first (λ x. x == c) text 0 inside) in
    let whole : before_first (λ x. x == c) text ++ get_or text (position_or_len (λ x. x == c) text) 0 ∷ after_first (λ x. x == c) text ≡ a ++ c ∷ b =
    ap (λ (t : List ℕ). t ++ get_or text (position_or_len (λ x. x == c) text) 0 ∷ after_first (λ x. x == c) text) front
    ∙ ap (λ (y : ℕ). a ++ y ∷ after_first (λ x. x == c) text) byte ∙ ap (λ (t : List ℕ). a ++ c ∷ t) rest in
    (split_at_first (λ x. x == c) text 0 inside ∙ whole, subst (λ (t : List ℕ). lacks c t ≡ true) front (before_lacks c text))

-- a text that lacks c, then c and any text are cut into the two
pub cut_again : (c : ℕ) (a b : List ℕ) → lacks c a ≡ true → split_once c (a ++ c ∷ b) ≡ Some (a, b)
unfolding split_once
cut_again c a b l =
    let at : position_or_len (λ x. x == c) (a ++ c ∷ b) ≡ length a = first_index_is c a b l in
    let lt : ltb (length a) (length (a ++ c ∷ b)) ≡ true = lt-ltb _ _ (omega (arith, length-append a (c ∷ b))) in
    rw (at, lt, take_at a (c ∷ b) (length a) refl, drop-append-add a (c ∷ b) 1) refl

-- the result of split_once if the byte was found, and if not
abbrev halves_if : ℕ → List ℕ → Bool → Option (List ℕ × List ℕ)
halves_if c text found = cond found (Some (before_first (λ x. x == c) text, after_first (λ x. x == c) text)) None

-- a text that isn't cut at c lacks c
pub cut_none : (c : ℕ) (text : List ℕ) → split_once c text ≡ None → lacks c text ≡ true
unfolding split_once
cut_none c text e = at (ltb (position_or_len (λ x. x == c) text) (length text)) refl e
  where
    at : (b : Bool) → ltb (position_or_len (λ x. x == c) text) (length text) ≡ b → halves_if c text b ≡ None → lacks c text ≡ true
    at true t d = absurd cc
    at false t d = subst (λ (u : List ℕ). lacks c u ≡ true) (take_all (position_or_len (λ x. x == c) text) text (ltb-false _ _ t)) (before_lacks c text)

lacks_not_first : (c : ℕ) (b : List ℕ) → lacks c (c ∷ b) ≡ true → ⊥
lacks_not_first c b h =
    let no : eqb c c ≡ false = not-true (eqb c c) (and_parts (not (eqb c c)) (lacks c b) h).0 in
    let yes : eqb c c ≡ true = eq-eqb c c refl in
    absurd cc

-- a text that lacks the byte is not cut
pub uncut : (c : ℕ) (text : List ℕ) → lacks c text ≡ true → split_once c text ≡ None
uncut c text l = at (split_once c text) refl
  where
    at : (o : Option (List ℕ × List ℕ)) → split_once c text ≡ o → split_once c text ≡ None
    at None e = e
    at (Some p) e =
        let whole : text ≡ p.0 ++ c ∷ p.1 = (cut_found c text p.0 p.1 e).0 in
        absurd (lacks_not_first c p.1 (lacks_rest c p.0 (c ∷ p.1) (subst (λ (t : List ℕ). lacks c t ≡ true) whole l)))

-- the two parts are shorter than the text
pub cut_shorter : (c : ℕ) (text a b : List ℕ) → split_once c text ≡ Some (a, b) → length a + length b < length text
cut_shorter c text a b e = omega (arith, ap length (cut_found c text a b e).0, length-append a (c ∷ b))

-- a line with its LF and a text are the line, a LF and the text
pub ended_then : (line rest : List ℕ) → ended line ++ rest ≡ line ++ 10 ∷ rest
ended_then line rest = append_assoc line (10 ∷ []) rest

-- cutting at LF splits a line ended with LF from the text after it
pub line_cut : (line rest : List ℕ) → lacks 10 line ≡ true → split_once 10 (ended line ++ rest) ≡ Some (line, rest)
line_cut line rest l = ap (split_once 10) (ended_then line rest) ∙ cut_again 10 line rest l

-- ---- a front

-- if `after front text` is `Some rest`, the text is the front followed by the rest
pub after_found : (front text rest : List ℕ) → after front text ≡ Some rest → text ≡ front ++ rest
unfolding after
after_found front text rest e =
    let s = some_of (bytes_eq (take (length front) text) front) (drop (length front) text) rest e in
    let f : take (length front) text ≡ front = same_bytes _ _ s.0 in
    sym (take-append-drop (length front) text) ∙ ap (λ (t : List ℕ). t ++ drop (length front) text) f ∙ ap (λ (t : List ℕ). front ++ t) s.1

-- if a text is a front followed by a rest, `after` returns the rest
pub after_again : (front rest : List ℕ) → after front (front ++ rest) ≡ Some rest
unfolding after
after_again front rest =
    rw (take_at front rest (length front) refl, drop_at front rest (length front) refl, bytes_same front front refl) refl

-- ---- words

-- a word may end before this text: the text is empty or begins with a space
abbrev pub EndsWord : List ℕ → Type 0
EndsWord [] = Unit {0}
EndsWord (x ∷ xs) = x ≡ 32

-- a word that is read is a space and the decimal of a number below the limit
pub word_found : (limit : ℕ) (text : List ℕ) (n : ℕ) (rest : List ℕ) → word_at limit text ≡ Some (n, rest) → (text ≡ 32 ∷ decimal n ++ rest) × (n < limit)
unfolding word_at
word_found limit text n rest e =
    let a = bind_some (after (32 ∷ []) text) (λ r. natural_of limit (before_first (λ b. b == 32) r) >>= λ m. Some (m, drop (position_or_len (λ b. b == 32) r) r)) (n, rest) e in
    let b = bind_some (natural_of limit (before_first (λ b. b == 32) a.0)) (λ m. Some (m, drop (position_or_len (λ b. b == 32) a.0) a.0)) (n, rest) a.2 in
    let p = pair_is b.0 n (drop (position_or_len (λ b. b == 32) a.0) a.0) rest b.2 in
    let f = natural_found limit (before_first (λ b. b == 32) a.0) b.0 b.1 in
    let parts : a.0 ≡ decimal n ++ rest = sym (take-append-drop (position_or_len (λ b. b == 32) a.0) a.0) ∙ ap (λ (t : List ℕ). t ++ drop (position_or_len (λ b. b == 32) a.0) a.0) (f.0 ∙ ap decimal p.0) ∙ ap (λ (t : List ℕ). decimal n ++ t) p.1 in
    (after_found (32 ∷ []) text a.0 a.1 ∙ ap (λ (t : List ℕ). 32 ∷ t) parts, omega (arith, f.1, p.0))

ends_at : (a r : List ℕ) → lacks 32 a ≡ true → EndsWord r → position_or_len (λ b. b == 32) (a ++ r) ≡ length a
ends_at a [] l h = rw (append-nil a) (first_index_none 32 a l)
ends_at a (x ∷ r) l h = rw h (first_index_is 32 a r l)

-- a written word is read back if a word may end before the text that follows
pub word_again : (limit n : ℕ) (rest : List ℕ) → n < limit → n < 2 ^ 64 → EndsWord rest → word_at limit (32 ∷ decimal n ++ rest) ≡ Some (n, rest)
unfolding word_at
word_again limit n rest lt fits ends =
    let at = ends_at (decimal n) rest (decimal_lacks 32 n (lit< tt) fits) ends in
    rw (after_again (32 ∷ []) (decimal n ++ rest)) (rw (at, take_at (decimal n) rest (length (decimal n)) refl, drop_at (decimal n) rest (length (decimal n)) refl, natural_again limit n lt fits) refl)

-- ---- three words

-- three words in a row and a text are each word before the rest
pub three_in_turn : (x y z : ℕ) (rest : List ℕ) → flat_map word (x ∷ y ∷ z ∷ []) ++ rest ≡ word x ++ (word y ++ (word z ++ rest))
three_in_turn x y z rest =
    append_assoc (word x) (word y ++ (word z ++ [])) rest
    ∙ ap (λ (t : List ℕ). word x ++ t) (append_assoc (word y) (word z ++ []) rest ∙ ap (λ (t : List ℕ). word y ++ t) (append_assoc (word z) [] rest))

-- words one after another are three words
three_joined : (limit x y z : ℕ) (text r s rest : List ℕ) (p : List ℕ × List ℕ) → text ≡ word x ++ r → r ≡ word y ++ s → s ≡ word z ++ rest
    → x < limit → y < limit → z < limit → (x ∷ y ∷ z ∷ [], rest) ≡ p → (text ≡ flat_map word p.0 ++ p.1) × AreThree (λ n. n < limit) p.0
three_joined limit x y z text r s rest p e f g lx ly lz same =
    let whole : text ≡ flat_map word (x ∷ y ∷ z ∷ []) ++ rest = e ∙ ap (λ (t : List ℕ). word x ++ t) (f ∙ ap (λ (t : List ℕ). word y ++ t) g) ∙ sym (three_in_turn x y z rest) in
    subst (λ (q : List ℕ × List ℕ). (text ≡ flat_map word q.0 ++ q.1) × AreThree (λ n. n < limit) q.0) same (whole, (lx, ly, lz))

three_is : (limit x y z : ℕ) (text r s rest : List ℕ) → word_at limit text ≡ Some (x, r) → word_at limit r ≡ Some (y, s) → word_at limit s ≡ Some (z, rest)
    → three_at limit text ≡ Some (x ∷ y ∷ z ∷ [], rest)
unfolding three_at
three_is limit x y z text r s rest a b c = rw (a, b, c) refl

-- three words that are read are three numbers below the limit, as they are written
pub three_found : (limit : ℕ) (text : List ℕ) (p : List ℕ × List ℕ) → three_at limit text ≡ Some p → (text ≡ flat_map word p.0 ++ p.1) × AreThree (λ x. x < limit) p.0
unfolding three_at
three_found limit text p e =
    let a = bind_some (word_at limit text) (λ x. word_at limit x.1 >>= λ y. word_at limit y.1 >>= λ z. Some (x.0 ∷ y.0 ∷ z.0 ∷ [], z.1)) p e in
    let b = bind_some (word_at limit a.0.1) (λ y. word_at limit y.1 >>= λ z. Some (a.0.0 ∷ y.0 ∷ z.0 ∷ [], z.1)) p a.2 in
    let c = bind_some (word_at limit b.0.1) (λ z. Some (a.0.0 ∷ b.0.0 ∷ z.0 ∷ [], z.1)) p b.2 in
    let f = word_found limit text a.0.0 a.0.1 a.1 in
    let g = word_found limit a.0.1 b.0.0 b.0.1 b.1 in
    let h = word_found limit b.0.1 c.0.0 c.0.1 c.1 in
    three_joined limit a.0.0 b.0.0 c.0.0 text a.0.1 b.0.1 c.0.1 p f.0 g.0 h.0 f.1 g.1 h.1 (cc)

-- three written words are read back if a word may end before the text that follows
pub three_again : (limit : ℕ) (ns rest : List ℕ) → limit ≤ 2 ^ 64 → AreThree (λ x. x < limit) ns → EndsWord rest → three_at limit (flat_map word ns ++ rest) ≡ Some (ns, rest)
unfolding three_at
three_again limit [] rest small h ends = absurd h
three_again limit (x ∷ []) rest small h ends = absurd h
three_again limit (x ∷ y ∷ []) rest small h ends = absurd h
three_again limit (x ∷ y ∷ z ∷ w ∷ more) rest small h ends = absurd h
three_again limit (x ∷ y ∷ z ∷ []) rest small h ends =
    let c : word_at limit (word z ++ rest) ≡ Some (z, rest) = word_again limit z rest h.2 (omega arith) ends in
    let b : word_at limit (word y ++ (word z ++ rest)) ≡ Some (y, word z ++ rest) = word_again limit y (word z ++ rest) h.1 (omega arith) refl in
    let a : word_at limit (word x ++ (word y ++ (word z ++ rest))) ≡ Some (x, word y ++ (word z ++ rest)) = word_again limit x (word y ++ (word z ++ rest)) h.0 (omega arith) refl in
    ap (three_at limit) (three_in_turn x y z rest) ∙ three_is limit x y z (word x ++ (word y ++ (word z ++ rest))) (word y ++ (word z ++ rest)) (word z ++ rest) rest a b c

-- three words have no byte below the space
pub words_lack : (c limit : ℕ) (ns : List ℕ) → c < 32 → limit ≤ 2 ^ 64 → AreThree (λ x. x < limit) ns → lacks c (flat_map word ns) ≡ true
words_lack c limit [] low small h = absurd h
words_lack c limit (x ∷ []) low small h = absurd h
words_lack c limit (x ∷ y ∷ []) low small h = absurd h
words_lack c limit (x ∷ y ∷ z ∷ w ∷ more) low small h = absurd h
words_lack c limit (x ∷ y ∷ z ∷ []) low small h =
    lacks_append c (word x) (word y ++ (word z ++ [])) (word_lacks x (omega (arith, h.0)))
    (lacks_append c (word y) (word z ++ []) (word_lacks y (omega (arith, h.1)))
    (lacks_append c (word z) [] (word_lacks z (omega (arith, h.2))) refl))
  where
    word_lacks : (n : ℕ) → n < 2 ^ 64 → lacks c (word n) ≡ true
    word_lacks n fits = rw (ne_eqb 32 c (λ e. omega arith), decimal_lacks c n (omega arith) fits) refl

-- ---- columns

-- copies of another byte lack c
pub copies_lack : (c b k : ℕ) → (b ≡ c → ⊥) → lacks c (replicate k b) ≡ true
copies_lack c b zero h = refl
copies_lack c b (suc k) h = rw (ne_eqb b c h, copies_lack c b k h) refl

-- spaces have no byte below the space
pub spaces_lack : (c k : ℕ) → c < 32 → lacks c (replicate k 32) ≡ true
spaces_lack c k low = copies_lack c 32 k (λ e. omega arith)

-- a byte below the space that a text lacks is lacked by a column in which the text is right-aligned
pub right_lacks : (c width : ℕ) (text : List ℕ) → c < 32 → lacks c text ≡ true → lacks c (right_in width text) ≡ true
right_lacks c width text low l = lacks_append c (replicate (width - length text) 32) text (spaces_lack c (width - length text) low) l

-- a byte below the space that a text lacks is lacked by a column in which the text is left-aligned
pub left_lacks : (c width : ℕ) (text : List ℕ) → c < 32 → lacks c text ≡ true → lacks c (left_in width text) ≡ true
left_lacks c width text low l = lacks_append c text (replicate (width - length text) 32) l (spaces_lack c (width - length text) low)

-- a text no longer than the column's width, right-aligned, has the column's width
pub length-right_in : (width : ℕ) (text : List ℕ) → length text ≤ width → length (right_in width text) ≡ width
length-right_in width text h = omega (arith, length-append (replicate (width - length text) 32) text, length-replicate {A = ℕ} (width - length text) 32)

-- a text no longer than the column's width, left-aligned, has the column's width
pub length-left_in : (width : ℕ) (text : List ℕ) → length text ≤ width → length (left_in width text) ≡ width
length-left_in width text h = omega (arith, length-append text (replicate (width - length text) 32), length-replicate {A = ℕ} (width - length text) 32)

-- ---- bytes dropped at either end

abbrev copies : ℕ → ℕ → List ℕ
copies k c = replicate k c

none_in_front : (c : ℕ) (text : List ℕ) → (get_or text 0 0 ≡ c → ⊥) → without_front c text ≡ text
none_in_front c [] h = refl
none_in_front c (x ∷ xs) h = rw (ne_eqb x c h) refl

-- dropping the leading c from copies of c followed by a text that doesn't begin with c leaves that text
pub front_again : (c k : ℕ) (text : List ℕ) → (get_or text 0 0 ≡ c → ⊥) → without_front c (replicate k c ++ text) ≡ text
front_again c zero text h = none_in_front c text h
front_again c (suc k) text h = rw (eq-eqb c c refl) (front_again c k text h)

-- a text is some copies of c followed by the text without its leading c
pub front_found : (c : ℕ) (text : List ℕ) → (k : ℕ) × (text ≡ replicate k c ++ without_front c text)
front_found c [] = (0, refl)
front_found c (x ∷ xs) =
    elim (cases_Bool (eqb x c)) [
      | inr e ↦ (0, rw e refl)
      | inl e ↦ (suc (front_found c xs).0, rw e (ap (λ (b : ℕ). b ∷ xs) (eqb-true x c e) ∙ ap (λ (t : List ℕ). c ∷ t) (front_found c xs).1))
    ]

-- the rest does not begin with the byte
pub front_dropped : (c : ℕ) (text : List ℕ) → 0 < c → get_or (without_front c text) 0 0 ≡ c → ⊥
front_dropped c [] some e = omega arith
front_dropped c (x ∷ xs) some e = at (eqb x c) refl (front_dropped c xs some) e
  where
    at : (b : Bool) → eqb x c ≡ b → (get_or (without_front c xs) 0 0 ≡ c → ⊥) → get_or (cond b (without_front c xs) (x ∷ xs)) 0 0 ≡ c → ⊥
    at true t h d = h d
    at false t h d = let yes : eqb x c ≡ true = eq-eqb x c d in absurd cc

copies_push : (c k : ℕ) → copies k c ++ copies 1 c ≡ copies (suc k) c
copies_push c zero = refl
copies_push c (suc k) = ap (λ (t : List ℕ). c ∷ t) (copies_push c k)

reverse_copies : (c k : ℕ) → reverse (copies k c) ≡ copies k c
reverse_copies c zero = refl
reverse_copies c (suc k) = reverse-append (copies 1 c) (copies k c) ∙ ap (λ (t : List ℕ). t ++ copies 1 c) (reverse_copies c k) ∙ copies_push c k

first_of_reverse : (text : List ℕ) → get_or (reverse text) 0 0 ≡ get_or text (length text - 1) 0
first_of_reverse [] = refl
first_of_reverse (x ∷ xs) =
    let at : length (x ∷ xs) - 1 - 0 ≡ length (x ∷ xs) - 1 = omega arith in
    get_or-reverse (x ∷ xs) 0 0 (omega arith) ∙ ap (λ i. get_or (x ∷ xs) i 0) at

-- dropping the trailing c from a text that doesn't end in c followed by copies of c leaves that text
pub end_again : (c k : ℕ) (text : List ℕ) → (get_or text (length text - 1) 0 ≡ c → ⊥) → without_end c (text ++ replicate k c) ≡ text
end_again c k text h =
    let e : reverse (text ++ replicate k c) ≡ replicate k c ++ reverse text = rw (reverse-append, reverse_copies c k) refl in
    ap (λ (t : List ℕ). reverse (without_front c t)) e
    ∙ ap reverse (front_again c k (reverse text) (λ e. h (sym (first_of_reverse text) ∙ e))) ∙ reverse-reverse text

-- a text is the text without its trailing c followed by some copies of c
pub end_found : (c : ℕ) (text : List ℕ) → (k : ℕ) × (text ≡ without_end c text ++ replicate k c)
end_found c text =
    let f = front_found c (reverse text) in
    (f.0, sym (reverse-reverse text) ∙ ap reverse f.1 ∙ reverse-append (copies f.0 c) (without_front c (reverse text)) ∙ ap (λ (t : List ℕ). without_end c text ++ t) (reverse_copies c f.0))

-- a text from whose end the byte was dropped does not end in it
pub end_dropped : (c : ℕ) (text : List ℕ) → 0 < c → get_or (without_end c text) (length (without_end c text) - 1) 0 ≡ c → ⊥
end_dropped c text some e =
    front_dropped c (reverse text) some (ap (λ (t : List ℕ). get_or t 0 0) (sym (reverse-reverse (without_front c (reverse text)))) ∙ first_of_reverse (without_end c text) ∙ e)

-- a text that doesn't begin with a space is read back from a column in which it is right-aligned
pub right_again : (width : ℕ) (text : List ℕ) → (get_or text 0 0 ≡ 32 → ⊥) → without_spaces (right_in width text) ≡ text
right_again width text h = front_again 32 (width - length text) text h

-- a text that doesn't end in a space is read back from a column in which it is left-aligned
pub left_again : (width : ℕ) (text : List ℕ) → (get_or text (length text - 1) 0 ≡ 32 → ⊥) → without_end_spaces (left_in width text) ≡ text
left_again width text h = end_again 32 (width - length text) text h

-- ---- bytes that a text lacks

-- if a text lacks c, the byte at each index differs from c
pub lacks_at : (c : ℕ) (text : List ℕ) (i : ℕ) → 0 < c → lacks c text ≡ true → get_or text i 0 ≡ c → ⊥
lacks_at c [] i some l e = omega arith
lacks_at c (x ∷ xs) zero some l e =
    let no : eqb x c ≡ false = not-true (eqb x c) (and_parts (not (eqb x c)) (lacks c xs) l).0 in
    let yes : eqb x c ≡ true = eq-eqb x c e in
    absurd cc
lacks_at c (x ∷ xs) (suc i) some l e = lacks_at c xs i some (and_parts (not (eqb x c)) (lacks c xs) l).1 e
