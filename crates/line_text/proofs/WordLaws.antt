-- The words of a line, one after another.
use Rattle.std.proofs.Common.{◌≡◌, ◌⊎◌, ℕ, zero, suc, ◌+◌, ◌<◌, ◌≤◌, Bool, true, false, cond, not, List, [], ◌∷◌, ◌++◌, ◌-◌, eqb, length, take, drop, get_or, replicate, refl, append_assoc, sym, ap, subst, ◌∙◌, arith, inl, inr}
use Rattle.std.specs.List.{All, filter, slice_split, onto_first, position_or_len}
use Rattle.std.proofs.lemmas.Bool.{cases_lt, and_parts, not-true}
use Rattle.std.proofs.lemmas.List.{take_all, drop_more, take_at, drop_at}
use Rattle.std.proofs.lemmas.List.Sums.{fails_before_first, passes_at_first}
use Rattle.std.proofs.lemmas.List.Splits.{slice_split_first, slice_split_none}
use Rattle.std.proofs.Common.{drop_of_length-le, length-drop}
use Rattle.line_text.specs.Parts.{lacks, right_in}
use Rattle.line_text.specs.Words.{is_blank, is_empty, words, without_blanks, after_word}
use Rattle.line_text.proofs.LineLaws.{EndsWord}

all_fail : (p : ℕ → Bool) (text : List ℕ) → length text ≤ position_or_len p text → All (λ b. p b ≡ false) text
all_fail p text le = λ k d lt. fails_before_first p text k d (omega arith)

abbrev kept : List (List ℕ) → List (List ℕ)
kept parts = filter (λ w. not (is_empty w)) parts

after_blank : (b : ℕ) (text : List ℕ) → is_blank b ≡ true → words (b ∷ text) ≡ words text
unfolding words
after_blank b text e = ap (λ (t : Bool). kept (cond t ([] ∷ slice_split is_blank text) (onto_first b (slice_split is_blank text)))) e

-- blanks at the front make no word
pub words_blanks : (text : List ℕ) → words text ≡ words (without_blanks text)
words_blanks [] = refl
words_blanks (b ∷ bs) = at (is_blank b) refl (words_blanks bs)
  where
    at : (t : Bool) → is_blank b ≡ t → words bs ≡ words (without_blanks bs) → words (b ∷ bs) ≡ words (cond t (without_blanks bs) (b ∷ bs))
    at true e h = after_blank b bs e ∙ h
    at false e h = refl

-- the empty text has no words
pub no_words : words [] ≡ []
unfolding words
no_words = refl

-- the first byte that is no blank is none
starts_word : (text bs : List ℕ) (b : ℕ) → without_blanks text ≡ b ∷ bs → is_blank b ≡ false
starts_word [] bs b e = absurd cc
starts_word (c ∷ cs) bs b e = at (is_blank c) refl (λ h. starts_word cs bs b h) e
  where
    at : (t : Bool) → is_blank c ≡ t → (without_blanks cs ≡ b ∷ bs → is_blank b ≡ false) → cond t (without_blanks cs) (c ∷ cs) ≡ b ∷ bs → is_blank b ≡ false
    at true f h g = h g
    at false f h g = let same : c ≡ b = cc in subst (λ (x : ℕ). is_blank x ≡ false) same f

some_taken : (b : ℕ) (bs : List ℕ) (n : ℕ) → 0 < n → is_empty (take n (b ∷ bs)) ≡ false
some_taken b bs zero lt = absurd (omega arith)
some_taken b bs (suc n) lt = refl

keeps_first : (w : List ℕ) (parts : List (List ℕ)) → is_empty w ≡ false → kept (w ∷ parts) ≡ w ∷ kept parts
keeps_first w parts e = ap (λ (t : Bool). cond (not t) (w ∷ kept parts) (kept parts)) e

some_bytes : (b : ℕ) (bs : List ℕ) → is_blank b ≡ false → 0 < position_or_len is_blank (b ∷ bs)
some_bytes b bs e = subst (λ (t : Bool). 0 < cond (not t) (1 + position_or_len is_blank bs) 0) (sym e) (omega arith)

words_split : (b : ℕ) (bs : List ℕ) → is_blank b ≡ false
    → words (b ∷ bs) ≡ take (position_or_len is_blank (b ∷ bs)) (b ∷ bs) ∷ words (drop (position_or_len is_blank (b ∷ bs)) (b ∷ bs))
unfolding words
words_split b bs e = at (b ∷ bs) (some_taken b bs _ (some_bytes b bs e)) (cases_lt _ _)
  where
    at : (text : List ℕ) → is_empty (take (position_or_len is_blank text) text) ≡ false → (position_or_len is_blank text < length text) ⊎ (length text ≤ position_or_len is_blank text)
        → words text ≡ take (position_or_len is_blank text) text ∷ words (drop (position_or_len is_blank text) text)
    at text some (inl lt) =
        let n = position_or_len is_blank text in
        let rest : words (drop n text) ≡ words (drop (n + 1) text) =
        ap words (drop_more text n 0 lt) ∙ after_blank (get_or text n 0) (drop (n + 1) text) (passes_at_first is_blank text 0 lt) in
        ap kept (slice_split_first is_blank text 0 lt) ∙ keeps_first (take n text) (slice_split is_blank (drop (n + 1) text)) some ∙ ap (λ (ws : List (List ℕ)). take n text ∷ ws) (sym rest)
    at text some (inr le) =
        let n = position_or_len is_blank text in
        let whole : take n text ≡ text = take_all n text le in
        let none : drop n text ≡ [] = drop_of_length-le text le in
        ap kept (slice_split_none is_blank text (all_fail is_blank text le)) ∙ keeps_first text [] (subst (λ (t : List ℕ). is_empty t ≡ false) whole some)
        ∙ ap (λ (w : List ℕ). w ∷ []) (sym whole) ∙ ap (λ (ws : List (List ℕ)). take n text ∷ ws) (sym (ap words none ∙ no_words))

-- a text that contains only blanks has no words
pub words_none : (text w : List ℕ) → w ≡ without_blanks text → length w ≡ 0 → words text ≡ []
words_none text [] e l = words_blanks text ∙ ap words (sym e) ∙ no_words
words_none text (b ∷ bs) e l = absurd (omega arith)

-- any other text has a first word, up to the next blank; the other words are the words of the rest, which is shorter
pub words_some : (text w : List ℕ) → w ≡ without_blanks text → (length w ≡ 0 → ⊥)
    → (words text ≡ take (position_or_len is_blank w) w ∷ words (drop (position_or_len is_blank w) w)) × (drop (position_or_len is_blank w) w ≡ after_word text) × (length (drop (position_or_len is_blank w) w) < length w)
unfolding after_word
words_some text [] e l = absurd (l refl)
words_some text (b ∷ bs) e l =
    let word = starts_word text bs b (sym e) in
    (words_blanks text ∙ ap words (sym e) ∙ words_split b bs word, ap (λ (t : List ℕ). drop (position_or_len is_blank t) t) e, omega (arith, length-drop (position_or_len is_blank (b ∷ bs)) (b ∷ bs), some_bytes b bs word))

-- ---- a written word is read back

lacks_differ : (c x : ℕ) (xs : List ℕ) → lacks c (x ∷ xs) ≡ true → (eqb x c ≡ false) × (lacks c xs ≡ true)
lacks_differ c x xs l = let p = and_parts (not (eqb x c)) (lacks c xs) l in (not-true (eqb x c) p.0, p.1)

no_blank : (x : ℕ) (xs : List ℕ) → lacks 32 (x ∷ xs) ≡ true → lacks 9 (x ∷ xs) ≡ true → is_blank x ≡ false
no_blank x xs s t = rw ((lacks_differ 32 x xs s).0, (lacks_differ 9 x xs t).0) refl

word_ends : (text rest : List ℕ) → lacks 32 text ≡ true → lacks 9 text ≡ true → EndsWord rest → position_or_len is_blank (text ++ rest) ≡ length text
word_ends [] [] s t e = refl
word_ends [] (x ∷ rest) s t e = rw e refl
word_ends (x ∷ xs) rest s t e =
    let more = word_ends xs rest (lacks_differ 32 x xs s).1 (lacks_differ 9 x xs t).1 e in
    ap (λ (b : Bool). cond (not b) (1 + position_or_len is_blank (xs ++ rest)) 0) (no_blank x xs s t) ∙ omega (arith, more)

words_one : (text rest : List ℕ) → 0 < length text → lacks 32 text ≡ true → lacks 9 text ≡ true → EndsWord rest → words (text ++ rest) ≡ text ∷ words rest
words_one [] rest some s t e = absurd (omega arith)
words_one (x ∷ xs) rest some s t e =
    let at = word_ends (x ∷ xs) rest s t e in
    words_split x (xs ++ rest) (no_blank x xs s t)
    ∙ ap (λ (n : ℕ). take n (x ∷ xs ++ rest) ∷ words (drop n (x ∷ xs ++ rest))) at
    ∙ ap (λ (w : List ℕ). w ∷ words (drop (length (x ∷ xs)) (x ∷ xs ++ rest))) (take_at (x ∷ xs) rest (length (x ∷ xs)) refl)
    ∙ ap (λ (r : List ℕ). (x ∷ xs) ∷ words r) (drop_at (x ∷ xs) rest (length (x ∷ xs)) refl)

spaces_before : (k : ℕ) (text : List ℕ) → words (replicate k 32 ++ text) ≡ words text
spaces_before zero text = refl
spaces_before (suc k) text = after_blank 32 (replicate k 32 ++ text) refl ∙ spaces_before k text

-- right in a column
pub words_right : (width : ℕ) (text rest : List ℕ) → 0 < length text → lacks 32 text ≡ true → lacks 9 text ≡ true → EndsWord rest → words (right_in width text ++ rest) ≡ text ∷ words rest
words_right width text rest some s t e =
    ap words (append_assoc (replicate (width - length text) 32) text rest) ∙ spaces_before (width - length text) (text ++ rest) ∙ words_one text rest some s t e

starts_space : (k : ℕ) (text : List ℕ) → 0 < k → EndsWord (replicate k 32 ++ text)
starts_space zero text some = absurd (omega arith)
starts_space (suc k) text some = refl

-- a column that is not filled ends the word before it
pub right_ends : (width : ℕ) (text rest : List ℕ) → length text < width → EndsWord (right_in width text ++ rest)
right_ends width text rest short =
    subst (λ (t : List ℕ). EndsWord t) (sym (append_assoc (replicate (width - length text) 32) text rest)) (starts_space (width - length text) (text ++ rest) (omega arith))
