-- The words of a text, as `split_once` cuts them off one by one.
use Rattle.std.proofs.Common.{◌≡◌, ◌≢◌, ◌==◌, ◌<◌, ◌+◌, ℕ, List, [], ◌∷◌, ◌++◌, Some, arith, false, find, get_or, length, refl, true}
use Rattle.std.proofs.lemmas.Bool.Decides.{nat_tests}
use Rattle.std.proofs.lemmas.Grind.{common_steps}
use Rattle.command_line.specs.Explanations.{is_code_word, words_of}

-- the text has no space
abbrev pub HasNoSpace : List ℕ → Type 0
HasNoSpace text = (i : ℕ) → i < length text → get_or text i 0 ≢ 32

no_space : (byte : ℕ) (rest : List ℕ) → HasNoSpace (byte ∷ rest) → (byte == 32) ≡ false
no_space byte rest none = let here : byte ≢ 32 = none 0 (grind (arith, common_steps)) in grind (arith, nat_tests)

none_later : (byte : ℕ) (rest : List ℕ) → HasNoSpace (byte ∷ rest) → HasNoSpace rest
none_later byte rest none i within = let later = none (i + 1) (grind (arith, common_steps)) in grind (arith, common_steps)

-- a text without a space is one word
pub one_word : (text : List ℕ) → HasNoSpace text → words_of text ≡ text ∷ []
one_word [] none = refl
one_word (byte ∷ rest) none = rw (no_space byte rest none, one_word rest (none_later byte rest none))

-- the text before the first space is the first word
pub first_word : (text more : List ℕ) → HasNoSpace text → words_of (text ++ 32 ∷ more) ≡ text ∷ words_of more
first_word [] more none = refl
first_word (byte ∷ rest) more none = rw (no_space byte rest none, first_word rest more (none_later byte rest none))

-- a first word that counts as a code is the code
pub code_first : (word : List ℕ) (words : List (List ℕ)) → true ≡ is_code_word word → Some word ≡ find is_code_word (word ∷ words)
code_first word words is = rw (← is)

-- another first word is passed over
pub code_later : (word : List ℕ) (words : List (List ℕ)) → false ≡ is_code_word word → find is_code_word words ≡ find is_code_word (word ∷ words)
code_later word words is = rw (← is)
