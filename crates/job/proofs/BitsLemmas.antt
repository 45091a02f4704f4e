-- The fraction bits that lines give don't depend on the fraction bits with which their numerals are read.
use Rattle.std.proofs.Common.{◌≡◌, ℕ, Bool, true, false, List, [], ◌∷◌, Option, Some, None, Ok, Err, codes, filter_map, option_and_then, slice_index, ◌==◌, refl, sym, ap, ◌∙◌, if◌then◌else◌}
use Rattle.std.specs.List.{cons_option}
use Rattle.std.specs.Option.{unwrap_or}
use Rattle.std.specs.Result.{result_ok}
use Rattle.fixed.specs.declared.frac.Frac.{Frac}
use Rattle.fixed.specs.declared.frac.Frac.TheVariants.{F32}
use Rattle.job.specs.declared.faults.Key.{Key}
use Rattle.job.specs.declared.faults.Key.TheVariants as keys
use Rattle.line_text.specs.Words.{words, after_word}
use Rattle.job.specs.Numbers.{Reading, alone, frac_of}
use Rattle.job.specs.Statements.{key_of, value_of}
use Rattle.job.specs.Faults.{first, summary}
use Rattle.job.specs.JobLines.{LineSays, LineValue, says_bits, said_bits}
use Rattle.job.specs.Bits.{key_bits, words_bits, bits_said, frac_in}
use Rattle.job.proofs.EntryLemmas.{alone_ok, entry_ok, key_again, key_found, key_no_comment, no_comment, same_some, value_again, words_behind}
use Rattle.job.proofs.NumberTexts.{frac_again, frac_ok}

-- ---- one line

ok_of : {X : Type 0} (r : Reading X) (x : X) → result_ok r ≡ Some x → r ≡ Ok x
ok_of (Ok y) x e = ap (λ z. Ok z) (same_some y x e)
ok_of (Err f) x e = absurd cc

-- a line with fraction bits gives them
bits_again : (frac : Frac) (line : List ℕ) (bits : Frac) → LineSays frac line (says_bits bits) → bits_said line ≡ Some bits
unfolding bits_said
bits_again frac line bits h =
    rw (
      no_comment line (codes "bits") (h.0 ∷ []) h.1 (key_no_comment keys.Bits),
      h.1,
      key_again keys.Bits,
      words_behind line (codes "bits") (h.0 ∷ []) h.1,
      frac_again h.0 bits h.2,
    ) refl

-- a line that gives fraction bits has them, whatever the fraction bits of its numerals
bits_found : (frac : Frac) (line : List ℕ) (bits : Frac) → bits_said line ≡ Some bits → LineSays frac line (says_bits bits)
unfolding bits_said
bits_found frac line bits e = at (slice_index line 0 == 35) e
  where
    by_key : (word : List ℕ) (ws : List (List ℕ)) → words line ≡ word ∷ ws → (key : Option Key) → key_of word ≡ key → key_bits key (after_word line) ≡ Some bits → LineSays frac line (says_bits bits)
    by_key word ws is (Some keys.Bits) known h =
        let one = alone_ok frac_of (words (after_word line)) bits (ok_of (alone frac_of (words (after_word line))) bits h) in
        let behind = sym (words_behind line word ws is) ∙ one.1 in
        (one.0, is ∙ ap (λ (w : List ℕ). w ∷ ws) (key_found word keys.Bits known) ∙ ap (λ (us : List (List ℕ)). codes "bits" ∷ us) behind, frac_ok one.0 bits one.2)
    by_key word ws is _ known h = absurd cc

    by_words : (ws : List (List ℕ)) → words line ≡ ws → words_bits ws (after_word line) ≡ Some bits → LineSays frac line (says_bits bits)
    by_words [] is h = absurd cc
    by_words (word ∷ ws) is h = by_key word ws is (key_of word) refl h

    at : (b : Bool) → (if b then None else words_bits (words line) (after_word line)) ≡ Some bits → LineSays frac line (says_bits bits)
    at true h = absurd cc
    at false h = by_words (words line) refl h

line_case : (frac : Frac) (line : List ℕ) → option_and_then said_bits (value_of frac line) ≡ bits_said line
line_case frac line = at (bits_said line) refl
  where
    none : bits_said line ≡ None → (v : Option LineValue) → value_of frac line ≡ v → option_and_then said_bits v ≡ None
    none e (Some (says_bits bits)) is = let given = bits_again frac line bits (entry_ok frac line (says_bits bits) is) in absurd cc
    none e _ is = refl

    at : (o : Option Frac) → bits_said line ≡ o → option_and_then said_bits (value_of frac line) ≡ o
    at (Some bits) e = ap (option_and_then said_bits) (value_again frac line (says_bits bits) (bits_found frac line bits e))
    at None e = none e (value_of frac line) refl

-- ---- all lines

said_in : {X Y : Type 0} (part : X → Option Y) (o : Option X) (xs : List X) → filter_map part (cons_option o xs) ≡ cons_option (option_and_then part o) (filter_map part xs)
said_in part None xs = refl
said_in part (Some x) xs = refl

bits_by_line : (frac : Frac) (lines : List (List ℕ)) → filter_map said_bits (filter_map (value_of frac) lines) ≡ filter_map bits_said lines
bits_by_line frac [] = refl
bits_by_line frac (line ∷ lines) =
    said_in said_bits (value_of frac line) (filter_map (value_of frac) lines)
    ∙ ap (λ o. cons_option o (filter_map said_bits (filter_map (value_of frac) lines))) (line_case frac line)
    ∙ ap (cons_option (bits_said line)) (bits_by_line frac lines)

-- with any fraction bits for the numerals, the summary of the lines gives the fraction bits of `frac_in`
pub frac_said : (frac : Frac) (lines : List (List ℕ)) → unwrap_or (summary frac lines).bits F32 ≡ frac_in lines
unfolding summary frac_in
frac_said frac lines = ap (λ (vs : List Frac). unwrap_or (first vs) F32) (bits_by_line frac lines)

-- ---- line by line

-- if the first line gives fraction bits, all lines have these fraction bits
pub frac_found : (all lines : List (List ℕ)) (line : List ℕ) (frac : Frac) → all ≡ line ∷ lines → bits_said line ≡ Some frac → frac_in all ≡ frac
unfolding frac_in
frac_found all lines line frac a e = rw (a, e) refl

-- if the first line gives no fraction bits, the fraction bits come from the lines below it
pub frac_below : (all lines : List (List ℕ)) (line : List ℕ) → all ≡ line ∷ lines → bits_said line ≡ None → frac_in all ≡ frac_in lines
unfolding frac_in
frac_below all lines line a e = rw (a, e) refl

-- without lines there are 32 fraction bits
pub frac_of_none : frac_in [] ≡ F32
unfolding frac_in
frac_of_none = refl
