-- Sums kept as signed numbers.
use Rattle.std.proofs.Common.{◌*◌, ◌≡◌, ℕ, zero, suc, ◌+◌, ◌%◌, ◌^◌, ◌<◌, ◌≢◌, List, [], ◌∷◌, ◌++◌, length, get_or, set, replicate, slice_index, ℤ, pos, refl, sym, ap, subst, ◌∙◌, ⊎_elim, append-nil, append_assoc, Option, arith, length-append, length-set, flat_map}
use Rattle.std.specs.Int.{w64, cast_signed, cast_unsigned}
use Rattle.std.proofs.lemmas.Int.{of_z-to_z}
use Rattle.std.proofs.lemmas.Nat.{mod_below}
use Rattle.std.proofs.lemmas.Bool.{cases_eq, cases_lt}
use Rattle.std.proofs.lemmas.List.{get_or_append_left, get_or_push, get_or-set_same, get_or-set_other}
use Rattle.std.proofs.lemmas.List.Folds.{fold-map}
use Rattle.std.proofs.lemmas.List.Sums.{sum_by_push}
use Rattle.std.proofs.Math.Nat.{mod-add-mod, mod-eq_of_lt}
use mathlib.Core.Option.{some, some-injective, some-ne-none}
use lib.ListN.{get_elem?}
use Rattle.rounds.specs.Tiles.{Addition, amount_on, on_entry, tile_of, tiles_of, total}
use Rattle.rounds.specs.declared.work.PairAdd.{PairAdd}
use Rattle.rounds.proofs.AmountLemmas.{amount_here, amount_else}
use Rattle.rounds.specs.Totals.{AreWords, AreSums, GoesOn}
use Rattle.rounds.proofs.CountLemmas.{sum_flat_map}

found_at : (xs : List ℕ) (i x : ℕ) → get_elem? xs i ≡ some x → slice_index xs i ≡ x
found_at [] i x e = absurd (some-ne-none x (sym e))
found_at (y ∷ ys) zero x e = some-injective y x e
found_at (y ∷ ys) (suc i) x e = found_at ys i x e

-- a word as the code reads it
pub word_is : (words : List ℕ) (k n : ℕ) (result : ℤ) → get_elem? words k ≡ some n → n < 2 ^ 64 → result ≡ cast_signed w64 n → cast_signed w64 (cast_unsigned w64 result) ≡ cast_signed w64 (slice_index words k % 2 ^ 64)
word_is words k n result at small is =
    ap (λ z. cast_signed w64 (cast_unsigned w64 z)) is ∙ (ap (cast_signed w64) (of_z-to_z w64 n small) ∙ ap (cast_signed w64) (sym (mod-eq_of_lt small) ∙ ap (λ m. m % 2 ^ 64) (sym (found_at words k n at))))

-- one word more is read
pub word_read : (found : ℕ → ℕ) (xs ys : List ℤ) (n : ℕ) (x : ℤ) → ys ≡ xs ++ x ∷ [] → AreWords found n xs → x ≡ cast_signed w64 (found n % 2 ^ 64) → AreWords found (n + 1) ys
word_read found xs ys n x more are is = subst (AreWords found (n + 1)) (sym more) (record {
  count = omega (arith, are.count, length-append xs (x ∷ []));
  each = λ k lt. ⊎_elim
      (λ h. get_or_append_left xs (x ∷ []) (pos 0) k (omega (arith, are.count)) ∙ are.each k h)
      (λ h. let last : n ≡ k = omega arith in get_or_push xs x (pos 0) k (are.count ∙ last) ∙ (is ∙ ap (λ j. cast_signed w64 (found j % 2 ^ 64)) last))
      (cases_lt k n);
})

-- If two word functions agree modulo 2^64, words of the one are words of the other.
pub words_told : (found told : ℕ → ℕ) (n m : ℕ) (xs : List ℤ) → AreWords found n xs → n ≡ m → ((k : ℕ) → k < m → found k % 2 ^ 64 ≡ told k % 2 ^ 64) → AreWords told m xs
words_told found told n m xs are len same = record {
  count = are.count ∙ len;
  each = λ k lt. are.each k (omega arith) ∙ ap (cast_signed w64) (same k lt);
}

-- words that are made all zero, for n atoms
pub zero_words : (words items : List ℕ) (atoms same : ℕ) → words ≡ items → items ≡ replicate (3 * atoms + 1) zero → same ≡ atoms → words ≡ replicate (3 * same + 1) zero
zero_words words items atoms same shown made e = shown ∙ (made ∙ ap (λ (n : ℕ). replicate (3 * n + 1) zero) (sym e))

-- one addition is made, as the code makes it
module _ (sums : List ℤ) (entry amount bits : ℕ) (result : ℤ) (bits_is : bits ≡ cast_unsigned w64 (cast_signed w64 (cast_unsigned w64 (get_or sums entry (pos 0)))))
    (result_is : result ≡ cast_signed w64 ((bits + amount) % 2 ^ 64)) where
  abbrev Stored : ℤ
  Stored = cast_signed w64 (cast_unsigned w64 result)

  module _ (done : List Addition) (n : ℕ) (are : AreSums done n sums) (lt : entry < n) where
    abbrev Sum : ℕ → List Addition → ℤ
    Sum k xs = cast_signed w64 (on_entry k xs % 2 ^ 64)

    stored_is : Stored ≡ Sum entry (done ++ (entry, amount) ∷ [])
    stored_is =
        let m = on_entry entry done in
        let old : cast_unsigned w64 (get_or sums entry (pos 0)) ≡ m % 2 ^ 64 = ap (cast_unsigned w64) (are.each entry lt) ∙ of_z-to_z w64 (m % 2 ^ 64) (mod_below m (2 ^ 64) (omega arith)) in
        let same : bits ≡ m % 2 ^ 64 = bits_is ∙ (ap (λ b. cast_unsigned w64 (cast_signed w64 b)) old ∙ of_z-to_z w64 (m % 2 ^ 64) (mod_below m (2 ^ 64) (omega arith))) in
        let more : on_entry entry (done ++ (entry, amount) ∷ []) ≡ m + amount = sum_by_push (amount_on entry) done (entry, amount) ∙ ap (λ a. m + a) (amount_here entry (entry, amount) refl) in
        ap (λ z. cast_signed w64 (cast_unsigned w64 z)) result_is
        ∙ (ap (cast_signed w64) (of_z-to_z w64 ((bits + amount) % 2 ^ 64) (mod_below (bits + amount) (2 ^ 64) (omega arith)))
        ∙ ap (cast_signed w64) (ap (λ b. (b + amount) % 2 ^ 64) same ∙ (mod-add-mod m (2 ^ 64) amount ∙ ap (λ b. b % 2 ^ 64) (sym more))))

    sums_added : AreSums (done ++ (entry, amount) ∷ []) n (set sums entry Stored)
    sums_added = record {
      count = length-set sums entry Stored ∙ are.count;
      each = λ k h. ⊎_elim (here k h) (other k h) (cases_eq k entry);
    }
      where
        here : (k : ℕ) → k < n → k ≡ entry → get_or (set sums entry Stored) k (pos 0) ≡ Sum k (done ++ (entry, amount) ∷ [])
        here k h e =
            let P : ℕ → Type 0 = λ j. get_or (set sums entry Stored) j (pos 0) ≡ Sum j (done ++ (entry, amount) ∷ []) in
            subst P (sym e) (get_or-set_same sums entry Stored (pos 0) (let c = are.count in omega arith) ∙ stored_is)

        other : (k : ℕ) → k < n → k ≢ entry → get_or (set sums entry Stored) k (pos 0) ≡ Sum k (done ++ (entry, amount) ∷ [])
        other k h ne =
            let same : on_entry k (done ++ (entry, amount) ∷ []) ≡ on_entry k done = sum_by_push (amount_on k) done (entry, amount) ∙ (let z = amount_else k (entry, amount) ne in omega arith) in
            get_or-set_other sums entry k Stored (pos 0) (λ e. ne (omega arith)) ∙ (are.each k h ∙ ap (λ m. cast_signed w64 (m % 2 ^ 64)) (sym same))

  -- Storing the sum of one addition adds this addition to the sums (`GoesOn`).
  pub goes_on_one : entry < length sums → GoesOn sums ((entry, amount) ∷ []) (set sums entry Stored)
  goes_on_one lt = (length-set sums entry Stored, λ done are. sums_added done (length sums) are lt)

-- Making no additions leaves the sums.
pub goes_on_none : (sums : List ℤ) → GoesOn sums [] sums
goes_on_none sums = (refl, λ done are. subst (λ xs. AreSums xs (length sums) sums) (sym (append-nil done)) are)

-- If adding xs and then ys leads from some sums to others, so does adding xs ++ ys.
pub goes_on_more : (before now after : List ℤ) (xs ys zs : List Addition) → GoesOn before xs now → GoesOn now ys after → zs ≡ xs ++ ys → GoesOn before zs after
goes_on_more before now after xs ys zs (len, one) (len', two) split =
    let P : ℕ → Type 0 = λ n. (done : List Addition) → AreSums done n now → AreSums (done ++ ys) n after in
    let on : (done : List Addition) → AreSums done (length before) now → AreSums (done ++ ys) (length before) after = subst P len two in
    (len' ∙ len, λ done are. subst (λ ws. AreSums ws (length before) after) (append_assoc done xs ys ∙ ap (λ ws. done ++ ws) (sym split)) (on (done ++ xs) (one done are)))

-- the sum of the tiles' additions is the total
pub tiles_total : (plan : List (List (Option PairAdd))) (k : ℕ) → on_entry k (flat_map tile_of plan) ≡ total (tiles_of plan) k
tiles_total plan k = sum_flat_map (amount_on k) tile_of plan ∙ sym (fold-map (λ n x. n + on_entry k x) tile_of 0 plan)
