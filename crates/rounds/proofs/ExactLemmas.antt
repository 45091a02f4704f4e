-- Sums modulo 2^64 against exact ones.
use Rattle.std.proofs.Common.{◌≡◌, ℕ, zero, suc, ◌+◌, ◌*◌, ◌%◌, ◌^◌, ◌<◌, ◌≢◌, List, [], ◌∷◌, ◌++◌, Option, Some, None, ℤ, pos, neg_ℤ, ◌+ℤ◌, sym, ap, subst, ◌∙◌, ⊎_elim, arith, rules, if◌then◌else◌, ◌==◌, FitsSigned}
use Rattle.std.specs.Int.{w64, cast_signed, cast_unsigned, int_wrap, int_wrapping_neg}
use Rattle.std.proofs.lemmas.Int.{to_z-of_z, int_wrap_fits, wrapping_add-bits, int_wrap-add_left, int_wrap-add_right, wrapping_neg_is, SFits-int_wrap}
use Rattle.std.proofs.lemmas.List.Sums.{sum_by-cons, sum_by-append}
use Rattle.std.proofs.lemmas.Nat.{mod_below}
use Rattle.std.proofs.lemmas.Bool.{cases_eq}
use Rattle.std.proofs.lemmas.Bool.Decides.{nat_tests}
use Rattle.std.proofs.lemmas.List.Concat.{flat_map-cons}
use Rattle.std.proofs.Math.Facts.{Fits-of_z}
use Rattle.std.proofs.Math.Nat.{mod-add-mod, add-mod-mod, mod-eq_of_lt}
use Rattle.rounds.specs.declared.work.PairAdd.{PairAdd}
use Rattle.rounds.specs.Tiles.{amount_on, on_entry, total, three_on, component, along, against, additions_of, tile_of, tiles_of}
use Rattle.rounds.proofs.AmountLemmas.{amount_else}
use Rattle.rounds.specs.ExactSums.{force_on, tile_force, exact_force, HasWords, TileHasWords, PlanHasWords}

-- n is z modulo 2^64
abbrev pub IsResidue : ℕ → ℤ → Type 0
IsResidue n z = cast_signed w64 (n % 2 ^ 64) ≡ int_wrap w64 z

residue_of_zero : IsResidue 0 (pos 0)
residue_of_zero = sym (int_wrap_fits w64 (pos 0) (search rules))

residue_of_sum : (m n : ℕ) (y z : ℤ) → IsResidue m y → IsResidue n z → IsResidue (m + n) (y +ℤ z)
residue_of_sum m n y z p q =
    ap (cast_signed w64) (sym (mod-add-mod m (2 ^ 64) n) ∙ sym (add-mod-mod (m % 2 ^ 64) n (2 ^ 64)))
    ∙ (wrapping_add-bits w64 (m % 2 ^ 64) (n % 2 ^ 64) (mod_below m (2 ^ 64) (omega arith)) (mod_below n (2 ^ 64) (omega arith))
    ∙ (ap (λ x. int_wrap w64 (x +ℤ cast_signed w64 (n % 2 ^ 64))) p
    ∙ (ap (λ x. int_wrap w64 (int_wrap w64 y +ℤ x)) q
    ∙ (int_wrap-add_right w64 (int_wrap w64 y) z ∙ int_wrap-add_left w64 y z))))

residue_of_word : (z : ℤ) → FitsSigned w64 z → IsResidue (cast_unsigned w64 z) z
residue_of_word z fits =
    let small : cast_unsigned w64 z < 2 ^ 64 = let f = Fits-of_z fits in search rules in
    ap (cast_signed w64) (mod-eq_of_lt small) ∙ (to_z-of_z w64 z fits ∙ sym (int_wrap_fits w64 z fits))

residue_of_negative : (z : ℤ) → FitsSigned w64 z → IsResidue (cast_unsigned w64 (int_wrapping_neg w64 z)) (neg_ℤ z)
residue_of_negative z fits =
    let is : int_wrapping_neg w64 z ≡ int_wrap w64 (neg_ℤ z) = wrapping_neg_is w64 z fits in
    let wrapped = SFits-int_wrap w64 (neg_ℤ z) in
    let P : ℤ → Type 0 = λ y. IsResidue (cast_unsigned w64 y) (neg_ℤ z) in
    subst P (sym is) (residue_of_word (int_wrap w64 (neg_ℤ z)) wrapped ∙ int_wrap_fits w64 (int_wrap w64 (neg_ℤ z)) wrapped)

-- the sum of three components on an atom
three_sum : (b k : ℕ) (f : ℕ → ℕ) → on_entry k (three_on b (f 0) (f 1) (f 2)) ≡ amount_on k (3 * b, f 0) + (amount_on k (3 * b + 1, f 1) + amount_on k (3 * b + 2, f 2))
three_sum b k f =
    omega (
      arith,
      sum_by-cons (amount_on k) (3 * b, f 0) ((3 * b + 1, f 1) ∷ (3 * b + 2, f 2) ∷ []),
      sum_by-cons (amount_on k) (3 * b + 1, f 1) ((3 * b + 2, f 2) ∷ []),
      sum_by-cons (amount_on k) (3 * b + 2, f 2) [],
    )

-- on one of the atom's entries, and on another atom's
three_here : (atom axis : ℕ) (f : ℕ → ℕ) → axis < 3 → on_entry (3 * atom + axis) (three_on atom (f 0) (f 1) (f 2)) ≡ f axis
three_here atom zero f lt = three_sum atom (3 * atom + 0) f ∙ grind (arith, nat_tests)
three_here atom (suc zero) f lt = three_sum atom (3 * atom + 1) f ∙ grind (arith, nat_tests)
three_here atom (suc (suc zero)) f lt = three_sum atom (3 * atom + 2) f ∙ grind (arith, nat_tests)
three_here atom (suc (suc (suc axis))) f lt = absurd (omega arith)

three_else : (b atom axis : ℕ) (f : ℕ → ℕ) → axis < 3 → b ≢ atom → on_entry (3 * atom + axis) (three_on b (f 0) (f 1) (f 2)) ≡ 0
three_else b atom axis f lt ne =
    let apart : (i : ℕ) → i < 3 → 3 * atom + axis ≢ 3 * b + i = λ i h e. ne (omega arith) in
    three_sum b (3 * atom + axis) f ∙ grind (arith, amount_else, apart 0 (omega arith), apart 1 (omega arith), apart 2 (omega arith))

if_same : (b atom : ℕ) (z : ℤ) → b ≡ atom → (if b == atom then z else pos 0) ≡ z
if_same b atom z e = grind (arith, nat_tests)

if_else : (b atom : ℕ) (z : ℤ) → b ≢ atom → (if b == atom then z else pos 0) ≡ pos 0
if_else b atom z ne = grind (arith, nat_tests)

-- one side of a pair
side : (b atom axis : ℕ) (f : ℕ → ℕ) (z : ℤ) → axis < 3 → IsResidue (f axis) z → IsResidue (on_entry (3 * atom + axis) (three_on b (f 0) (f 1) (f 2))) (if b == atom then z else pos 0)
side b atom axis f z lt is = ⊎_elim here else' (cases_eq b atom)
  where
    here : b ≡ atom → IsResidue (on_entry (3 * atom + axis) (three_on b (f 0) (f 1) (f 2))) (if b == atom then z else pos 0)
    here e =
        let P : ℕ → Type 0 = λ a. on_entry (3 * a + axis) (three_on b (f 0) (f 1) (f 2)) ≡ f axis in
        let n : on_entry (3 * atom + axis) (three_on b (f 0) (f 1) (f 2)) ≡ f axis = subst P e (three_here b axis f lt) in
        ap (λ m. cast_signed w64 (m % 2 ^ 64)) n ∙ (is ∙ ap (int_wrap w64) (sym (if_same b atom z e)))

    else' : b ≢ atom → IsResidue (on_entry (3 * atom + axis) (three_on b (f 0) (f 1) (f 2))) (if b == atom then z else pos 0)
    else' ne = ap (λ m. cast_signed w64 (m % 2 ^ 64)) (three_else b atom axis f lt ne) ∙ (residue_of_zero ∙ ap (int_wrap w64) (sym (if_else b atom z ne)))

module _ (atom axis : ℕ) (lt : axis < 3) where
  of_pair : (p : PairAdd) → HasWords p → IsResidue (on_entry (3 * atom + axis) (additions_of (Some p))) (force_on atom axis (Some p))
  of_pair p words =
      let k = 3 * atom + axis in
      let lows = three_on p.low (along p.force 0) (along p.force 1) (along p.force 2) in
      let highs = three_on p.high (against p.force 0) (against p.force 1) (against p.force 2) in
      let z = component p.force axis in
      let both : on_entry k (lows ++ highs) ≡ on_entry k lows + on_entry k highs = sum_by-append (amount_on k) lows highs in
      ap (λ m. cast_signed w64 (m % 2 ^ 64)) both
      ∙ residue_of_sum (on_entry k lows) (on_entry k highs) (if p.low == atom then z else pos 0) (if p.high == atom then neg_ℤ z else pos 0)
      (side p.low atom axis (along p.force) z lt (residue_of_word z (words axis lt)))
      (side p.high atom axis (against p.force) (neg_ℤ z) lt (residue_of_negative z (words axis lt)))

  more : (p : Option PairAdd) (ps : List (Option PairAdd)) → IsResidue (on_entry (3 * atom + axis) (additions_of p)) (force_on atom axis p) → IsResidue (on_entry (3 * atom + axis) (tile_of ps)) (tile_force atom axis ps)
      → IsResidue (on_entry (3 * atom + axis) (tile_of (p ∷ ps))) (tile_force atom axis (p ∷ ps))
  more p ps one rest =
      let k = 3 * atom + axis in
      let both : on_entry k (tile_of (p ∷ ps)) ≡ on_entry k (additions_of p) + on_entry k (tile_of ps) = ap (on_entry k) (flat_map-cons additions_of p ps) ∙ sum_by-append (amount_on k) (additions_of p) (tile_of ps) in
      ap (λ m. cast_signed w64 (m % 2 ^ 64)) both
      ∙ residue_of_sum (on_entry k (additions_of p)) (on_entry k (tile_of ps)) (force_on atom axis p) (tile_force atom axis ps) one rest

  of_tile : (ps : List (Option PairAdd)) → TileHasWords ps → IsResidue (on_entry (3 * atom + axis) (tile_of ps)) (tile_force atom axis ps)
  of_tile [] words = residue_of_zero
  of_tile (None ∷ ps) words = more None ps residue_of_zero (of_tile ps words)
  of_tile (Some p ∷ ps) (here, words) = more (Some p) ps (of_pair p here) (of_tile ps words)

  of_plan : (plan : List (List (Option PairAdd))) → PlanHasWords plan → IsResidue (total (tiles_of plan) (3 * atom + axis)) (exact_force atom axis plan)
  of_plan [] words = residue_of_zero
  of_plan (t ∷ ts) (here, words) =
      let k = 3 * atom + axis in
      let both : total (tiles_of (t ∷ ts)) k ≡ on_entry k (tile_of t) + total (tiles_of ts) k = sum_by-cons (on_entry k) (tile_of t) (tiles_of ts) in
      ap (λ m. cast_signed w64 (m % 2 ^ 64)) both
      ∙ residue_of_sum (on_entry k (tile_of t)) (total (tiles_of ts) k) (tile_force atom axis t) (exact_force atom axis ts) (of_tile t here) (of_plan ts words)

  -- If the exact force on an entry fits 64 bits, the entry's total modulo 2^64, read as a signed number, is this force.
  pub comes_out : (plan : List (List (Option PairAdd))) → PlanHasWords plan → FitsSigned w64 (exact_force atom axis plan) → cast_signed w64 (total (tiles_of plan) (3 * atom + axis) % 2 ^ 64) ≡ exact_force atom axis plan
  comes_out plan words fits = of_plan plan words ∙ int_wrap_fits w64 (exact_force atom axis plan) fits
