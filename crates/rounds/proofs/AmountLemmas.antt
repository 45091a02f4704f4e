-- Amounts on an entry, words to which an amount is added, and the progress of a worker that has just drawn a ticket.
use Rattle.std.proofs.Common.{◌≡◌, ℕ, zero, suc, ◌+◌, ◌%◌, ◌^◌, ◌<◌, ◌≤◌, ◌≢◌, List, length, get_or, set, replicate, slice_index, refl, sym, ap, subst, ◌∙◌, ⊎_elim, arith, get_or-set_same, get_or-set_other}
use Rattle.std.proofs.lemmas.Bool.{cases_eq}
use Rattle.std.proofs.lemmas.Bool.Decides.{nat_tests}
use Rattle.std.proofs.Math.Nat.{mod-add-mod}
use Rattle.rounds.specs.Tiles.{Addition, amount_on, tile_at}
use Rattle.rounds.specs.Interleaving.{stage_at}
use Rattle.rounds.specs.Interleaving.Stage.{doing, ended}

-- Reading a list of copies at any position, with the copy as the default, gives the copy.
pub all_alike : {A : Type 0} (x : A) (n i : ℕ) → get_or (replicate n x) i x ≡ x
all_alike x zero i = refl
all_alike x (suc n) zero = refl
all_alike x (suc n) (suc i) = all_alike x n i

-- an addition to an entry counts there by its amount
pub amount_here : (k : ℕ) (a : Addition) → k ≡ a.0 → amount_on k a ≡ a.1
amount_here k a e = grind (arith, nat_tests)

-- An addition to another entry adds 0 to this entry.
pub amount_else : (k : ℕ) (a : Addition) → k ≢ a.0 → amount_on k a ≡ 0
amount_else k a ne = grind (arith, nat_tests)

-- a word to which an amount may be added, modulo 2^64, after the addition
pub word_after : (words : List ℕ) (at k was now amount : ℕ) → k < length words → slice_index words k ≡ was % 2 ^ 64 → (k ≡ at → now ≡ was + amount) → (k ≢ at → now ≡ was)
    → slice_index (set words at ((slice_index words at + amount) % 2 ^ 64)) k ≡ now % 2 ^ 64
word_after words at k was now amount lt is same other = ⊎_elim here else' (cases_eq k at)
  where
    here : k ≡ at → slice_index (set words at ((slice_index words at + amount) % 2 ^ 64)) k ≡ now % 2 ^ 64
    here e =
        let P : ℕ → Type 0 = λ j. slice_index (set words j ((slice_index words j + amount) % 2 ^ 64)) k ≡ (slice_index words k + amount) % 2 ^ 64 in
        subst P e (get_or-set_same words k ((slice_index words k + amount) % 2 ^ 64) 0 lt)
        ∙ (ap (λ x. (x + amount) % 2 ^ 64) is ∙ (mod-add-mod was (2 ^ 64) amount ∙ ap (λ x. x % 2 ^ 64) (sym (same e))))

    else' : k ≢ at → slice_index (set words at ((slice_index words at + amount) % 2 ^ 64)) k ≡ now % 2 ^ 64
    else' ne = get_or-set_other words at k ((slice_index words at + amount) % 2 ^ 64) 0 ne ∙ (is ∙ ap (λ x. x % 2 ^ 64) (sym (other ne)))

module _ (tiles : List (List Addition)) where
  -- A worker that drew a tile's ticket is before all additions of the tile.
  pub stand_below : (t : ℕ) → t < length tiles → stage_at tiles t ≡ doing (tile_at tiles t)
  stand_below t lt = grind (arith, nat_tests)

  -- a worker that drew a ticket past the tiles has stopped
  pub stand_past : (t : ℕ) → length tiles ≤ t → stage_at tiles t ≡ ended
  stand_past t le = grind (arith, nat_tests)
