-- The pairs of a frame in order, and forces added up over them.
use Rattle.std.proofs.Common.{◌≡◌, ℕ, zero, suc, ◌+◌, ◌-◌, ◌<◌, ◌≤◌, List, [], ◌∷◌, ◌++◌, ℤ, Option, Some, None, Result, Ok, Err, arith, refl, ap, ◌∙◌, add-one}
use Rattle.ring_box.specs.declared.vectors.Vector.{Vector}
use Rattle.integrator.specs.Forces.{pairs_with, pairs_from}
use Rattle.run_laws.specs.Adding.{on_force, with_pair, with_pairs}

-- if the next pair of a row has a force, the row goes on with this force added
pub row_goes_on : (force : ℕ × ℕ → Option (Vector ℤ)) (sums : List (Vector ℤ)) (i j n : ℕ) (v : Vector ℤ) → j < n → force (i, j) ≡ Some v
    → with_pairs force sums (pairs_with i j (n - j)) ≡ with_pairs force (with_pair sums (i, j) v) (pairs_with i (j + 1) (n - (j + 1)))
unfolding pairs_with with_pairs
row_goes_on force sums i j n v h e =
    let k : n - j ≡ suc (n - (j + 1)) = omega arith in
    rw (k, e, add-one) refl

-- a pair without a force stops the row
pub row_stops : (force : ℕ × ℕ → Option (Vector ℤ)) (sums : List (Vector ℤ)) (i j n : ℕ) → j < n → force (i, j) ≡ None
    → with_pairs force sums (pairs_with i j (n - j)) ≡ Err (i, j)
unfolding pairs_with with_pairs
row_stops force sums i j n h e =
    let k : n - j ≡ suc (n - (j + 1)) = omega arith in
    rw (k, e) refl

-- after the last pair of a row the sums are complete
pub row_ends : (force : ℕ × ℕ → Option (Vector ℤ)) (sums : List (Vector ℤ)) (i j n : ℕ) → n ≤ j
    → with_pairs force sums (pairs_with i j (n - j)) ≡ Ok sums
unfolding pairs_with with_pairs
row_ends force sums i j n h =
    let k : n - j ≡ zero = omega arith in
    rw k refl

-- the sums after adding the forces of further pairs, or the earlier pair without a force
abbrev pub after : (ℕ × ℕ → Option (Vector ℤ)) → Result (List (Vector ℤ)) (ℕ × ℕ) → List (ℕ × ℕ) → Result (List (Vector ℤ)) (ℕ × ℕ)
after force (Ok sums) qs = with_pairs force sums qs
after force (Err q) qs = Err q

after_one : (force : ℕ × ℕ → Option (Vector ℤ)) (sums : List (Vector ℤ)) (p : ℕ × ℕ) (ps qs : List (ℕ × ℕ)) (o : Option (Vector ℤ))
    → ((v : Vector ℤ) → with_pairs force (with_pair sums p v) (ps ++ qs) ≡ after force (with_pairs force (with_pair sums p v) ps) qs)
    → on_force p o (λ v. with_pairs force (with_pair sums p v) (ps ++ qs)) ≡ after force (on_force p o (λ v. with_pairs force (with_pair sums p v) ps)) qs
after_one force sums p ps qs None rest = refl
after_one force sums p ps qs (Some v) rest = rest v

pub pairs_after : (force : ℕ × ℕ → Option (Vector ℤ)) (sums : List (Vector ℤ)) (ps qs : List (ℕ × ℕ)) → with_pairs force sums (ps ++ qs) ≡ after force (with_pairs force sums ps) qs
unfolding with_pairs
pairs_after force sums [] qs = refl
pairs_after force sums (p ∷ ps) qs = after_one force sums p ps qs (force p) (λ v. pairs_after force (with_pair sums p v) ps qs)

-- if adding up row i gives `middle`, the rows after row i are added to `middle`
pub rows_go_on : (force : ℕ × ℕ → Option (Vector ℤ)) (sums middle : List (Vector ℤ)) (i n : ℕ) → i < n
    → with_pairs force sums (pairs_with i (i + 1) (n - (i + 1))) ≡ Ok middle
    → with_pairs force sums (pairs_from i (n - i)) ≡ with_pairs force middle (pairs_from (i + 1) (n - (i + 1)))
unfolding pairs_from
rows_go_on force sums middle i n h e =
    let k : n - i ≡ suc (n - (i + 1)) = omega arith in
    rw (k, ← add-one) (pairs_after force sums (pairs_with i (i + 1) (n - (i + 1))) (pairs_from (i + 1) (n - (i + 1))) ∙ ap (λ r. after force r (pairs_from (i + 1) (n - (i + 1)))) e)

-- if adding up row i stops at a pair, adding up the rows from i on stops at this pair
pub rows_stop : (force : ℕ × ℕ → Option (Vector ℤ)) (sums : List (Vector ℤ)) (q : ℕ × ℕ) (i n : ℕ) → i < n
    → with_pairs force sums (pairs_with i (i + 1) (n - (i + 1))) ≡ Err q
    → with_pairs force sums (pairs_from i (n - i)) ≡ Err q
unfolding pairs_from
rows_stop force sums q i n h e =
    let k : n - i ≡ suc (n - (i + 1)) = omega arith in
    rw (k, ← add-one) (pairs_after force sums (pairs_with i (i + 1) (n - (i + 1))) (pairs_from (i + 1) (n - (i + 1))) ∙ ap (λ r. after force r (pairs_from (i + 1) (n - (i + 1)))) e)

-- after the last row the sums are complete
pub rows_end : (force : ℕ × ℕ → Option (Vector ℤ)) (sums : List (Vector ℤ)) (i n : ℕ) → n ≤ i
    → with_pairs force sums (pairs_from i (n - i)) ≡ Ok sums
unfolding pairs_from with_pairs
rows_end force sums i n h =
    let k : n - i ≡ zero = omega arith in
    rw k refl
