-- Sums of forces, their shares, and the pairs of a frame.
use Rattle.std.proofs.Common.{◌≡◌, ◌≢◌, ℕ, zero, suc, ◌+◌, ◌<◌, ◌≤◌, true, false, List, [], ◌∷◌, ◌++◌, ℤ, arith, refl, ap, sym, ◌∙◌, ◌==◌}
use Rattle.std.proofs.Math.IntN.{+ℤ_assoc, +ℤ_idl, +ℤ_idr}
use Rattle.std.specs.List.{All}
use Rattle.std.proofs.lemmas.Bool.Decides.{nat_tests}
use Rattle.std.proofs.lemmas.List.Elements.{All-cons, All-head, All-nil, All-tail}
use Rattle.ring_box.specs.Forces.{no_force}
use Rattle.ring_box.specs.declared.vectors.Vector.{Vector}
use Rattle.integrator.specs.Forces.{plus, negative, share_of, sum_of_shares, pairs_with, pairs_from}

-- ---- forces

-- adding the zero force changes no force
pub plus-none : (f : Vector ℤ) → plus f no_force ≡ f
plus-none f = simp +ℤ_idr

-- adding a force to the zero force gives the force
pub none-plus : (f : Vector ℤ) → plus no_force f ≡ f
none-plus f = simp +ℤ_idl

-- addition of forces is associative
pub plus-assoc : (f g h : Vector ℤ) → plus (plus f g) h ≡ plus f (plus g h)
plus-assoc f g h = simp +ℤ_assoc

-- an atom's sum of shares over two joined lists of pairs is the sum of its sums over each list
pub shares-append : (g : ℕ × ℕ → Vector ℤ) (ps qs : List (ℕ × ℕ)) (a : ℕ) → sum_of_shares g (ps ++ qs) a ≡ plus (sum_of_shares g ps a) (sum_of_shares g qs a)
unfolding sum_of_shares
shares-append g [] qs a = sym (none-plus (sum_of_shares g qs a))
shares-append g (p ∷ ps) qs a =
    ap (plus (share_of p (g p) a)) (shares-append g ps qs a)
    ∙ sym (plus-assoc (share_of p (g p) a) (sum_of_shares g ps a) (sum_of_shares g qs a))

-- ---- the pairs of a frame

-- the lower atom first, and both below n
pub record IsPairOf (n : ℕ) (p : ℕ × ℕ) : Type 0 where
  pub apart : p.0 < p.1
  pub below : p.1 < n

-- each item of the list is a pair of n atoms, the lower first
pub ArePairsOf : ℕ → List (ℕ × ℕ) → Type 0
ArePairsOf n [] = Unit {0}
ArePairsOf n (p ∷ ps) = IsPairOf n p × ArePairsOf n ps

-- if all items are pairs of n atoms, so is the first item, and so are the others
pub pairs_parts : (n : ℕ) (p : ℕ × ℕ) (ps : List (ℕ × ℕ)) → ArePairsOf n (p ∷ ps) → IsPairOf n p × ArePairsOf n ps
unfolding ArePairsOf
pairs_parts n p ps h = h

pairs-append : (n : ℕ) (ps qs : List (ℕ × ℕ)) → ArePairsOf n ps → ArePairsOf n qs → ArePairsOf n (ps ++ qs)
unfolding ArePairsOf
pairs-append n [] qs p q = q
pairs-append n (x ∷ ps) qs p q = (p.0, pairs-append n ps qs p.1 q)

row_pairs : (n i j m : ℕ) → i < j → j + m ≤ n → ArePairsOf n (pairs_with i j m)
unfolding ArePairsOf pairs_with
row_pairs n i j zero h k = tt
row_pairs n i j (suc m) h k = (record { apart = h; below = omega arith }, row_pairs n i (suc j) m (omega arith) (omega arith))

-- the pairs of a frame from an atom on are pairs of its atoms
pub frame_pairs : (n i m : ℕ) → i + m ≤ n → ArePairsOf n (pairs_from i m)
unfolding ArePairsOf pairs_from
frame_pairs n i zero h = tt
frame_pairs n i (suc m) h =
    pairs-append n (pairs_with i (suc i) m) (pairs_from (suc i) m) (row_pairs n i (suc i) m (omega arith) (omega arith)) (frame_pairs n (suc i) m (omega arith))

-- if P implies Q for each pair of n atoms, and P holds for all pairs in a list, Q holds for all pairs in the list
pub pairs_weaker : (P Q : ℕ × ℕ → Type 0) (n : ℕ) → ((p : ℕ × ℕ) → IsPairOf n p → P p → Q p) → (ps : List (ℕ × ℕ)) → ArePairsOf n ps → All P ps → All Q ps
pairs_weaker P Q n h [] are all = All-nil Q
pairs_weaker P Q n h (p ∷ ps) are all =
    let parts = pairs_parts n p ps are in
    All-cons Q p ps (h p parts.0 (All-head P p ps all)) (pairs_weaker P Q n h ps parts.1 (All-tail P p ps all))

-- ---- one pair

-- the share of a pair's lower atom is the pair's force
pub same_share : (i j : ℕ) (f : Vector ℤ) → share_of (i, j) f i ≡ f
same_share i j f = let e : (i == i) ≡ true = grind (arith, nat_tests) in rw e refl

-- the share of its higher atom is the negative
pub higher_share : (i j : ℕ) (f : Vector ℤ) → i ≢ j → share_of (i, j) f j ≡ negative f
higher_share i j f n =
    let low : (i == j) ≡ false = grind (arith, nat_tests) in
    let high : (j == j) ≡ true = grind (arith, nat_tests) in
    rw (low, high) refl

-- the share of any other atom is the zero force
pub no_share : (i j a : ℕ) (f : Vector ℤ) → i ≢ a → j ≢ a → share_of (i, j) f a ≡ no_force
no_share i j a f m n =
    let low : (i == a) ≡ false = grind (arith, nat_tests) in
    let high : (j == a) ≡ false = grind (arith, nat_tests) in
    rw (low, high) refl
