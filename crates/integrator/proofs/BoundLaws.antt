-- The force on an atom of n atoms is at most n - 1 times the greatest force of a pair.
use Rattle.std.proofs.Common.{◌≡◌, ◌≢◌, ℕ, zero, suc, ◌+◌, ◌-◌, ◌*◌, ◌<◌, ◌≤◌, ℤ, Option, Some, None, arith, refl, inl, inr, true, false, Bool, neg_ℤ, unsigned_abs, unwrap_or, ◌==◌, if◌then◌else◌}
use Rattle.std.proofs.lemmas.Int.{ints}
use Rattle.std.proofs.lemmas.Bool.{cases_eq}
use Rattle.ring_box.specs.declared.boxes.RingBox.{RingBox}
use Rattle.ring_box.specs.declared.vectors.Place3.{Place3}
use Rattle.ring_box.specs.declared.vectors.Vector.{Vector}
use Rattle.ring_box.specs.Forces.{IsWithin, force_along_of, no_force}
use Rattle.ring_box.proofs.ForceLemmas.{force_along_within}
use Rattle.integrator.specs.Forces.{plus, negative, share_of, sum_of_shares, pairs_with, pairs_from, pairs_of, force_or_none}
use Rattle.integrator.proofs.ForceLaws.{no_share, shares-append}

-- a force within a bound is within a greater one
pub within-weaker : {f : Vector ℤ} → (b c : ℕ) → b ≤ c → IsWithin b f → IsWithin c f
within-weaker b c h w = record { x = omega (arith, w.x); y = omega (arith, w.y); z = omega (arith, w.z) }

-- the zero force is within every bound
pub none_within : (b : ℕ) → IsWithin b no_force
none_within b = record { x = omega arith; y = omega arith; z = omega arith }

negative_within : (b : ℕ) (f : Vector ℤ) → IsWithin b f → IsWithin b (negative f)
negative_within b f w = record { x = omega (arith, ints, w.x); y = omega (arith, ints, w.y); z = omega (arith, ints, w.z) }

pub plus_within : {b c : ℕ} {f g : Vector ℤ} → IsWithin b f → IsWithin c g → IsWithin (b + c) (plus f g)
plus_within v w = record { x = omega (arith, ints, v.x, w.x); y = omega (arith, ints, v.y, w.y); z = omega (arith, ints, v.z, w.z) }

chosen_within : (b : ℕ) (low high : Bool) (f : Vector ℤ) → IsWithin b f → IsWithin b (if low then f else if high then negative f else no_force)
chosen_within b true high f w = w
chosen_within b false true f w = negative_within b f w
chosen_within b false false f w = none_within b

-- ---- sums over a row, and over rows

module _ (b n : ℕ) (g : ℕ × ℕ → Vector ℤ) (w : (i j : ℕ) → i < j → j < n → IsWithin b (g (i, j))) where
  share_within : (i j a : ℕ) → i < j → j < n → IsWithin b (share_of (i, j) (g (i, j)) a)
  share_within i j a h k = chosen_within b (i == a) (j == a) (g (i, j)) (w i j h k)

  row_own : (i j m a : ℕ) → i < j → j + m ≤ n → IsWithin (b * m) (sum_of_shares g (pairs_with i j m) a)
  unfolding sum_of_shares pairs_with
  row_own i j zero a h k = none_within (b * zero)
  row_own i j (suc m) a h k =
      within-weaker (b + b * m) (b * suc m) (omega arith) (plus_within (share_within i j a h (omega arith)) (row_own i (suc j) m a (omega arith) (omega arith)))

  row_past : (i j m a : ℕ) → i ≢ a → a < j → IsWithin 0 (sum_of_shares g (pairs_with i j m) a)
  unfolding sum_of_shares pairs_with
  row_past i j zero a o h = none_within 0
  row_past i j (suc m) a o h =
      let k : j ≢ a = omega arith in
      rw (no_share i j a (g (i, j)) o k) (plus_within (none_within 0) (row_past i (suc j) m a o (omega arith)))

  row_other : (i j m a : ℕ) → i ≢ a → i < j → j + m ≤ n → IsWithin b (sum_of_shares g (pairs_with i j m) a)
  unfolding sum_of_shares pairs_with
  row_other i j zero a o h k = none_within b
  row_other i j (suc m) a o h k =
      elim (cases_eq j a) [
        | inl e ↦ within-weaker (b + 0) b (omega arith) (plus_within (share_within i j a h (omega arith)) (row_past i (suc j) m a o (omega arith)))
        | inr d ↦ rw (no_share i j a (g (i, j)) o d) (within-weaker (0 + b) b (omega arith) (plus_within (none_within 0) (row_other i (suc j) m a o (omega arith) (omega arith))))
      ]

  rows_past : (i m a : ℕ) → a < i → IsWithin 0 (sum_of_shares g (pairs_from i m) a)
  unfolding pairs_from sum_of_shares
  rows_past i zero a h = none_within 0
  rows_past i (suc m) a h =
      let o : i ≢ a = omega arith in
      rw (shares-append g (pairs_with i (suc i) m) (pairs_from (suc i) m) a) (plus_within (row_past i (suc i) m a o (omega arith)) (rows_past (suc i) m a (omega arith)))

  -- the atom i has a row of its own, and none after it
  rows_own : (i m a : ℕ) → i ≡ a → i + suc m ≤ n → IsWithin (b * m) (sum_of_shares g (pairs_from i (suc m)) a)
  unfolding pairs_from
  rows_own i m a e k =
      rw (shares-append g (pairs_with i (suc i) m) (pairs_from (suc i) m) a)
      (within-weaker (b * m + 0) (b * m) (omega arith) (plus_within (row_own i (suc i) m a (omega arith) (omega arith)) (rows_past (suc i) m a (omega arith))))

  rows_within : (i m a : ℕ) → i + suc m ≤ n → IsWithin (b * m) (sum_of_shares g (pairs_from i (suc m)) a)
  unfolding pairs_from pairs_with sum_of_shares
  rows_within i zero a k = none_within (b * zero)
  rows_within i (suc m) a k =
      elim (cases_eq i a) [
        | inl e ↦ rows_own i (suc m) a e k
        | inr o ↦ rw (shares-append g (pairs_with i (suc i) (suc m)) (pairs_from (suc i) (suc m)) a)
            (within-weaker (b + b * m) (b * suc m) (omega arith) (plus_within (row_other i (suc i) (suc m) a o (omega arith) (omega arith)) (rows_within (suc i) m a (omega arith))))
      ]

  first_rows : (m a : ℕ) → m ≤ n → IsWithin (b * (m - 1)) (sum_of_shares g (pairs_of m) a)
  unfolding pairs_from sum_of_shares
  first_rows zero a h = none_within (b * (zero - 1))
  first_rows (suc m) a h = let e : suc m - 1 ≡ m = omega arith in rw e (rows_within 0 m a (omega arith))

  -- an atom takes part in n - 1 pairs
  pub shares_within : (a : ℕ) → IsWithin (b * (n - 1)) (sum_of_shares g (pairs_of n) a)
  shares_within a = first_rows n a (omega arith)

-- ---- the force of a pair

or_none_within : (b : ℕ) (o : Option (Vector ℤ)) → ((f : Vector ℤ) → o ≡ Some f → IsWithin b f) → IsWithin b (unwrap_or o no_force)
or_none_within b None h = none_within b
or_none_within b (Some f) h = h f refl

-- if the force of each pair of n atoms is within b, the force on an atom is within b times n - 1
pub forces_within : (b : ℕ) (force : ℕ × ℕ → Option (Vector ℤ)) (n : ℕ) → ((i j : ℕ) (f : Vector ℤ) → i < j → j < n → force (i, j) ≡ Some f → IsWithin b f)
    → (a : ℕ) → IsWithin (b * (n - 1)) (sum_of_shares (force_or_none force) (pairs_of n) a)
forces_within b force n h = shares_within b n (force_or_none force) (λ i j apart below. or_none_within b (force (i, j)) (λ f. h i j f apart below))

-- a force along a line is within b if its size is at most b
pub along_within : (b : ℕ) (ring : RingBox) (g : ℤ) (p q : Place3) → unsigned_abs g ≤ b → IsWithin b (force_along_of ring (neg_ℤ g) p q)
along_within b ring g p q h = within-weaker (unsigned_abs (neg_ℤ g)) b (omega (arith, ints)) (force_along_within ring (neg_ℤ g) p q)
