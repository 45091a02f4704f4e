-- Newton's third law: the force of a pair on one atom is the negative of the force on the other, so the forces on all
-- atoms sum to zero.
use Rattle.std.proofs.Common.{◌≡◌, ◌≢◌, ℕ, Bool, true, false, List, [], ◌∷◌, ℤ, pos, neg_ℤ, ◌+ℤ◌, arith, refl, ap, sym, ◌∙◌, ◌==◌, if◌then◌else◌, eqb-true}
use Rattle.std.proofs.lemmas.Int.{ints}
use Rattle.ring_box.specs.Forces.{no_force}
use Rattle.ring_box.specs.declared.vectors.Vector.{Vector}
use Rattle.integrator.specs.Forces.{negative, pairs_of, plus, share_of, sum_of_shares}
use Rattle.integrator.proofs.ForceLaws.{ArePairsOf, IsPairOf, frame_pairs, pairs_parts}
use Rattle.run_laws.specs.AtomSums.{over_atoms}
use Rattle.run_laws.proofs.SumLaws.{of_one, over_none, over_one, over_plus, over_same}

-- along an axis
module _ (axis : Vector ℤ → ℤ) (none : axis no_force ≡ pos 0) (adds : (f g : Vector ℤ) → axis (plus f g) ≡ axis f +ℤ axis g) (turns : (f : Vector ℤ) → axis (negative f) ≡ neg_ℤ (axis f)) where
  share_at : (low high : Bool) (f : Vector ℤ) → (low ≡ true → high ≡ true → ⊥)
      → axis (if low then f else if high then negative f else no_force) ≡ (if low then axis f else pos 0) +ℤ (if high then neg_ℤ (axis f) else pos 0)
  share_at true true f apart = absurd (apart refl refl)
  share_at true false f apart = omega (arith, ints)
  share_at false true f apart = rw (turns f) (omega (arith, ints))
  share_at false false f apart = rw none (omega (arith, ints))

  -- a pair's share for an atom is the force if the atom is the pair's first, and the negative if it is the second
  share_is : (q : ℕ × ℕ) (f : Vector ℤ) (a : ℕ) → q.0 ≢ q.1 → axis (share_of q f a) ≡ of_one q.0 (axis f) a +ℤ of_one q.1 (neg_ℤ (axis f)) a
  share_is q f a apart = share_at (q.0 == a) (q.1 == a) f (λ low high. apart (eqb-true q.0 a low ∙ sym (eqb-true q.1 a high)))

  -- the shares of a pair sum to zero over the atoms
  pair_balanced : (n : ℕ) (q : ℕ × ℕ) (f : Vector ℤ) → IsPairOf n q → over_atoms n (λ a. axis (share_of q f a)) ≡ pos 0
  pair_balanced n q f h =
      let apart = h.apart in
      let below = h.below in
      let differ : q.0 ≢ q.1 = omega (arith, apart) in
      over_same n (λ a. axis (share_of q f a)) (λ a. of_one q.0 (axis f) a +ℤ of_one q.1 (neg_ℤ (axis f)) a) (λ a l. share_is q f a differ)
      ∙ over_plus n (of_one q.0 (axis f)) (of_one q.1 (neg_ℤ (axis f)))
      ∙ ap (λ v. v +ℤ over_atoms n (of_one q.1 (neg_ℤ (axis f)))) (over_one n q.0 (axis f) (omega (arith, apart, below)))
      ∙ ap (λ w. axis f +ℤ w) (over_one n q.1 (neg_ℤ (axis f)) below) ∙ omega (arith, ints)

  -- the shares of a list of pairs sum to zero over the atoms
  balanced : (n : ℕ) (force : ℕ × ℕ → Vector ℤ) (ps : List (ℕ × ℕ)) → ArePairsOf n ps → over_atoms n (λ a. axis (sum_of_shares force ps a)) ≡ pos 0
  unfolding sum_of_shares
  balanced n force [] h = over_same n (λ a. axis no_force) (λ a. pos 0) (λ a l. none) ∙ over_none n
  balanced n force (q ∷ ps) h =
      let parts = pairs_parts n q ps h in
      over_same n (λ a. axis (plus (share_of q (force q) a) (sum_of_shares force ps a))) (λ a. axis (share_of q (force q) a) +ℤ axis (sum_of_shares force ps a))
      (λ a l. adds (share_of q (force q) a) (sum_of_shares force ps a))
      ∙ over_plus n (λ a. axis (share_of q (force q) a)) (λ a. axis (sum_of_shares force ps a))
      ∙ omega (arith, ints, pair_balanced n q (force q) parts.0, balanced n force ps parts.1)

  -- the exact forces on n atoms sum to zero
  pub all_balanced : (n : ℕ) (force : ℕ × ℕ → Vector ℤ) → over_atoms n (λ a. axis (sum_of_shares force (pairs_of n) a)) ≡ pos 0
  all_balanced n force = balanced n force (pairs_of n) (frame_pairs n 0 n (omega arith))
