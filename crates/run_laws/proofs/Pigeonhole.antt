-- The pigeonhole principle: of n + 1 numbers below n two are equal.
use Rattle.std.proofs.Common.{◌≡◌, ℕ, zero, suc, ◌<◌, ◌≤◌, ◌⊎◌, Bool, true, false, arith, refl, ap, sym, ◌∙◌, inl, inr, ⊎_elim, ◌==◌, if◌then◌else◌, eqb-true}
use Rattle.std.proofs.lemmas.Bool.{cases_eq, eqb-false}

-- one of the first n values is v
record Found (f : ℕ → ℕ) (v n : ℕ) : Type 0 where
  at : ℕ
  below : at < n
  is : f at ≡ v

found_more : (f : ℕ → ℕ) (v n : ℕ) → (f n ≡ v) ⊎ (f n ≡ v → ⊥) → Found f v n ⊎ ((k : ℕ) → k < n → f k ≡ v → ⊥) → Found f v (suc n) ⊎ ((k : ℕ) → k < suc n → f k ≡ v → ⊥)
found_more f v n (inl e) before = inl (record { at = n; below = omega arith; is = e })
found_more f v n (inr differs) (inl w) = let l = w.below in inl (record { at = w.at; below = omega (arith, l); is = w.is })
found_more f v n (inr differs) (inr none) =
    inr (λ k l e. ⊎_elim (λ (same : k ≡ n). differs (ap f (sym same) ∙ e)) (λ other. none k (omega (arith, l, other)) e) (cases_eq k n))

-- one of the first n values is v, or none is
found : (f : ℕ → ℕ) (v n : ℕ) → Found f v n ⊎ ((k : ℕ) → k < n → f k ≡ v → ⊥)
found f v zero = inr (λ k l e. absurd (omega (arith, l)))
found f v (suc n) = found_more f v n (cases_eq (f n) v) (found f v n)

-- two of the first n + 1 values are equal
pub record Meet (f : ℕ → ℕ) (n : ℕ) : Type 0 where
  pub first : ℕ
  pub last : ℕ
  pub apart : first < last
  pub within : last ≤ n
  pub same : f first ≡ f last

-- v in place of n
abbrev replaced : ℕ → ℕ → ℕ → ℕ
replaced n v x = if x == n then v else x

replaced_below : (n v x : ℕ) (b : Bool) → (x == n) ≡ b → v < suc n → x < suc n → (x ≡ v → ⊥) → (if b then v else x) < n
replaced_below n v x true e lv lx other =
    let same : x ≡ n = eqb-true x n e in
    omega (arith, same, lv, other)
replaced_below n v x false e lv lx other = let differs = eqb-false x n e in omega (arith, lx, differs)

replaced_same : (n v x y : ℕ) (b d : Bool) → (x == n) ≡ b → (y == n) ≡ d → (x ≡ v → ⊥) → (y ≡ v → ⊥) → (if b then v else x) ≡ (if d then v else y) → x ≡ y
replaced_same n v x y true true e g hx hy same = eqb-true x n e ∙ sym (eqb-true y n g)
replaced_same n v x y true false e g hx hy same = absurd (hy (sym same))
replaced_same n v x y false true e g hx hy same = absurd (hx same)
replaced_same n v x y false false e g hx hy same = same

module _ (n : ℕ) (f : ℕ → ℕ) (below : (k : ℕ) → k ≤ suc n → f k < suc n) (before : (g : ℕ → ℕ) → ((k : ℕ) → k ≤ n → g k < n) → Meet g n) where
  -- if the last value differs from all others, putting it in place of n leaves values below n
  met_before : ((k : ℕ) → k < suc n → f k ≡ f (suc n) → ⊥) → Meet f (suc n)
  met_before none =
      let v = f (suc n) in
      let m = before (λ k. replaced n v (f k)) (λ k l. replaced_below n v (f k) (f k == n) refl (below (suc n) (omega arith)) (below k (omega (arith, l))) (none k (omega (arith, l)))) in
      let l = m.apart in
      let w = m.within in
      record {
        first = m.first;
        last = m.last;
        apart = l;
        within = omega (arith, w);
        same = replaced_same n v (f m.first) (f m.last) (f m.first == n) (f m.last == n) refl refl (none m.first (omega (arith, l, w))) (none m.last (omega (arith, w))) m.same;
      }

  met : Found f (f (suc n)) (suc n) ⊎ ((k : ℕ) → k < suc n → f k ≡ f (suc n) → ⊥) → Meet f (suc n)
  met (inl w) = record { first = w.at; last = suc n; apart = w.below; within = omega arith; same = w.is }
  met (inr none) = met_before none

-- of n + 1 values below n two are equal
pub two_meet : (n : ℕ) (f : ℕ → ℕ) → ((k : ℕ) → k ≤ n → f k < n) → Meet f n
two_meet zero f below = let l = below 0 (omega arith) in absurd (omega (arith, l))
two_meet (suc n) f below = met n f below (λ g less. two_meet n g less) (found f (f (suc n)) (suc n))
