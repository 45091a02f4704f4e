-- Definitions that are left out are not missed.
use Rattle.std.proofs.Common.{◌≡◌, ℕ, zero, suc, ◌+◌, ◌≤◌, nat_le, Bool, true, false, ◌&&◌, if◌then◌else◌, List, [], ◌∷◌, length, ◌⊎◌, inl, inr, refl, sym, ap, ◌∙◌, subst, arith}
use Rattle.std.specs.Bool.{IsTrue}
use Rattle.std.proofs.lemmas.Bool.{cases_eq, ltb-true, leb-true, lt-ltb, le-leb}
use Rattle.energy_program.specs.Tree.{Tree, Number, Input, Definition, Negated, Binary, Applied, Power, Select, is_exponent, is_scoped, put, meaning}
use Rattle.energy_program.specs.Uses.{Uses, is_marked}
use Rattle.energy_program.proofs.MarkLaws.{AreMarked}
use Rattle.derivative.specs.Used.{rank, renumbered, kept_from}
use Rattle.energy_program.proofs.Scopes.{both, scoped_below}
use Rattle.derivative.proofs.Bool.{left_of, right_of}
use Rattle.energy_program.proofs.Meaning.{skip, here}

-- each use in the tree is marked
abbrev pub all_marked : List Bool → Tree → Bool
all_marked t (Number c) = true
all_marked t (Input i) = true
all_marked t (Definition j) = is_marked t j
all_marked t (Negated a) = all_marked t a
all_marked t (Binary o a b) = all_marked t a && all_marked t b
all_marked t (Applied f a) = all_marked t a
all_marked t (Power a n) = all_marked t a
all_marked t (Select c a b) = all_marked t c && (all_marked t a && all_marked t b)

-- If each definition that a tree uses is marked, the tree passes the test `all_marked`.
pub all_marked_where : (t : List Bool) (e : Tree) → ((k : ℕ) → Uses e k → is_marked t k ≡ true) → IsTrue (all_marked t e)
all_marked_where t (Number c) h = refl
all_marked_where t (Input i) h = refl
all_marked_where t (Definition j) h = h j refl
all_marked_where t (Negated a) h = all_marked_where t a h
all_marked_where t (Binary o a b) h = both _ _ (all_marked_where t a (λ k u. h k (inl u))) (all_marked_where t b (λ k u. h k (inr u)))
all_marked_where t (Applied f a) h = all_marked_where t a h
all_marked_where t (Power a n) h = all_marked_where t a h
all_marked_where t (Select c a b) h =
    both _ _ (all_marked_where t c (λ k u. h k (inl u)))
    (both _ _ (all_marked_where t a (λ k u. h k (inr (inl u)))) (all_marked_where t b (λ k u. h k (inr (inr u)))))

-- Each kept definition's uses are kept.
abbrev pub Closed : List Bool → ℕ → List Tree → Type 0
Closed t i [] = Unit {0}
Closed t i (d ∷ ds) = (is_marked t i ≡ true → IsTrue (all_marked t d)) × Closed t (i + 1) ds

module _ (t : List Bool) where
  -- the new number after a marked definition is one higher than its own
  pub rank_next : (i : ℕ) → is_marked t i ≡ true → rank t (i + 1) ≡ rank t i + 1
  rank_next i u = let e : i + 1 ≡ suc i = omega arith in ap (rank t) e ∙ ap (λ b. rank t i + (if b then 1 else 0)) u

  -- a definition that isn't marked leaves the next new number as it is
  pub rank_same : (i : ℕ) → is_marked t i ≡ false → rank t (i + 1) ≡ rank t i
  rank_same i u =
      let e : i + 1 ≡ suc i = omega arith in
      let z : rank t i + 0 ≡ rank t i = omega arith in ap (rank t) e ∙ ap (λ b. rank t i + (if b then 1 else 0)) u ∙ z

  -- of two definitions the later has no lower new number
  pub rank_up : (i j : ℕ) → i ≤ j → rank t i ≤ rank t j
  rank_up i zero h = let e : i ≡ 0 = omega arith in rw e (omega arith)
  rank_up i (suc j) h = by_case (cases_eq i (suc j)) (rank_up i j)
    where
      by_case : (i ≡ suc j) ⊎ (i ≡ suc j → ⊥) → (i ≤ j → rank t i ≤ rank t j) → rank t i ≤ rank t (suc j)
      by_case (inl e) up = rw e (omega arith)
      by_case (inr e) up = let r = up (omega arith) in omega arith

module _ (count n : ℕ) (t : List Bool) where
  -- If f at each marked definition's new number equals g at its old one, a renumbered tree under f is the tree under g.
  pub renumbered_put : (first : ℕ) (f g : ℕ → Tree) → ((j : ℕ) → first ≤ j → is_marked t j ≡ true → f (rank t j) ≡ g j)
      → (e : Tree) → IsTrue (is_scoped count first n e) → IsTrue (all_marked t e) → put f (renumbered (rank t) e) ≡ put g e
  renumbered_put first f g same (Number c) h m = refl
  renumbered_put first f g same (Input i) h m = refl
  renumbered_put first f g same (Definition j) h m = same j (leb-true first j (left_of (nat_le first j) _ h)) m
  renumbered_put first f g same (Negated a) h m = ap Negated (renumbered_put first f g same a h m)
  renumbered_put first f g same (Binary o a b) h m =
      let wa = renumbered_put first f g same a (left_of (is_scoped count first n a) _ h) (left_of (all_marked t a) _ m) in
      let wb = renumbered_put first f g same b (right_of (is_scoped count first n a) _ h) (right_of (all_marked t a) _ m) in
      rw (wa, wb) refl
  renumbered_put first f g same (Applied k a) h m = ap (Applied k) (renumbered_put first f g same a h m)
  renumbered_put first f g same (Power a k) h m = ap (λ x. Power x k) (renumbered_put first f g same a (right_of (is_exponent k) _ h) m)
  renumbered_put first f g same (Select c a b) h m =
      let hk = right_of (is_scoped count first n c) _ h in
      let mk = right_of (all_marked t c) _ m in
      let wc = renumbered_put first f g same c (left_of (is_scoped count first n c) _ h) (left_of (all_marked t c) _ m) in
      let wa = renumbered_put first f g same a (left_of (is_scoped count first n a) _ hk) (left_of (all_marked t a) _ mk) in
      let wb = renumbered_put first f g same b (right_of (is_scoped count first n a) _ hk) (right_of (all_marked t a) _ mk) in
      rw (wc, wa, wb) refl

  -- A marked definition has, among the kept definitions and under its new number, the same meaning as before.
  pub kept_means : (i : ℕ) (ds : List Tree) → IsTrue (scoped_below count n i ds) → Closed t i ds
      → (j : ℕ) → i ≤ j → is_marked t j ≡ true → meaning (rank t i) (kept_from t i ds) (rank t j) ≡ meaning i ds j
  kept_means i [] h closed j w u = refl
  kept_means i (d ∷ ds) h closed j w u = by_use (is_marked t i) refl (kept_means (i + 1) ds (right_of (is_scoped count (i + 1) n d) _ h) closed.1)
    where
      by_case : (r : ℕ) → rank t i + 1 ≡ r → is_marked t i ≡ true
          → ((k : ℕ) → i + 1 ≤ k → is_marked t k ≡ true → meaning r (kept_from t (i + 1) ds) (rank t k) ≡ meaning (i + 1) ds k)
          → (j ≡ i) ⊎ (j ≡ i → ⊥)
          → meaning (rank t i) (renumbered (rank t) d ∷ kept_from t (i + 1) ds) (rank t j) ≡ meaning i (d ∷ ds) j
      by_case r e v rest (inl s) =
          here (rank t i) (rank t j) _ _ (ap (rank t) s)
          ∙ ap (λ x. put (meaning x (kept_from t (i + 1) ds)) (renumbered (rank t) d)) e
          ∙ renumbered_put (i + 1) (meaning r (kept_from t (i + 1) ds)) (meaning (i + 1) ds) rest d (left_of (is_scoped count (i + 1) n d) _ h) (closed.0 v)
          ∙ sym (here i j d ds s)
      by_case r e v rest (inr s) =
          let up = rank_up t (i + 1) j (omega arith) in
          let one_up = rank_next t i v in
          skip (rank t i) (rank t j) _ _ (omega arith)
          ∙ ap (λ x. meaning x (kept_from t (i + 1) ds) (rank t j)) e
          ∙ rest j (omega arith) u
          ∙ sym (skip i j d ds (omega arith))

      by_use : (b : Bool) → is_marked t i ≡ b
          → ((k : ℕ) → i + 1 ≤ k → is_marked t k ≡ true → meaning (rank t (i + 1)) (kept_from t (i + 1) ds) (rank t k) ≡ meaning (i + 1) ds k)
          → meaning (rank t i) (kept_from t i (d ∷ ds)) (rank t j) ≡ meaning i (d ∷ ds) j
      by_use true v rest = rw v (by_case (rank t (i + 1)) (sym (rank_next t i v)) v rest (cases_eq j i))
      by_use false v rest =
          let other : j ≡ i → ⊥ = λ s. absurd (let x : is_marked t i ≡ true = sym (ap (is_marked t) s) ∙ u in cc) in
          rw v (ap (λ x. meaning x (kept_from t (i + 1) ds) (rank t j)) (sym (rank_same t i v)) ∙ rest j (omega arith) u ∙ sym (skip i j d ds (omega arith)))

-- If each use of each marked definition is marked, each marked definition passes the test `all_marked`.
pub closed_where : (t : List Bool) (i : ℕ) (ds : List Tree) → AreMarked t i ds → Closed t i ds
closed_where t i [] h = tt
closed_where t i (d ∷ ds) h = ((λ on. all_marked_where t d (h.0 on)), closed_where t (i + 1) ds h.1)

module _ (count n : ℕ) where
  -- ---- the scopes of kept definitions

  -- The new number of i plus the number of definitions kept from i on is the number of all kept definitions.
  pub kept_long : (t : List Bool) (i : ℕ) (ds : List Tree) → i + length ds ≡ n → rank t i + length (kept_from t i ds) ≡ rank t n
  kept_long t i [] e = let s : n ≡ i = omega arith in rw s (omega arith)
  kept_long t i (d ∷ ds) e = by_use (is_marked t i) refl (kept_long t (i + 1) ds (omega arith))
    where
      by_use : (b : Bool) → is_marked t i ≡ b → rank t (i + 1) + length (kept_from t (i + 1) ds) ≡ rank t n → rank t i + length (kept_from t i (d ∷ ds)) ≡ rank t n
      by_use true v rest = let s = rank_next t i v in rw v (omega (arith, rest, s))
      by_use false v rest = let s = rank_same t i v in rw v (omega (arith, rest, s))

  -- a tree whose uses are marked has, renumbered, only uses of definitions that are kept
  pub renumbered_scoped : (t : List Bool) (first : ℕ) (e : Tree) → IsTrue (is_scoped count first n e) → IsTrue (all_marked t e)
      → IsTrue (is_scoped count (rank t first) (rank t n) (renumbered (rank t) e))
  renumbered_scoped t first (Number c) h m = refl
  renumbered_scoped t first (Input i) h m = h
  renumbered_scoped t first (Definition j) h m =
      let low = rank_up t first j (leb-true first j (left_of (nat_le first j) _ h)) in
      let within = ltb-true j n (right_of (nat_le first j) _ h) in
      let high = rank_up t (j + 1) n (omega arith) in
      let s = rank_next t j m in
      both _ _ (le-leb (rank t first) (rank t j) low) (lt-ltb (rank t j) (rank t n) (omega arith))
  renumbered_scoped t first (Negated a) h m = renumbered_scoped t first a h m
  renumbered_scoped t first (Binary o a b) h m =
      both _ _ (renumbered_scoped t first a (left_of (is_scoped count first n a) _ h) (left_of (all_marked t a) _ m))
      (renumbered_scoped t first b (right_of (is_scoped count first n a) _ h) (right_of (all_marked t a) _ m))
  renumbered_scoped t first (Applied f a) h m = renumbered_scoped t first a h m
  renumbered_scoped t first (Power a k) h m = both _ _ (left_of (is_exponent k) _ h) (renumbered_scoped t first a (right_of (is_exponent k) _ h) m)
  renumbered_scoped t first (Select c a b) h m =
      let hk = right_of (is_scoped count first n c) _ h in
      let mk = right_of (all_marked t c) _ m in
      both _ _ (renumbered_scoped t first c (left_of (is_scoped count first n c) _ h) (left_of (all_marked t c) _ m))
      (both _ _ (renumbered_scoped t first a (left_of (is_scoped count first n a) _ hk) (left_of (all_marked t a) _ mk))
      (renumbered_scoped t first b (right_of (is_scoped count first n a) _ hk) (right_of (all_marked t a) _ mk)))

  -- each definition that is kept has only uses of later ones that are kept
  pub kept_scoped : (t : List Bool) (i : ℕ) (ds : List Tree) → IsTrue (scoped_below count n i ds) → Closed t i ds
      → IsTrue (scoped_below count (rank t n) (rank t i) (kept_from t i ds))
  kept_scoped t i [] h closed = refl
  kept_scoped t i (d ∷ ds) h closed = by_use (is_marked t i) refl (kept_scoped t (i + 1) ds (right_of (is_scoped count (i + 1) n d) _ h) closed.1)
    where
      by_use : (b : Bool) → is_marked t i ≡ b → IsTrue (scoped_below count (rank t n) (rank t (i + 1)) (kept_from t (i + 1) ds))
          → IsTrue (scoped_below count (rank t n) (rank t i) (kept_from t i (d ∷ ds)))
      by_use true v rest =
          let w = renumbered_scoped t (i + 1) d (left_of (is_scoped count (i + 1) n d) _ h) (closed.0 v) in
          let s : rank t (i + 1) ≡ rank t i + 1 = rank_next t i v in
          let w1 : IsTrue (is_scoped count (rank t i + 1) (rank t n) (renumbered (rank t) d)) = subst (λ x. IsTrue (is_scoped count x (rank t n) (renumbered (rank t) d))) s w in
          let r1 : IsTrue (scoped_below count (rank t n) (rank t i + 1) (kept_from t (i + 1) ds)) = subst (λ x. IsTrue (scoped_below count (rank t n) x (kept_from t (i + 1) ds))) s rest in
          rw v (both _ _ w1 r1)
      by_use false v rest = let s = rank_same t i v in rw v (subst (λ x. IsTrue (scoped_below count (rank t n) x (kept_from t (i + 1) ds))) s rest)
