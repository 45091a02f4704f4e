-- Halvings of a range: its parts are in order and have the bounds of walks, and the bounds that come of it are unique.
use Rattle.std.proofs.Common.{◌≡◌, ◌⊎◌, inl, inr, ℕ, zero, suc, ◌<◌, ℤ, pos, ◌+ℤ◌, ◌≤ℤ◌, ◌<ℤ◌, List, [], ◌∷◌, ◌++◌, take, drop, Option, Some, None, slice_get, refl, sym, ap, subst, ◌∙◌, arith}
use Rattle.std.proofs.lemmas.Bool.{both_ways}
use Rattle.std.proofs.lemmas.Int.{by_lt_z, ints}
use Rattle.std.proofs.lemmas.Option.{none-some, same_Some}
use Rattle.energy_program.specs.Programs.{Trees}
use Rattle.fixed.specs.declared.constants.Constant.{Constant}
use Rattle.interval_domain.specs.Ranges.{IsIn, Range, range}
use Rattle.curves.specs.Slices.{AreBoundsOver, AreHalved, BoundsView, IsGreatest, IsNext, IsToHalve, IsWorst, Part, bounds_at, bounds_view, greater_bounds, halved_at, in_column, is_done, is_worse, middle, part_on, turn_of}
use Rattle.curves.specs.declared.slices.Column.{Column}
use Rattle.curves.specs.declared.slices.Column.TheVariants.{Energy, Slope}

-- ---- numbers

-- two numbers are in order, equal, or in the other order
by_three : {A : Type 0} (m n : ℕ) → (m < n → A) → (m ≡ n → A) → (n < m → A) → A
by_three zero zero f g h = g refl
by_three zero (suc n) f g h = f (omega arith)
by_three (suc m) zero f g h = h (omega arith)
by_three (suc m) (suc n) f g h = by_three m n (λ l. f (omega (arith, l))) (λ e. g (ap suc e)) (λ l. h (omega (arith, l)))

-- ---- a part with a property

-- some part has the property
data Any (P : Part → Type 0) : List Part → Type 0 where
  here : {p : Part} {ps : List Part} → P p → Any P (p ∷ ps)
  there : {p : Part} {ps : List Part} → Any P ps → Any P (p ∷ ps)

module _ (P : Part → Type 0) where
  -- it has a number
  any_at : (ps : List Part) → Any P ps → (i : ℕ) × (p : Part) × (slice_get ps i ≡ Some p) × P p
  any_at _ (Any.here {p = p} x) = (0, p, refl, x)
  any_at _ (Any.there {ps = ps} a) = let r = any_at ps a in (suc r.0, r.1, r.2, r.3)

  -- so it is after a part is replaced by two, one of which has the property if that part has it
  any_halved : (ps : List Part) (number : ℕ) (p lower upper : Part) → slice_get ps number ≡ Some p → (P p → P lower ⊎ P upper)
      → Any P ps → Any P (take number ps ++ (lower ∷ upper ∷ drop (suc number) ps))
  any_halved [] number p lower upper e f a = absurd (none-some p e)
  any_halved (q ∷ qs) zero p lower upper e f (Any.here x) =
      elim (f (subst P (same_Some q p e) x)) [ inl y ↦ Any.here y | inr y ↦ Any.there (Any.here y) ]
  any_halved (q ∷ qs) zero p lower upper e f (Any.there a) = Any.there (Any.there a)
  any_halved (q ∷ qs) (suc n) p lower upper e f (Any.here x) = Any.here x
  any_halved (q ∷ qs) (suc n) p lower upper e f (Any.there a) = Any.there (any_halved qs n p lower upper e f a)

-- ---- the parts of a range

module _ (bits : ℕ) (program : Trees) (others : List Constant) where
  abbrev on : Range → Part
  on r = part_on bits program others r

  -- the part is that of a walk over its range, which has the distance
  record Has (z : ℤ) (p : Part) : Type 0 where
    within : IsIn z p.range
    is : p ≡ on p.range

  -- one of its halves has the distance
  in_half : (z : ℤ) (p : Part) → Has z p
      → Has z (on (range p.range.low (middle p.range))) ⊎ Has z (on (range (middle p.range +ℤ pos 1) p.range.high))
  in_half z p has =
      by_lt_z (middle p.range) z
      (λ (above : middle p.range <ℤ z). inr (record { within = record { at_least = omega (arith, ints); at_most = has.within.at_most }; is = refl }))
      (λ (below : z ≤ℤ middle p.range). inl (record { within = record { at_least = has.within.at_least; at_most = below }; is = refl }))

  -- each distance of the range is in one of its parts
  any_with : (r : Range) (n : ℕ) (parts : List Part) (tried : BoundsView) → AreHalved bits program others r n parts tried → (z : ℤ) → IsIn z r
      → Any (Has z) parts
  any_with r _ _ _ AreHalved.whole z m = Any.here (record { within = m; is = refl })
  any_with r _ _ _ (AreHalved.halved {n = n} {number = number} {parts = parts} {p = p} {tried = tried} are few next its) z m =
      any_halved (Has z) parts number p (on (range p.range.low (middle p.range))) (on (range (middle p.range +ℤ pos 1) p.range.high)) its
      (in_half z p) (any_with r n parts tried are z m)

  -- which has a number
  pub part_with : (r : Range) (n : ℕ) (parts : List Part) (tried : BoundsView) → AreHalved bits program others r n parts tried → (z : ℤ) → IsIn z r
      → (i : ℕ) × (p : Part) × (slice_get parts i ≡ Some p) × IsIn z p.range × (p ≡ on p.range)
  part_with r n parts tried are z m =
      let at = any_at (Has z) parts (any_with r n parts tried are z m) in
      (at.0, at.1, at.2, at.3.within, at.3.is)

-- ---- the bounds are unique

-- a list has one part with a number
same : (parts : List Part) (i j : ℕ) (p q : Part) → slice_get parts i ≡ Some p → slice_get parts j ≡ Some q → i ≡ j → p ≡ q
same parts i j p q e f g = same_Some p q (sym e ∙ ap (slice_get parts) g ∙ f)

-- a column has one worst part
worst_once : (column : Column) (parts : List Part) (i j : ℕ) (p q : Part) → IsWorst column parts i p → IsWorst column parts j q → i ≡ j
worst_once column parts i j p q v w =
    by_three i j
    (λ l. absurd (both_ways (is_worse (in_column column q.bounds) (in_column column p.bounds)) (v.most j q w.its) (w.first i p l v.its)))
    (λ e. e)
    (λ l. absurd (both_ways (is_worse (in_column column p.bounds) (in_column column q.bounds)) (w.most i p v.its) (v.first j q l w.its)))

worst_same : (column : Column) (parts : List Part) (i j : ℕ) (p q : Part) → IsWorst column parts i p → IsWorst column parts j q → p ≡ q
worst_same column parts i j p q v w = same parts i j p q v.its w.its (worst_once column parts i j p q v w)

-- the same part is halved
to_halve_once : (column : Column) (parts : List Part) (tried : BoundsView) (m n : Option ℕ) → IsToHalve column parts tried m → IsToHalve column parts tried n → m ≡ n
to_halve_once column parts tried None None s t = refl
to_halve_once column parts tried (Some i) (Some j) s t = ap Some (worst_once column parts i j s.0 t.0 s.1 t.1)
to_halve_once column parts tried (Some i) None s t =
    let e = worst_same column parts i t.0 s.0 t.1 s.1 t.2 in
    absurd (both_ways (is_done column t.1 tried) (ap (λ p. is_done column p tried) (sym e) ∙ s.2) t.3)
to_halve_once column parts tried None (Some j) s t =
    let e = worst_same column parts s.0 j s.1 t.0 s.2 t.1 in
    absurd (both_ways (is_done column s.1 tried) (ap (λ p. is_done column p tried) e ∙ t.2) s.3)

next_once : (halvings : ℕ) (parts : List Part) (tried : BoundsView) (m n : Option ℕ) → IsNext halvings parts tried m → IsNext halvings parts tried n → m ≡ n
next_once halvings parts tried _ _ (IsNext.turn {number = i} s) (IsNext.turn {number = j} t) = to_halve_once (turn_of halvings).0 parts tried (Some i) (Some j) s t
next_once halvings parts tried _ n (IsNext.turn {number = i} s) (IsNext.other {number = o} t u) =
    absurd (none-some i (to_halve_once (turn_of halvings).0 parts tried None (Some i) t s))
next_once halvings parts tried m _ (IsNext.other {number = o} s u) (IsNext.turn {number = j} t) =
    absurd (none-some j (to_halve_once (turn_of halvings).0 parts tried None (Some j) s t))
next_once halvings parts tried _ _ (IsNext.other {number = m} s u) (IsNext.other {number = n} t v) = to_halve_once (turn_of halvings).1 parts tried m n u v

-- bounds with equal columns are equal
same_bounds : (a b c d : Option ℕ) → a ≡ c → b ≡ d → bounds_view a b ≡ bounds_view c d
same_bounds a b c d e f = ap (λ x. bounds_view x b) e ∙ ap (bounds_view c) f

greatest_once : (parts : List Part) (b c : BoundsView) → IsGreatest Energy parts b → IsGreatest Slope parts b → IsGreatest Energy parts c → IsGreatest Slope parts c → b ≡ c
greatest_once parts b c s t u v =
    same_bounds b.energy b.slope c.energy c.slope
    (s.3 ∙ ap (λ (p : Part). p.bounds.energy) (worst_same Energy parts s.0 u.0 s.1 u.1 s.2 u.2) ∙ sym u.3)
    (t.3 ∙ ap (λ (p : Part). p.bounds.slope) (worst_same Slope parts t.0 v.0 t.1 v.1 t.2 v.2) ∙ sym v.3)

module _ (bits : ℕ) (program : Trees) (others : List Constant) (r : Range) where
  abbrev Are : ℕ → List Part → BoundsView → Type 0
  Are n parts tried = AreHalved bits program others r n parts tried

  -- the same parts after so many halvings
  halved_once : (n : ℕ) (parts parts' : List Part) (tried tried' : BoundsView) → Are n parts tried → Are n parts' tried'
      → (parts ≡ parts') × (tried ≡ tried')
  halved_once _ _ _ _ _ AreHalved.whole AreHalved.whole = (refl, refl)
  halved_once _ _ _ _ _ (AreHalved.halved {n = n} {number = i} {parts = ps} {p = p} {tried = t} are few next its)
      (AreHalved.halved {number = j} {parts = qs} {p = q} {tried = u} are' few' next' its') =
      let before = halved_once n ps qs t u are are' in
      let next'' : IsNext n ps t (Some j) =
      subst (λ (l : List Part). IsNext n l t (Some j)) (sym before.0) (subst (λ (b : BoundsView). IsNext n qs b (Some j)) (sym before.1) next') in
      let number : i ≡ j = same_Some i j (next_once n ps t (Some i) (Some j) next next'') in
      let part : p ≡ q = same ps i j p q its (ap (λ l. slice_get l j) before.0 ∙ its') number in
      halves_same ps qs i j p q t u before.0 number part before.1
    where
      halves_same : (ps qs : List Part) (i j : ℕ) (p q : Part) (t u : BoundsView) → ps ≡ qs → i ≡ j → p ≡ q → t ≡ u
          → (halved_at bits program others ps i p ≡ halved_at bits program others qs j q)
          × (greater_bounds t (bounds_at bits program others (middle p.range)) ≡ greater_bounds u (bounds_at bits program others (middle q.range)))
      halves_same ps qs i j p q t u e f g h = (
        ap (λ l. halved_at bits program others l i p) e ∙ ap (λ n. halved_at bits program others qs n p) f ∙ ap (halved_at bits program others qs j) g,
        ap (λ b. greater_bounds b (bounds_at bits program others (middle p.range))) h
            ∙ ap (λ (s : Part). greater_bounds u (bounds_at bits program others (middle s.range))) g,
      )

  -- a halving that was passed
  record Passed (n : ℕ) : Type 0 where
    parts : List Part
    tried : BoundsView
    number : ℕ
    are : Are n parts tried
    next : IsNext n parts tried (Some number)
    few : n < 256

  passed : (m : ℕ) (parts : List Part) (tried : BoundsView) → Are m parts tried → (n : ℕ) → n < m → Passed n
  passed _ _ _ AreHalved.whole n l = absurd (omega (arith, l))
  passed _ _ _ (AreHalved.halved {n = m} {number = i} {parts = ps} {tried = t} are few next its) n l =
      by_three n m
      (λ (below : n < m). passed m ps t are n below)
      (λ (same : n ≡ m). subst Passed (sym same) (record { parts = ps; tried = t; number = i; are = are; next = next; few = few }))
      (λ (above : m < n). absurd (omega (arith, l, above)))

  -- halving doesn't go on after the end
  at_most : (b c : BoundsView) (s : AreBoundsOver bits program others r b) (t : AreBoundsOver bits program others r c) → s.halvings < t.halvings → ⊥
  at_most b c s t l =
      let p = passed t.halvings t.parts t.tried t.are_halved s.halvings l in
      let same = halved_once s.halvings s.parts p.parts s.tried p.tried s.are_halved p.are in
      elim s.ended [
        | inl e ↦
            let next : IsNext s.halvings s.parts s.tried (Some p.number) =
            subst (λ (ps : List Part). IsNext s.halvings ps s.tried (Some p.number)) (sym same.0)
            (subst (λ (u : BoundsView). IsNext s.halvings p.parts u (Some p.number)) (sym same.1) p.next) in
            none-some p.number (next_once s.halvings s.parts s.tried None (Some p.number) e next)
        | inr e ↦ omega (arith, e, p.few)
      ]

  -- the bounds over a range are unique
  pub bounds_once : (b c : BoundsView) → AreBoundsOver bits program others r b → AreBoundsOver bits program others r c → b ≡ c
  bounds_once b c s t =
      let count : s.halvings ≡ t.halvings =
      by_three s.halvings t.halvings (λ l. absurd (at_most b c s t l)) (λ e. e) (λ l. absurd (at_most c b t s l)) in
      let same = halved_once t.halvings s.parts t.parts s.tried t.tried (subst (λ n. Are n s.parts s.tried) count s.are_halved) t.are_halved in
      greatest_once t.parts b c (subst (λ (l : List Part). IsGreatest Energy l b) same.0 s.energy)
      (subst (λ (l : List Part). IsGreatest Slope l b) same.0 s.slope) t.energy t.slope
