-- Lists in which each pair that counts occurs equally often have equal totals, with any zero and any addition.
use Rattle.std.proofs.Common.{◌≡◌, ℕ, ◌+◌, ◌<◌, Bool, true, false, cond, ◌&&◌, eqb, List, [], ◌∷◌, length, sum_by, refl, sym, ap, ap₂, subst, ◌∙◌, arith, true≢false, All, flat_map}
use Rattle.std.proofs.lemmas.Bool.{and_parts, eqb-true, eq-eqb}
use Rattle.std.proofs.lemmas.List.Sums.{sum_by-cons}
use Rattle.ring_box.specs.Places.{ArePlaces}
use Rattle.ring_box.specs.declared.vectors.CellBits.{CellBits}
use Rattle.ring_box.specs.declared.vectors.Place3.{Place3}
use Rattle.cell_tiles.specs.Cells.{IsGrid}
use Rattle.cell_tiles.specs.Tiles.{tile_pairs}
use Rattle.cell_tiles.specs.Cover.{SumsAsAll, are_close, is_pair, is_same, times}
use Rattle.cell_tiles.proofs.CountLemmas.{sum_flat_map}
use Rattle.cell_tiles.proofs.PairLemmas.{same_pair}
use Rattle.cell_tiles.proofs.CoverLemmas.{covers}

-- an addition whose sums don't depend on the order, and its zero
pub record IsAddition {S : Type 0} (zero : S) (plus : S → S → S) : Type 0 where
  pub joins : (a b c : S) → plus a (plus b c) ≡ plus (plus a b) c
  pub commutes : (a b : S) → plus a b ≡ plus b a
  pub from_zero : (a : S) → plus zero a ≡ a

-- numbers have a zero and an addition
pub numbers : IsAddition 0 (λ a b. a + b)
numbers = record { joins = λ a b c. omega arith; commutes = λ a b. omega arith; from_zero = λ a. omega arith }

-- ---- one pair

pair_from_parts : (a b c d : ℕ) → a ≡ c → b ≡ d → ◌≡◌ {A = ℕ × ℕ} (a, b) (c, d)
pair_from_parts a b c d e f = rw (e, f) refl

one_pair : (p q : ℕ × ℕ) → is_same p q ≡ true → p ≡ q
one_pair p q e =
    let b = and_parts (eqb p.0 q.0) (eqb p.1 q.1) e in
    pair_from_parts p.0 p.1 q.0 q.1 (eqb-true p.0 q.0 b.0) (eqb-true p.1 q.1 b.1)

same_itself : (p : ℕ × ℕ) → same_pair p p ≡ 1
same_itself p =
    let a = eq-eqb p.0 p.0 refl in
    let b = eq-eqb p.1 p.1 refl in
    rw (a, b) refl

-- a pair that counts isn't one that doesn't
pub not_same : (acts : ℕ × ℕ → Bool) (p q : ℕ × ℕ) → acts p ≡ true → acts q ≡ false → same_pair p q ≡ 0
not_same acts p q does idle = by_test (is_same p q) refl
  where
    by_test : (same : Bool) → is_same p q ≡ same → same_pair p q ≡ 0
    by_test true e = absurd (true≢false (sym does ∙ (ap acts (one_pair p q e) ∙ idle)))
    by_test false e = ap (λ b. cond b 1 0) e

-- ---- a total of values, which are zero for the pairs that don't count

module _ {S : Type 0} (zero : S) (plus : S → S → S) (laws : IsAddition zero plus) (acts : ℕ × ℕ → Bool) (value : ℕ × ℕ → S) (idle : (p : ℕ × ℕ) → acts p ≡ false → value p ≡ zero)
    (total : List (ℕ × ℕ) → S) (none : total [] ≡ zero) (more : (q : ℕ × ℕ) (qs : List (ℕ × ℕ)) → total (q ∷ qs) ≡ plus (value q) (total qs)) where
  exchanged : (a b c : S) → plus a (plus b c) ≡ plus b (plus a c)
  exchanged a b c = laws.joins a b c ∙ (ap (λ s. plus s c) (laws.commutes a b) ∙ sym (laws.joins b a c))

  -- a list without a pair in it: its counts and its total are those of the list without those of the pair
  record IsTaken (p : ℕ × ℕ) (qs : List (ℕ × ℕ)) : Type 0 where
    rest : List (ℕ × ℕ)
    counts : (r : ℕ × ℕ) → times r qs ≡ same_pair r p + times r rest
    totals : total qs ≡ plus (value p) (total rest)

  taken_at : (p q : ℕ × ℕ) (qs : List (ℕ × ℕ)) (same : Bool) → is_same p q ≡ same → 0 < times p (q ∷ qs) → (0 < times p qs → IsTaken p qs) → IsTaken p (q ∷ qs)
  taken_at p q qs true e h later =
      subst (λ r. IsTaken r (q ∷ qs)) (sym (one_pair p q e)) (record { rest = qs; counts = λ r. sum_by-cons (same_pair r) q qs; totals = more q qs })
  taken_at p q qs false e h later =
      let apart : same_pair p q ≡ 0 = ap (λ b. cond b 1 0) e in
      let t = later (omega (arith, apart, sum_by-cons (same_pair p) q qs, h)) in
      record {
        rest = q ∷ t.rest;
        counts = λ r. omega (arith, sum_by-cons (same_pair r) q qs, t.counts r, sum_by-cons (same_pair r) q t.rest);
        totals = more q qs ∙ (ap (plus (value q)) t.totals ∙ (exchanged (value q) (value p) (total t.rest) ∙ ap (plus (value p)) (sym (more q t.rest))));
      }

  taken : (p : ℕ × ℕ) (qs : List (ℕ × ℕ)) → 0 < times p qs → IsTaken p qs
  taken p [] h = absurd (omega arith)
  taken p (q ∷ qs) h = taken_at p q qs (is_same p q) refl h (taken p qs)

  -- each pair that counts occurs equally often in both lists
  abbrev AreAlike : List (ℕ × ℕ) → List (ℕ × ℕ) → Type 0
  AreAlike ps qs = (p : ℕ × ℕ) → acts p ≡ true → times p ps ≡ times p qs

  idle_head : (q : ℕ × ℕ) (qs : List (ℕ × ℕ)) → AreAlike [] (q ∷ qs) → (does : Bool) → acts q ≡ does → value q ≡ zero
  idle_head q qs alike true e = absurd (omega (arith, alike q e, sum_by-cons (same_pair q) q qs, same_itself q))
  idle_head q qs alike false e = idle q e

  idle_total : (qs : List (ℕ × ℕ)) → AreAlike [] qs → total qs ≡ zero
  idle_total [] alike = none
  idle_total (q ∷ qs) alike =
      let rest = idle_total qs (λ p does. omega (arith, alike p does, sum_by-cons (same_pair p) q qs)) in
      more q qs ∙ (ap₂ plus (idle_head q qs alike (acts q) refl) rest ∙ laws.from_zero zero)

  total_at : (p : ℕ × ℕ) (ps qs : List (ℕ × ℕ)) (does : Bool) → acts p ≡ does → AreAlike (p ∷ ps) qs → ((rs : List (ℕ × ℕ)) → AreAlike ps rs → total ps ≡ total rs) → total (p ∷ ps) ≡ total qs
  total_at p ps qs true e alike rest =
      let t = taken p qs (omega (arith, alike p e, sum_by-cons (same_pair p) p ps, same_itself p)) in
      more p ps ∙ (ap (plus (value p)) (rest t.rest (λ r does. omega (arith, alike r does, sum_by-cons (same_pair r) p ps, t.counts r))) ∙ sym t.totals)
  total_at p ps qs false e alike rest =
      more p ps ∙ (ap₂ plus (idle p e) (rest qs (λ r does. omega (arith, alike r does, sum_by-cons (same_pair r) p ps, not_same acts r p does e))) ∙ laws.from_zero (total qs))

  -- if each pair that counts occurs equally often in two lists, their totals are equal
  pub same_totals : (ps qs : List (ℕ × ℕ)) → AreAlike ps qs → total ps ≡ total qs
  same_totals [] qs alike = none ∙ sym (idle_total qs alike)
  same_totals (p ∷ ps) qs alike = total_at p ps qs (acts p) refl alike (same_totals ps)

-- if a function is 0 for atoms that are not close, its sum over the tiles equals its sum over all pairs
pub sums_as_all : (bits : CellBits) (frame : List Place3) → IsGrid bits → All ArePlaces frame → SumsAsAll bits frame
sums_as_all bits frame g places f pairs are far =
    sym (sum_flat_map f (λ t. t) (tile_pairs bits frame))
    ∙ same_totals 0 (λ a b. a + b) numbers (are_close bits frame) f far (sum_by f) refl (sum_by-cons f) (flat_map (λ t. t) (tile_pairs bits frame)) pairs times_are
  where
    only_close : (a b : Bool) → b ≡ true → ◌≡◌ {A = ℕ} (cond (a && b) 1 0) (cond a 1 0)
    only_close a b e = grind arith

    times_are : (p : ℕ × ℕ) → are_close bits frame p ≡ true → times p (flat_map (λ t. t) (tile_pairs bits frame)) ≡ times p pairs
    times_are p close =
        sum_flat_map (same_pair p) (λ t. t) (tile_pairs bits frame)
        ∙ (covers bits frame g places p ∙ (only_close (is_pair (length frame) p) (are_close bits frame p) close ∙ sym (are p)))
