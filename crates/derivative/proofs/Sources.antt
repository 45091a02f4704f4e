-- Whatever is kept is needed.
use Rattle.std.proofs.Common.{◌≡◌, ℕ, zero, suc, ◌+◌, ◌<◌, ◌≤◌, pos, Bool, true, false, if◌then◌else◌, List, [], ◌∷◌, length, get_or, ◌⊎◌, inl, inr, Some, refl, sym, ap, ◌∙◌, subst, arith, slice_get}
use Rattle.std.specs.Bool.{IsTrue}
use Rattle.std.proofs.lemmas.Bool.{cases_lt}
use Rattle.std.proofs.lemmas.Option.{slice_get-get_or, get_or_from_slice_get, slice_get_within}
use Rattle.fixed.specs.Constants.{exactly}
use Rattle.energy_program.specs.Tree.{Tree, Number, Input, Definition, Negated, Binary, Applied, Power, Select, is_scoped, are_scoped}
use Rattle.energy_program.specs.Uses.{Uses, Needs, directly, through, is_marked, marks_of}
use Rattle.energy_program.proofs.MarkLaws.{marked_needed, needed_marked}
use Rattle.derivative.specs.Used.{AllNeeded, rank, renumbered, kept_from}
use Rattle.derivative.specs.Derive.{pruned}
use Rattle.derivative.proofs.Left.{left_long}
use Rattle.derivative.proofs.Pruned.{rank_next, rank_same}

uses_renumbered : (r : ℕ → ℕ) (e : Tree) (j : ℕ) → Uses e j → Uses (renumbered r e) (r j)
uses_renumbered r (Number c) j u = u
uses_renumbered r (Input i) j u = u
uses_renumbered r (Definition i) j u = ap r u
uses_renumbered r (Negated a) j u = uses_renumbered r a j u
uses_renumbered r (Binary o a b) j (inl u) = inl (uses_renumbered r a j u)
uses_renumbered r (Binary o a b) j (inr u) = inr (uses_renumbered r b j u)
uses_renumbered r (Applied g a) j u = uses_renumbered r a j u
uses_renumbered r (Power a k) j u = uses_renumbered r a j u
uses_renumbered r (Select c a b) j (inl u) = inl (uses_renumbered r c j u)
uses_renumbered r (Select c a b) j (inr (inl u)) = inr (inl (uses_renumbered r a j u))
uses_renumbered r (Select c a b) j (inr (inr u)) = inr (inr (uses_renumbered r b j u))

-- ---- the position of a kept definition

record Kept (t : List Bool) (i : ℕ) (ds : List Tree) (p : ℕ) : Type 0 where
  position : ℕ
  numbered : rank t i + position ≡ rank t (i + p)
  within : position < length (kept_from t i ds)
  is : get_or (kept_from t i ds) position (Number (exactly (pos 0))) ≡ renumbered (rank t) (get_or ds p (Number (exactly (pos 0))))

at_kept : (t : List Bool) (i : ℕ) (ds : List Tree) (p : ℕ) → p < length ds → is_marked t (i + p) ≡ true → Kept t i ds p
at_kept t i [] p h m = absurd (omega arith)
at_kept t i (d ∷ ds) zero h m =
    let z : i + 0 ≡ i = omega arith in
    let v : is_marked t i ≡ true = sym (ap (is_marked t) z) ∙ m in
    record { position = 0; numbered = rw z (omega arith); within = rw v (omega arith); is = rw v refl }
at_kept t i (d ∷ ds) (suc p) h m = by_use (is_marked t i) refl (at_kept t (i + 1) ds p (omega arith) (sym (ap (is_marked t) e) ∙ m))
  where
    e : i + suc p ≡ (i + 1) + p
    e = omega arith

    by_use : (b : Bool) → is_marked t i ≡ b → Kept t (i + 1) ds p → Kept t i (d ∷ ds) (suc p)
    by_use true v rest =
        let up = rank_next t i v in
        let so = rest.numbered in
        let far : rank t (i + suc p) ≡ rank t ((i + 1) + p) = ap (rank t) e in
        let inside = rest.within in
        record { position = suc rest.position; numbered = omega arith; within = rw v (omega arith); is = rw v rest.is }
    by_use false v rest =
        let up = rank_same t i v in
        let so = rest.numbered in
        let far : rank t (i + suc p) ≡ rank t ((i + 1) + p) = ap (rank t) e in
        record { position = rest.position; numbered = omega arith; within = rw v rest.within; is = rw v rest.is }

-- each number has a marked definition
record Ranked (t : List Bool) (n k : ℕ) : Type 0 where
  number : ℕ
  below : number < n
  is_kept : is_marked t number ≡ true
  ranked : rank t number ≡ k

rank_onto : (t : List Bool) (n k : ℕ) → k < rank t n → Ranked t n k
rank_onto t zero k h = absurd (omega arith)
rank_onto t (suc n) k h = by_use (is_marked t n) refl (cases_lt k (rank t n)) (λ w. rank_onto t n k w)
  where
    wider : Ranked t n k → Ranked t (suc n) k
    wider r = let b = r.below in record { number = r.number; below = omega arith; is_kept = r.is_kept; ranked = r.ranked }

    by_use : (b : Bool) → is_marked t n ≡ b → (k < rank t n) ⊎ (rank t n ≤ k) → (k < rank t n → Ranked t n k) → Ranked t (suc n) k
    by_use b v (inl w) rest = wider (rest w)
    by_use true v (inr w) rest =
        let s : rank t (suc n) ≡ rank t n + 1 = ap (λ b. rank t n + (if b then 1 else 0)) v in
        record { number = n; below = omega arith; is_kept = v; ranked = omega (arith, s, h) }
    by_use false v (inr w) rest =
        let s : rank t (suc n) ≡ rank t n + 0 = ap (λ b. rank t n + (if b then 1 else 0)) v in absurd (omega (arith, s, h))

module _ (count : ℕ) (body : Tree) (ds : List Tree) (hb : IsTrue (is_scoped count 0 (length ds) body)) (hd : IsTrue (are_scoped count 0 ds)) where
  abbrev marks : List Bool
  marks = marks_of body ds

  -- a definition that is needed is needed under its new number
  needs_kept : (k : ℕ) → Needs body ds k → Needs (renumbered (rank marks) body) (kept_from marks 0 ds) (rank marks k)
  needs_kept k (directly u) = directly (uses_renumbered (rank marks) body k u)
  needs_kept k (through {i = i} {d = d} n is u) =
      let here : 0 + i ≡ i = omega arith in
      let at : Kept marks 0 ds i = at_kept marks 0 ds i (slice_get_within ds i d is) (ap (is_marked marks) here ∙ needed_marked count body ds hb hd i n) in
      let numbered : rank marks 0 + at.position ≡ rank marks i = at.numbered ∙ ap (rank marks) here in
      let position : at.position ≡ rank marks i = omega (arith, numbered) in
      let got : slice_get (kept_from marks 0 ds) (rank marks i) ≡ Some (renumbered (rank marks) d) =
      subst (λ p. slice_get (kept_from marks 0 ds) p ≡ Some (renumbered (rank marks) d)) position
      (slice_get-get_or (kept_from marks 0 ds) at.position (Number (exactly (pos 0))) at.within ∙ ap Some (at.is ∙ ap (renumbered (rank marks)) (get_or_from_slice_get ds i d (Number (exactly (pos 0))) is))) in
      through (needs_kept i n) got (uses_renumbered (rank marks) d k u)

  -- the body that is left needs each definition that is left
  pub all_needed : AllNeeded (pruned (body, ds)).0 (pruned (body, ds)).1
  all_needed k h =
      let long = left_long count body ds hb hd in
      let found : Ranked marks (length ds) k = rank_onto marks (length ds) k (omega arith) in
      subst (λ j. Needs (renumbered (rank marks) body) (kept_from marks 0 ds) j) found.ranked (needs_kept found.number (marked_needed body ds found.number found.is_kept))
