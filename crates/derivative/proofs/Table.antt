-- The table of the definitions that are free of the distance, made from the last to the first.
use Rattle.std.proofs.Common.{◌≡◌, ℕ, zero, suc, ◌+◌, ◌-◌, ◌<◌, ◌≤◌, nat_le, nat_lt, pos, Bool, true, ◌&&◌, List, [], ◌∷◌, map, length, drop, get_or, slice_set, refl, sym, ap, ◌∙◌, subst, arith, ◌⊎◌, inl, inr}
use Rattle.std.specs.Bool.{IsTrue}
use Rattle.std.proofs.lemmas.Bool.{cases_eq, cases_lt, ltb-true, leb-true}
use Rattle.std.proofs.Math.Seq.{drop-cons}
use Rattle.std.proofs.lemmas.List.{get_or-set_other, get_or-map, length-map}
use Rattle.std.proofs.lemmas.Grind.{get_or-set_at}
use Rattle.fixed.specs.Constants.{exactly}
use Rattle.energy_program.specs.declared.trees.Expr.{Expr}
use Rattle.energy_program.specs.Tree.{Tree, Number, Input, Definition, Negated, Binary, Applied, Power, Select, tree_of, is_exponent, is_scoped, are_scoped, is_free_of_distance, put, meaning}
use Rattle.energy_program.proofs.Scopes.{scoped_below, to_below}
use Rattle.derivative.specs.Written.{is_free_given, free_among, IsFreeTable}
use Rattle.derivative.proofs.Bool.{left_of, right_of}
use Rattle.energy_program.proofs.Meaning.{skip, here, past}
use Rattle.derivative.proofs.Scoped.{scoped_at}

-- a use that passes the test for numbers from first to before n has such a number
pub from_uses : (P : Type 0) (first n j : ℕ) → IsTrue (nat_le first j && nat_lt j n) → (first ≤ j → j < n → P) → P
from_uses P first n j h k = k (leb-true first j (left_of _ _ h)) (ltb-true j n (right_of _ _ h))

-- whether the distance occurs once the uses are put in place
module _ (free : ℕ → Bool) (inputs n first : ℕ) (g : ℕ → Tree) (known : (j : ℕ) → first ≤ j → j < n → free j ≡ is_free_of_distance (g j)) where
  -- The test finds a tree free of the distance exactly if the tree is free once each use is substituted.
  pub free_put : (e : Tree) → IsTrue (is_scoped inputs first n e) → is_free_given free e ≡ is_free_of_distance (put g e)
  free_put (Number c) h = refl
  free_put (Input i) h = refl
  free_put (Definition j) h = from_uses _ first n j h (known j)
  free_put (Negated a) h = free_put a h
  free_put (Binary o a b) h =
      let ha = free_put a (left_of (is_scoped inputs first n a) _ h) in
      let hb = free_put b (right_of (is_scoped inputs first n a) _ h) in
      rw (ha, hb) refl
  free_put (Applied k a) h = free_put a h
  free_put (Power a k) h = free_put a (right_of (is_exponent k) _ h)
  free_put (Select c a b) h =
      let hab = right_of (is_scoped inputs first n c) _ h in
      let hc = free_put c (left_of (is_scoped inputs first n c) _ h) in
      let ha = free_put a (left_of (is_scoped inputs first n a) _ hab) in
      let hb = free_put b (right_of (is_scoped inputs first n a) _ hab) in
      rw (hc, ha, hb) refl

-- The table states which of the definitions from i on are free of the distance.
abbrev pub IsTableFrom : List Bool → ℕ → List Tree → Type 0
IsTableFrom t i ds = (j : ℕ) → i ≤ j → j < length ds → get_or t j true ≡ is_free_of_distance (meaning i (drop i ds) j)

-- one more definition
one_more : (inputs n i : ℕ) (ds : List Tree) (t : List Bool) (b : Bool)
    → length ds ≡ n → length t ≡ n → i < n → IsTrue (scoped_below inputs n 0 ds)
    → IsTableFrom t (i + 1) ds
    → b ≡ is_free_given (λ j. get_or t j true) (get_or ds i (Number (exactly (pos 0))))
    → IsTableFrom (slice_set t i b) i ds
one_more inputs n i ds t b en et h scoped table eb j hj hn = by_case (cases_eq j i)
  where
    d : Tree
    d = get_or ds i (Number (exactly (pos 0)))

    rest : List Tree
    rest = drop (i + 1) ds

    cut : drop i ds ≡ d ∷ rest
    cut =
        let s : suc i ≡ i + 1 = omega arith in
        drop-cons ds i (Number (exactly (pos 0))) (omega arith) ∙ ap (λ k. d ∷ drop k ds) s

    known : IsTrue (is_scoped inputs (i + 1) n d)
    known = scoped_at inputs n i ds (omega arith) h scoped

    free : b ≡ is_free_of_distance (put (meaning (i + 1) rest) d)
    free = eb ∙ free_put (λ k. get_or t k true) inputs n (i + 1) (meaning (i + 1) rest) (λ k p q. table k p (omega arith)) d known

    by_case : (j ≡ i) ⊎ (j ≡ i → ⊥) → get_or (slice_set t i b) j true ≡ is_free_of_distance (meaning i (drop i ds) j)
    by_case (inl same) = get_or-set_at t i j b true same (omega arith) ∙ free ∙ sym (ap is_free_of_distance (ap (λ x. meaning i x j) cut ∙ here i j d rest same))
    by_case (inr other) = get_or-set_other t i j b true other ∙ table j (omega arith) hn ∙ sym (ap is_free_of_distance (ap (λ x. meaning i x j) cut ∙ skip i j d rest (omega arith)))

-- the same in the words of the code
pub table_step : {A : Type 0} (inputs : ℕ) (es : List (Expr A)) (i : ℕ) (t : List Bool) (b : Bool) (e : Expr A)
    → length t ≡ length es → 0 < i → i ≤ length es → IsTrue (are_scoped inputs 0 (map tree_of es))
    → IsTableFrom t i (map tree_of es) → e ≡ get_or es (i - 1) e
    → {t1 : List Bool} → t1 ≡ t → b ≡ is_free_given (λ j. get_or t1 j true) (tree_of e)
    → IsTableFrom (slice_set t (i - 1) b) (i - 1) (map tree_of es)
table_step inputs es i t b e et hi hn scoped table is same eb =
    let s : (i - 1) + 1 ≡ i = omega arith in
    let ln : length (map tree_of es) ≡ length es = simp length-map in
    let at : get_or (map tree_of es) (i - 1) (Number (exactly (pos 0))) ≡ tree_of e =
    get_or-map tree_of es (i - 1) e (Number (exactly (pos 0))) (omega arith) ∙ ap tree_of (sym is) in
    let known : b ≡ is_free_given (λ j. get_or t j true) (get_or (map tree_of es) (i - 1) (Number (exactly (pos 0)))) =
    eb ∙ ap (λ x. is_free_given (λ j. get_or x j true) (tree_of e)) same ∙ ap (is_free_given (λ j. get_or t j true)) (sym at) in
    one_more inputs (length es) (i - 1) (map tree_of es) t b ln et (omega arith) (to_below inputs (length es) 0 (map tree_of es) (omega arith) scoped)
    (subst (λ k. IsTableFrom t k (map tree_of es)) (sym s) table) known

-- the whole table
pub table_all : (t : List Bool) (ds : List Tree) → length t ≡ length ds → IsTableFrom t 0 ds → IsFreeTable t ds
table_all t ds l table j = by_case (cases_lt j (length ds))
  where
    past_end : (xs : List Bool) (k : ℕ) → length xs ≤ k → get_or xs k true ≡ true
    past_end [] k h = refl
    past_end (x ∷ xs) zero h = absurd (omega arith)
    past_end (x ∷ xs) (suc k) h = past_end xs k (omega arith)

    by_case : (j < length ds) ⊎ (length ds ≤ j) → get_or t j true ≡ free_among ds j
    by_case (inl h) = table j (omega arith) h
    by_case (inr h) = past_end t j (omega arith) ∙ ap is_free_of_distance (sym (past 0 ds j (omega arith)))
