-- The marked definitions are those that are needed.
use Rattle.std.proofs.Common.{IsTrue, ◌≡◌, ◌≢◌, ℕ, zero, suc, ◌+◌, ◌<◌, ◌≤◌, List, [], ◌∷◌, ◌++◌, length, replicate, Some, refl, sym, ap, ◌∙◌, subst, ⊎_elim, inl, inr, ◌⊎◌, arith, append_assoc, length-append, take, Bool, true, false, get_or-set_other, get_or-set_same}
use Rattle.std.specs.Prelude.{slice_get, slice_set, slice_index_or}
use Rattle.std.proofs.lemmas.List.{length-set, length-replicate, take_at, get_or_past}
use Rattle.std.proofs.lemmas.Bool.{cases_eq, cases_lt}
use Rattle.std.proofs.Math.Seq.{get_or-append_seam}
use Rattle.std.proofs.lemmas.Option.{slice_get-get_or}
use Rattle.energy_program.specs.Tree.{Tree, is_scoped, are_scoped}
use Rattle.energy_program.specs.Tree as t
use Rattle.energy_program.specs.Uses.{Uses, Needs, directly, through, mark, mark_if, mark_from, marks_of}
use Rattle.energy_program.proofs.Scopes.{IsValid, AreValid, valid_of, are_valid}

-- a mark is within
pub marked_within : (m : List Bool) (k : ℕ) → slice_index_or m k false ≡ true → k < length m
marked_within m k e = ⊎_elim (λ (lt : k < length m). lt) (λ (le : length m ≤ k). absurd (let p = get_or_past m k false le in cc)) (cases_lt k (length m))

-- marking the definitions that a tree uses keeps the number of marks
pub length-mark : (m : List Bool) (e : Tree) → length (mark m e) ≡ length m
length-mark m (t.Number c) = refl
length-mark m (t.Input k) = refl
length-mark m (t.Definition k) = length-set m k true
length-mark m (t.Binary o a b) = length-mark (mark m b) a ∙ length-mark m b
length-mark m (t.Negated a) = length-mark m a
length-mark m (t.Applied g a) = length-mark m a
length-mark m (t.Power a n) = length-mark m a
length-mark m (t.Select c a b) = length-mark (mark (mark m b) a) c ∙ length-mark (mark m b) a ∙ length-mark m b

-- a mark at i, seen at k
set_keeps : (m : List Bool) (i k : ℕ) → slice_index_or m k false ≡ true → slice_index_or (slice_set m i true) k false ≡ true
set_keeps m i k h =
    ⊎_elim
    (λ (e : k ≡ i). subst (λ q. slice_index_or (slice_set m q true) k false ≡ true) e (get_or-set_same m k true false (marked_within m k h)))
    (λ (ne : k ≢ i). get_or-set_other m i k true false ne ∙ h)
    (cases_eq k i)

set_only : (m : List Bool) (i k : ℕ) → slice_index_or (slice_set m i true) k false ≡ true → (slice_index_or m k false ≡ true) ⊎ (i ≡ k)
set_only m i k h =
    ⊎_elim
    (λ (e : k ≡ i). inr (sym e))
    (λ (ne : k ≢ i). inl (sym (get_or-set_other m i k true false ne) ∙ h))
    (cases_eq k i)

mark_keeps : (m : List Bool) (e : Tree) (k : ℕ) → slice_index_or m k false ≡ true → slice_index_or (mark m e) k false ≡ true
mark_keeps m (t.Number c) k h = h
mark_keeps m (t.Input i) k h = h
mark_keeps m (t.Definition i) k h = set_keeps m i k h
mark_keeps m (t.Binary o a b) k h = mark_keeps (mark m b) a k (mark_keeps m b k h)
mark_keeps m (t.Negated a) k h = mark_keeps m a k h
mark_keeps m (t.Applied g a) k h = mark_keeps m a k h
mark_keeps m (t.Power a n) k h = mark_keeps m a k h
mark_keeps m (t.Select c a b) k h = mark_keeps (mark (mark m b) a) c k (mark_keeps (mark m b) a k (mark_keeps m b k h))

mark_uses : (inputs j : ℕ) (m : List Bool) (e : Tree) → IsValid inputs j (length m) e → (k : ℕ) → Uses e k → slice_index_or (mark m e) k false ≡ true
mark_uses inputs j m (t.Number c) valid k u = absurd u
mark_uses inputs j m (t.Input i) valid k u = absurd u
mark_uses inputs j m (t.Definition i) valid k u = subst (λ q. slice_index_or (slice_set m i true) q false ≡ true) u (get_or-set_same m i true false valid.1)
mark_uses inputs j m (t.Binary o a b) valid k u =
    ⊎_elim
    (λ ua. mark_uses inputs j (mark m b) a (subst (λ n. IsValid inputs j n a) (sym (length-mark m b)) valid.0) k ua)
    (λ ub. mark_keeps (mark m b) a k (mark_uses inputs j m b valid.1 k ub))
    u
mark_uses inputs j m (t.Negated a) valid k u = mark_uses inputs j m a valid k u
mark_uses inputs j m (t.Applied g a) valid k u = mark_uses inputs j m a valid k u
mark_uses inputs j m (t.Power a n) valid k u = mark_uses inputs j m a valid.1 k u
mark_uses inputs j m (t.Select c a b) valid k u =
    let lb = sym (length-mark m b) in
    let la = sym (length-mark (mark m b) a) in
    ⊎_elim
    (λ uc. mark_uses inputs j (mark (mark m b) a) c (subst (λ n. IsValid inputs j n c) (lb ∙ la) valid.0) k uc)
    (λ r. mark_keeps (mark (mark m b) a) c k (⊎_elim
    (λ ua. mark_uses inputs j (mark m b) a (subst (λ n. IsValid inputs j n a) lb valid.1) k ua)
    (λ ub. mark_keeps (mark m b) a k (mark_uses inputs j m b valid.2 k ub))
    r))
    u

-- marking the definitions that a valid tree uses changes no mark below j
mark_below : (inputs j count : ℕ) (m : List Bool) (e : Tree) → IsValid inputs j count e → (k : ℕ) → k < j → slice_index_or (mark m e) k false ≡ slice_index_or m k false
mark_below inputs j count m (t.Number c) valid k lt = refl
mark_below inputs j count m (t.Input i) valid k lt = refl
mark_below inputs j count m (t.Definition i) valid k lt = let le = valid.0 in let ne : k ≢ i = omega arith in get_or-set_other m i k true false ne
mark_below inputs j count m (t.Binary o a b) valid k lt = mark_below inputs j count (mark m b) a valid.0 k lt ∙ mark_below inputs j count m b valid.1 k lt
mark_below inputs j count m (t.Negated a) valid k lt = mark_below inputs j count m a valid k lt
mark_below inputs j count m (t.Applied g a) valid k lt = mark_below inputs j count m a valid k lt
mark_below inputs j count m (t.Power a n) valid k lt = mark_below inputs j count m a valid.1 k lt
mark_below inputs j count m (t.Select c a b) valid k lt = mark_below inputs j count (mark (mark m b) a) c valid.0 k lt ∙ mark_below inputs j count (mark m b) a valid.1 k lt ∙ mark_below inputs j count m b valid.2 k lt

mark_only : (m : List Bool) (e : Tree) (k : ℕ) → slice_index_or (mark m e) k false ≡ true → (slice_index_or m k false ≡ true) ⊎ Uses e k
mark_only m (t.Number c) k h = inl h
mark_only m (t.Input i) k h = inl h
mark_only m (t.Definition i) k h = set_only m i k h
mark_only m (t.Binary o a b) k h = ⊎_elim (λ r. ⊎_elim (λ q. inl q) (λ u. inr (inr u)) (mark_only m b k r)) (λ u. inr (inl u)) (mark_only (mark m b) a k h)
mark_only m (t.Negated a) k h = mark_only m a k h
mark_only m (t.Applied g a) k h = mark_only m a k h
mark_only m (t.Power a n) k h = mark_only m a k h
mark_only m (t.Select c a b) k h =
    ⊎_elim
    (λ r. ⊎_elim (λ q. ⊎_elim (λ p. inl p) (λ u. inr (inr (inr u))) (mark_only m b k q)) (λ u. inr (inr (inl u))) (mark_only (mark m b) a k r))
    (λ u. inr (inl u))
    (mark_only (mark (mark m b) a) c k h)

if_keeps : (b : Bool) (m : List Bool) (d : Tree) (k : ℕ) → slice_index_or m k false ≡ true → slice_index_or (mark_if b m d) k false ≡ true
if_keeps true m d k h = mark_keeps m d k h
if_keeps false m d k h = h

if_below : (b : Bool) (inputs j count : ℕ) (m : List Bool) (d : Tree) → IsValid inputs j count d → (k : ℕ) → k < j → slice_index_or (mark_if b m d) k false ≡ slice_index_or m k false
if_below true inputs j count m d valid k lt = mark_below inputs j count m d valid k lt
if_below false inputs j count m d valid k lt = refl

length-if : (b : Bool) (m : List Bool) (d : Tree) → length (mark_if b m d) ≡ length m
length-if true m d = length-mark m d
length-if false m d = refl

-- marking the definitions that definitions use keeps the number of marks
pub length-mark_from : (j : ℕ) (m : List Bool) (ds : List Tree) → length (mark_from j m ds) ≡ length m
length-mark_from j m [] = refl
length-mark_from j m (d ∷ ds) = length-mark_from (j + 1) _ ds ∙ length-if (slice_index_or m j false) m d

all_keeps : (j : ℕ) (m : List Bool) (ds : List Tree) (k : ℕ) → slice_index_or m k false ≡ true → slice_index_or (mark_from j m ds) k false ≡ true
all_keeps j m [] k h = h
all_keeps j m (d ∷ ds) k h = all_keeps (j + 1) _ ds k (if_keeps (slice_index_or m j false) m d k h)

all_below : (inputs j count : ℕ) (m : List Bool) (ds : List Tree) → AreValid inputs j count ds → (k : ℕ) → k ≤ j → slice_index_or (mark_from j m ds) k false ≡ slice_index_or m k false
all_below inputs j count m [] valid k le = refl
all_below inputs j count m (d ∷ ds) valid k le =
    all_below inputs (j + 1) count _ ds valid.1 k (omega arith) ∙ if_below (slice_index_or m j false) inputs (j + 1) count m d valid.0 k (omega arith)

-- the definitions that each marked definition uses are marked
abbrev pub AreMarked : List Bool → ℕ → List Tree → Type 0
AreMarked m j [] = Unit {0}
AreMarked m j (d ∷ ds) = (slice_index_or m j false ≡ true → (k : ℕ) → Uses d k → slice_index_or m k false ≡ true) × AreMarked m (j + 1) ds

all_marked : (inputs j : ℕ) (m : List Bool) (ds : List Tree) → AreValid inputs j (length m) ds → AreMarked (mark_from j m ds) j ds
all_marked inputs j m [] valid = tt
all_marked inputs j m (d ∷ ds) valid =
    let b = slice_index_or m j false in
    let m' = mark_if b m d in
    let same : slice_index_or (mark_from (j + 1) m' ds) j false ≡ slice_index_or m j false =
    all_below inputs (j + 1) (length m) m' ds valid.1 j (omega arith) ∙ if_below b inputs (j + 1) (length m) m d valid.0 j (omega arith) in (
      λ h k u. all_keeps (j + 1) m' ds k (subst (λ c. slice_index_or (mark_if c m d) k false ≡ true) (sym (sym same ∙ h)) (mark_uses inputs (j + 1) m d valid.0 k u)),
      all_marked inputs (j + 1) m' ds (subst (λ n. AreValid inputs (j + 1) n ds) (sym (length-if b m d)) valid.1),
    )

none_marked : (n k : ℕ) → slice_index_or (replicate n false) k false ≡ true → ⊥
none_marked zero k h = cc
none_marked (suc n) zero h = cc
none_marked (suc n) (suc k) h = none_marked n k h

-- a mark after `mark_if` was set before, or the condition holds and the tree uses the marked definition
if_only : (b : Bool) (m : List Bool) (d : Tree) (k : ℕ) → slice_index_or (mark_if b m d) k false ≡ true → (slice_index_or m k false ≡ true) ⊎ ((b ≡ true) × Uses d k)
if_only true m d k h = ⊎_elim (λ a. inl a) (λ u. inr (refl, u)) (mark_only m d k h)
if_only false m d k h = inl h

all_needed : (body : Tree) (all : List Tree) (j : ℕ) (m : List Bool) (ds pre : List Tree) → all ≡ pre ++ ds → length pre ≡ j → ((k : ℕ) → slice_index_or m k false ≡ true → Needs body all k) → (k : ℕ) → slice_index_or (mark_from j m ds) k false ≡ true → Needs body all k
all_needed body all j m [] pre e at h k marked = h k marked
all_needed body all j m (d ∷ ds) pre e at h k marked =
    let within : length pre < length (pre ++ d ∷ ds) = omega (arith, length-append pre (d ∷ ds)) in
    let here : slice_get (pre ++ d ∷ ds) (length pre) ≡ Some d = slice_get-get_or (pre ++ d ∷ ds) (length pre) d within ∙ ap Some (get_or-append_seam pre d ds d) in
    let here' : slice_get all j ≡ Some d = subst (λ n. slice_get all n ≡ Some d) at (subst (λ l. slice_get l (length pre) ≡ Some d) (sym e) here) in
    let next : length (pre ++ d ∷ []) ≡ j + 1 = omega (arith, length-append pre (d ∷ [])) in
    all_needed body all (j + 1) _ ds (pre ++ d ∷ []) (e ∙ sym (append_assoc pre (d ∷ []) ds)) next
    (λ i marked'. ⊎_elim (λ a. h i a) (λ (p : (slice_index_or m j false ≡ true) × Uses d i). through (h j p.0) here' p.1) (if_only (slice_index_or m j false) m d i marked'))
    k marked

-- there is one mark for each definition
pub length-marks : (body : Tree) (ds : List Tree) → length (marks_of body ds) ≡ length ds
unfolding marks_of
length-marks body ds = length-mark_from 0 _ ds ∙ length-mark (replicate (length ds) false) body ∙ length-replicate (length ds) false

-- each marked definition is needed by the body
pub marked_needed : (body : Tree) (ds : List Tree) (k : ℕ) → slice_index_or (marks_of body ds) k false ≡ true → Needs body ds k
unfolding marks_of
marked_needed body ds k h =
    all_needed body ds 0 _ ds [] refl refl (λ i marked. ⊎_elim (λ a. absurd (none_marked (length ds) i a)) (λ u. directly u) (mark_only (replicate (length ds) false) body i marked)) k h

-- The definitions that the body uses are marked, and those that each marked definition uses.
module _ (inputs : ℕ) (body : Tree) (ds : List Tree) (whole : IsTrue (is_scoped inputs 0 (length ds) body)) (each : IsTrue (are_scoped inputs 0 ds)) where
  -- each definition that the body uses is marked
  pub body_marked : (k : ℕ) → Uses body k → slice_index_or (marks_of body ds) k false ≡ true
  unfolding marks_of
  body_marked k u =
      let none = replicate (length ds) false in
      let long : length ds ≡ length none = sym (length-replicate (length ds) false) in
      all_keeps 0 (mark none body) ds k (mark_uses inputs 0 none body (subst (λ n. IsValid inputs 0 n body) long (valid_of inputs 0 (length ds) body whole)) k u)

  -- each definition that a marked one uses is marked
  pub definitions_marked : AreMarked (marks_of body ds) 0 ds
  unfolding marks_of
  definitions_marked =
      let none = replicate (length ds) false in
      let long : length ds ≡ length (mark none body) = sym (length-mark none body ∙ length-replicate (length ds) false) in
      all_marked inputs 0 (mark none body) ds (subst (λ n. AreValid inputs 0 n ds) long (are_valid inputs 0 (length ds) ds (omega arith) each))

  one_marked : (m : List Bool) (j i : ℕ) (es : List Tree) (d : Tree) (k : ℕ) → AreMarked m j es → slice_get es i ≡ Some d → slice_index_or m (j + i) false ≡ true → Uses d k
      → slice_index_or m k false ≡ true
  one_marked m j i [] d k known is marked u = absurd cc
  one_marked m j zero (e ∷ es) d k known is marked u =
      let here : j + 0 ≡ j = omega arith in
      let same : e ≡ d = cc in
      known.0 (sym (ap (λ n. slice_index_or m n false) here) ∙ marked) k (subst (λ t. Uses t k) (sym same) u)
  one_marked m j (suc i) (e ∷ es) d k known is marked u =
      let on : j + suc i ≡ (j + 1) + i = omega arith in
      one_marked m (j + 1) i es d k known.1 is (sym (ap (λ n. slice_index_or m n false) on) ∙ marked) u

  -- each definition that the body needs is marked
  pub needed_marked : (k : ℕ) → Needs body ds k → slice_index_or (marks_of body ds) k false ≡ true
  needed_marked k (directly u) = body_marked k u
  needed_marked k (through {i = i} {d = d} n is u) =
      let here : 0 + i ≡ i = omega arith in
      one_marked (marks_of body ds) 0 i ds d k definitions_marked is (ap (λ n. slice_index_or (marks_of body ds) n false) here ∙ needed_marked i n) u

-- the marks that were set, at the front of those that there is room for, are the program's
pub marks_are : (body : Tree) (ds : List Tree) (n len : ℕ) (before after rest : List Bool) → before ≡ replicate n false → n ≡ length ds → len ≡ n → after ≡ mark_from 0 (mark before body) ds → take len (after ++ rest) ≡ marks_of body ds
unfolding marks_of
marks_are body ds n len before after rest e0 e1 e2 e3 =
    let e4 : before ≡ replicate (length ds) false = e0 ∙ ap (λ k. replicate k false) e1 in
    let e5 : after ≡ mark_from 0 (mark (replicate (length ds) false) body) ds = e3 ∙ ap (λ b. mark_from 0 (mark b body) ds) e4 in
    let l1 = ap length e3 ∙ length-mark_from 0 (mark before body) ds ∙ length-mark before body in
    let l2 : length before ≡ n = ap length e0 ∙ length-replicate n false in
    let l3 : length after ≡ len = omega arith in
    take_at after rest len l3 ∙ e5
