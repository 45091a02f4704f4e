-- The line that a text starts with.
use Rattle.std.proofs.Common.{◌≡◌, ℕ, ◌-◌, ◌<◌, true, false, eqb, not, List, [], ◌∷◌, ◌++◌, length, get_or, replicate, Some, None, IsTrue, refl, sym, ap, subst, ◌∙◌, append_assoc, arith, ◌⊎◌, inl, inr, lit<, ne_eqb, eq-eqb, length-append}
use Rattle.std.proofs.lemmas.Bool.{and_parts, and_from, not-true, false_from_ne_true}
use Rattle.line_text.specs.Parts.{lacks, is_title, split_once, without_returns}
use Rattle.line_text.proofs.LineLaws.{pair_is, copies_lack, lacks_append, lacks_front, cut_found, cut_none, cut_again, uncut, end_found, end_again, end_dropped}
use Rattle.line_text.proofs.StepLaws.{none_is_no_some}
use Rattle.gro.specs.GroText.{IsLine}
use Rattle.gro.specs.GroFaults.{is_ended}

-- without the returns at its end, a line is a title's
pub returns_bare : (line : List ℕ) → lacks 10 line ≡ true → IsTrue (is_title (without_returns line))
returns_bare line l =
    let u : List ℕ = without_returns line in
    let f = end_found 13 line in
    let front : lacks 10 u ≡ true = lacks_front 10 u (replicate f.0 13) (subst (λ (t : List ℕ). lacks 10 t ≡ true) f.1 l) in
    and_from (lacks 10 u) (not (eqb (get_or u (length u - 1) 0) 13)) front (ap not (ne_eqb (get_or u (length u - 1) 0) 13 (end_dropped 13 line (lit< tt))))

-- a title does not end in a carriage return
pub title_end : (text : List ℕ) → IsTrue (is_title text) → get_or text (length text - 1) 0 ≡ 13 → ⊥
title_end text h e =
    let no : eqb (get_or text (length text - 1) 0) 13 ≡ false = not-true (eqb (get_or text (length text - 1) 0) 13) (and_parts (lacks 10 text) (not (eqb (get_or text (length text - 1) 0) 13)) h).1 in
    let yes : eqb (get_or text (length text - 1) 0) 13 ≡ true = eq-eqb (get_or text (length text - 1) 0) 13 e in
    absurd cc

-- a title has no line feed
pub title_lacks : (text : List ℕ) → IsTrue (is_title text) → lacks 10 text ≡ true
title_lacks text h = (and_parts (lacks 10 text) (not (eqb (get_or text (length text - 1) 0) 13)) h).0

-- the line before the first line feed
pub ended_line : (bytes a b : List ℕ) → split_once 10 bytes ≡ Some (a, b) → IsLine bytes (without_returns a) b
ended_line bytes a b r =
    let f = end_found 13 a in
    let g = cut_found 10 bytes a b r in
    record {
      returns = f.0;
      bare = returns_bare a g.1;
      whole = inl (g.0 ∙ ap (λ (t : List ℕ). t ++ 10 ∷ b) f.1 ∙ append_assoc (without_returns a) (replicate f.0 13) (10 ∷ b));
    }

-- the last line, without its line feed
pub last_line : (bytes : List ℕ) → split_once 10 bytes ≡ None → 0 < length bytes → IsLine bytes (without_returns bytes) []
last_line bytes r some = let f = end_found 13 bytes in record { returns = f.0; bare = returns_bare bytes (cut_none 10 bytes r); whole = inr (f.1, some, refl) }

pub is_ended_line : (bytes a b : List ℕ) → split_once 10 bytes ≡ Some (a, b) → true ≡ is_ended bytes
is_ended_line bytes a b r =
    let found : lacks 10 bytes ≡ false = false_from_ne_true (lacks 10 bytes) (λ none. none_is_no_some (a, b) (sym (uncut 10 bytes none) ∙ r)) in
    ap not (sym found)

pub is_last_line : (bytes : List ℕ) → split_once 10 bytes ≡ None → false ≡ is_ended bytes
is_last_line bytes r = ap not (sym (cut_none 10 bytes r))

-- a line and its returns are cut off at the line feed, or are all there is
abbrev Returned : (bytes text rest : List ℕ) → ℕ → Type 0
Returned bytes text rest returns =
    (split_once 10 bytes ≡ Some (text ++ replicate returns 13, rest)) ⊎ ((split_once 10 bytes ≡ None) × (bytes ≡ text ++ replicate returns 13) × (rest ≡ []))

returned : (bytes text rest : List ℕ) (h : IsLine bytes text rest) → Returned bytes text rest h.returns
returned bytes text rest h =
    let line : List ℕ = text ++ replicate h.returns 13 in
    let lack : lacks 10 line ≡ true = lacks_append 10 text (replicate h.returns 13) (title_lacks text h.bare) (copies_lack 10 13 h.returns (λ e. omega arith)) in
    elim h.whole [
      | inl e ↦ inl (ap (split_once 10) (e ∙ sym (append_assoc text (replicate h.returns 13) (10 ∷ rest))) ∙ cut_again 10 line rest lack)
      | inr e ↦ inr (ap (split_once 10) e.0 ∙ uncut 10 line lack, e.0, e.2)
    ]

same_text : (t u : List ℕ) (j k : ℕ) → IsTrue (is_title t) → IsTrue (is_title u) → t ++ replicate j 13 ≡ u ++ replicate k 13 → t ≡ u
same_text t u j k a b e = sym (end_again 13 j t (title_end t a)) ∙ ap without_returns e ∙ end_again 13 k u (title_end u b)

-- the bytes start with one line
pub line_once : (bytes t u r s : List ℕ) → IsLine bytes t r → IsLine bytes u s → (t ≡ u) × (r ≡ s)
line_once bytes t u r s a b = at (returned bytes t r a) (returned bytes u s b)
  where
    at : Returned bytes t r a.returns → Returned bytes u s b.returns → (t ≡ u) × (r ≡ s)
    at (inl p) (inl q) =
        let same = pair_is (t ++ replicate a.returns 13) (u ++ replicate b.returns 13) r s (sym p ∙ q) in
        (same_text t u a.returns b.returns a.bare b.bare same.0, same.1)
    at (inl p) (inr q) = absurd (none_is_no_some _ (sym q.0 ∙ p))
    at (inr p) (inl q) = absurd (none_is_no_some _ (sym p.0 ∙ q))
    at (inr p) (inr q) = (same_text t u a.returns b.returns a.bare b.bare (sym p.1 ∙ q.1), p.2 ∙ sym q.2)

-- there is no line where no bytes are left
pub no_line_left : (bytes text rest : List ℕ) → bytes ≡ [] → IsLine bytes text rest → ⊥
no_line_left bytes text rest none h =
    elim h.whole [
      | inl e ↦ omega (arith, ap length none, ap length e, length-append text (replicate h.returns 13 ++ 10 ∷ rest), length-append (replicate h.returns 13) (10 ∷ rest))
      | inr e ↦ omega (arith, ap length none, e.1)
    ]
