-- Names: the conditions that is_name implies, and that a name in a column is read back.
use Rattle.std.proofs.Common.{◌≡◌, ℕ, ◌-◌, ◌<◌, ◌≤◌, Bool, true, false, ◌&&◌, eqb, leb, not, List, [], ◌∷◌, length, get_or, Some, IsTrue, refl, ap, subst, ◌∙◌, arith, inl, inr}
use Rattle.std.proofs.lemmas.Bool.{and_parts, or_cases, eqb-true, leb-true, ne_eqb, eq-eqb, not-true}
use Rattle.std.proofs.lemmas.List.{nil_from_length}
use Rattle.std.specs.Str.{IsAscii}
use Rattle.std.proofs.lemmas.Str.Ascii.{IsAscii-nil, IsAscii-cons}
use Rattle.line_text.specs.Parts.{lacks, is_name, name_of, has_clean_ends, is_printable, without_spaces, without_end_spaces, right_in, left_in}
use Rattle.line_text.proofs.PartLaws.{some_of}
use Rattle.line_text.proofs.LineLaws.{right_again, left_again}

-- a name that is read from a text is the text, and it is a name
pub name_found : (text name : List ℕ) → name_of text ≡ Some name → (text ≡ name) × IsTrue (is_name name)
unfolding name_of
name_found text name e = let s = some_of (is_name text) text name e in (s.1, subst (λ (u : List ℕ). is_name u ≡ true) s.1 s.0)

-- a name is read as itself
pub name_again : (name : List ℕ) → IsTrue (is_name name) → name_of name ≡ Some name
unfolding name_of
name_again name h = rw h refl

-- at most five bytes, and no space at either end
pub record IsClean (t : List ℕ) : Type 0 where
  pub short : length t ≤ 5
  pub front : get_or t 0 0 ≡ 32 → ⊥
  pub back : get_or t (length t - 1) 0 ≡ 32 → ⊥

abbrev clean : List ℕ → Bool
clean t = not (eqb (get_or t 0 0) 32) && not (eqb (get_or t (length t - 1) 0) 32)

differs : (x : ℕ) → not (eqb x 32) ≡ true → x ≡ 32 → ⊥
differs x h e = absurd (let t : eqb x 32 ≡ true = eq-eqb x 32 e in let f : eqb x 32 ≡ false = not-true (eqb x 32) h in cc)

-- a name has at most five bytes and no space at either end
pub is_clean : (t : List ℕ) → IsTrue (is_name t) → IsClean t
is_clean t h =
    let p = and_parts (leb (length t) 5 && is_printable t) (has_clean_ends t) h in
    let q = and_parts (leb (length t) 5) (is_printable t) p.0 in
    elim (or_cases (eqb (length t) 0) (clean t) p.1) [
      | inl e ↦ let empty : t ≡ [] = nil_from_length t (eqb-true (length t) 0 e) in record { short = leb-true _ _ q.0; front = rw empty (λ d. omega arith); back = rw empty (λ d. omega arith) }
      | inr c ↦ let r = and_parts (not (eqb (get_or t 0 0) 32)) (not (eqb (get_or t (length t - 1) 0) 32)) c in
          record { short = leb-true _ _ q.0; front = differs (get_or t 0 0) r.0; back = differs (get_or t (length t - 1) 0) r.1 }
    ]

-- bytes of 32 to 126 have none below 32
pub printable_lacks : (c : ℕ) (t : List ℕ) → c < 32 → is_printable t ≡ true → lacks c t ≡ true
printable_lacks c [] low h = refl
printable_lacks c (x ∷ t) low h =
    let p = and_parts (leb 32 x && leb x 126) (is_printable t) h in
    let q = and_parts (leb 32 x) (leb x 126) p.0 in
    let least : 32 ≤ x = leb-true 32 x q.0 in
    rw (ne_eqb x c (λ e. omega arith), printable_lacks c t low p.1) refl

-- a name has no byte below the space
pub name_lacks : (c : ℕ) (t : List ℕ) → c < 32 → IsTrue (is_name t) → lacks c t ≡ true
name_lacks c t low h =
    let p = and_parts (leb (length t) 5 && is_printable t) (has_clean_ends t) h in
    printable_lacks c t low (and_parts (leb (length t) 5) (is_printable t) p.0).1

-- bytes of 32 to 126 are ASCII, so a name is text
printable_ascii : (t : List ℕ) → is_printable t ≡ true → IsAscii t
printable_ascii [] h = IsAscii-nil
printable_ascii (x ∷ t) h =
    let p = and_parts (leb 32 x && leb x 126) (is_printable t) h in
    let q = and_parts (leb 32 x) (leb x 126) p.0 in
    let most : x ≤ 126 = leb-true x 126 q.1 in
    IsAscii-cons x t (omega arith) (printable_ascii t p.1)

-- a name is ASCII
pub name_ascii : (t : List ℕ) → IsTrue (is_name t) → IsAscii t
name_ascii t h =
    let p = and_parts (leb (length t) 5 && is_printable t) (has_clean_ends t) h in
    printable_ascii t (and_parts (leb (length t) 5) (is_printable t) p.0).1

-- ---- a name in a column

-- a name is read back from a column in which it is right-aligned
pub right_name_again : (width : ℕ) (name : List ℕ) → IsTrue (is_name name) → name_of (without_spaces (right_in width name)) ≡ Some name
right_name_again width name h = ap name_of (right_again width name (is_clean name h).front) ∙ name_again name h

-- a name is read back from a column in which it is left-aligned
pub left_name_again : (width : ℕ) (name : List ℕ) → IsTrue (is_name name) → name_of (without_end_spaces (left_in width name)) ≡ Some name
left_name_again width name h = ap name_of (left_again width name (is_clean name h).back) ∙ name_again name h
