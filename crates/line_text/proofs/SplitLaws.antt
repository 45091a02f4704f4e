-- A text is split at a byte cut by cut.
use Rattle.std.proofs.Common.{◌≡◌, ℕ, ◌==◌, Bool, true, false, cond, eqb, ltb, not, List, [], ◌∷◌, length, Some, refl, ap, ◌∙◌}
use Rattle.std.specs.List.{slice_split, onto_first, before_first, after_first, position_or_len}
use Rattle.std.proofs.lemmas.Bool.{and_parts, not-true, ltb-true}
use Rattle.std.proofs.lemmas.List.Splits.{slice_split-cons_no, slice_split_first}
use Rattle.line_text.specs.Parts.{lacks, split_once}
use Rattle.line_text.proofs.PartLaws.{some_of}

-- if a text is cut at c, its parts are the piece before the cut and the parts of the piece after it
pub split_cut : (c : ℕ) (text a b : List ℕ) → split_once c text ≡ Some (a, b) → slice_split (λ x. x == c) text ≡ a ∷ slice_split (λ x. x == c) b
unfolding split_once
split_cut c text a b e =
    let s = some_of (ltb (position_or_len (λ x. x == c) text) (length text)) (before_first (λ x. x == c) text, after_first (λ x. x == c) text) (a, b) e in
    slice_split_first (λ x. x == c) text 0 (ltb-true _ _ s.0) ∙ ap (λ (p : List ℕ × List ℕ). p.0 ∷ slice_split (λ x. x == c) p.1) s.1

-- the one part of a text without the byte
pub split_uncut : (c : ℕ) (text : List ℕ) → lacks c text ≡ true → slice_split (λ x. x == c) text ≡ text ∷ []
split_uncut c [] l = refl
split_uncut c (x ∷ xs) l =
    let p = and_parts (not (eqb x c)) (lacks c xs) l in
    slice_split-cons_no (λ b. b == c) x xs (not-true (eqb x c) p.0) ∙ ap (onto_first x) (split_uncut c xs p.1)

-- a list that is split has a part
pub split_some : {X : Type 0} (p : X → Bool) (xs : List X) → (part : List X) × (parts : List (List X)) × (slice_split p xs ≡ part ∷ parts)
split_some p [] = ([], [], refl)
split_some {X = X} p (x ∷ xs) = at (p x) (split_some p xs)
  where
    at : (b : Bool) → (part : List X) × (parts : List (List X)) × (slice_split p xs ≡ part ∷ parts)
        → (part : List X) × (parts : List (List X)) × (cond b ([] ∷ slice_split p xs) (onto_first x (slice_split p xs)) ≡ part ∷ parts)
    at true h = ([], slice_split p xs, refl)
    at false h = (x ∷ h.0, h.1, ap (onto_first x) h.2)
