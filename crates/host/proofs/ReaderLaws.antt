-- Lines of a reader whose bytes are unknown.
use Rattle.std.proofs.Common.{◌≡◌, ◌≢◌, ◌∙◌, ◌-◌, ℕ, zero, suc, List, [], ◌∷◌, ◌++◌, None, ap, arith, drop, eqb, inl, inr, length, refl, sym, take, eqb-true, ne_eqb, take-append-drop, All}
use Rattle.std.proofs.lemmas.Bool.{cases_Bool}
use Rattle.std.proofs.lemmas.List.Elements.{All-head, All-tail}
use Rattle.std.specs.Io.{StopsAt, appended_bytes}
use Rattle.state.specs.Sources.{IsLine, TakesLine}

-- one byte
one_byte : (x : ℕ) → IsLine (x ∷ []) None
one_byte x = elim (cases_Bool (eqb x 10)) [
  | inl e ↦ inl ([], refl, ap (λ (y : ℕ). y ∷ []) (eqb-true x 10 e))
  | inr e ↦ inr (rw e refl, tt)
]

-- a line that another byte precedes
longer : (x : ℕ) (xs : List ℕ) → x ≢ 10 → IsLine xs None → IsLine (x ∷ xs) None
longer x xs other (inl (bare, whole, is)) = inl (x ∷ bare, rw (ne_eqb x 10 other, whole) refl, ap (λ ys. x ∷ ys) is)
longer x xs other (inr (part, end)) = inr (rw (ne_eqb x 10 other, part) refl, end)

-- bytes of which only the last may be an LF
line_by : (n : ℕ) (xs : List ℕ) → length xs ≡ suc n → All (λ x. x ≢ 10) (take n xs) → IsLine xs None
line_by n [] count apart = absurd (omega (arith, count))
line_by zero (x ∷ []) count apart = one_byte x
line_by zero (x ∷ y ∷ xs) count apart = absurd (omega (arith, count))
line_by (suc n) (x ∷ xs) count apart =
    longer x xs (All-head (λ y. y ≢ 10) x (take n xs) apart) (line_by n xs (omega (arith, count)) (All-tail (λ y. y ≢ 10) x (take n xs) apart))

is_line : (xs : List ℕ) → StopsAt xs 10 → IsLine xs None
is_line [] stops = inr (refl, tt)
is_line (x ∷ xs) stops = line_by (length (x ∷ xs) - 1) (x ∷ xs) (omega arith) stops

-- what a reader appends up to an LF is a line
pub line_taken : (text text' : List ℕ) → take (length text) text' ≡ text → StopsAt (appended_bytes text text') 10 → TakesLine None None text text'
line_taken text text' begins stops = record {
  line = drop (length text) text';
  appended = sym (take-append-drop (length text) text') ∙ ap (λ (xs : List ℕ). xs ++ drop (length text) text') begins;
  taken = refl;
  is = is_line (drop (length text) text') stops;
}
