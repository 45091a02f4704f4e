-- Lines of a table, text by text.
use Rattle.std.proofs.Common.{◌≡◌, ◌-◌, ◌<◌, List, [], ◌∷◌, ◌++◌, ℕ, map, length, take, length-append, append_assoc, append-nil, sym, ap, ◌∙◌, arith, take_at}
use Rattle.std.specs.List.{flat_map, join_with_byte}
use Rattle.observables.specs.Columns.{line_of}

-- texts with a space after each
abbrev pub spaced : {X : Type 0} → (X → List ℕ) → List X → List ℕ
spaced text xs = flat_map (λ x. text x ++ 32 ∷ []) xs

-- Texts with a space after each are texts separated by a space, and a space.
pub spaced_is : {X : Type 0} (text : X → List ℕ) (xs : List X) → 0 < length xs → spaced text xs ≡ join_with_byte 32 (map text xs) ++ 32 ∷ []
spaced_is text [] h = absurd (omega arith)
spaced_is text (x ∷ []) h = append-nil (text x ++ 32 ∷ [])
spaced_is text (x ∷ (y ∷ ys)) h =
    append_assoc (text x) (32 ∷ []) (spaced text (y ∷ ys))
    ∙ ap (λ t. text x ++ 32 ∷ t) (spaced_is text (y ∷ ys) (omega arith))
    ∙ sym (append_assoc (text x) (32 ∷ join_with_byte 32 (map text (y ∷ ys))) (32 ∷ []))

-- If the last space becomes a LF, they are a line.
pub ended_line : {X : Type 0} (text : X → List ℕ) (front old new : List ℕ) (xs : List X) → 0 < length xs → old ≡ front ++ spaced text xs
    → new ≡ take (length old - 1) old ++ 10 ∷ [] → new ≡ front ++ line_of (map text xs)
ended_line text front old new xs some o n =
    let words = join_with_byte 32 (map text xs) in
    let whole : old ≡ (front ++ words) ++ 32 ∷ [] = o ∙ ap (λ t. front ++ t) (spaced_is text xs some) ∙ sym (append_assoc front words (32 ∷ [])) in
    let shorter : length (front ++ words) ≡ length old - 1 = omega (arith, ap length whole, length-append (front ++ words) (32 ∷ [])) in
    n
    ∙ ap (λ t. t ++ 10 ∷ []) (ap (λ t. take (length old - 1) t) whole ∙ take_at (front ++ words) (32 ∷ []) (length old - 1) shorter)
    ∙ append_assoc front words (10 ∷ [])
