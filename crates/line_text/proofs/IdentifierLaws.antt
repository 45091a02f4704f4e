-- Identifiers are text.
use Rattle.std.proofs.Common.{◌≡◌, ℕ, ◌<◌, Bool, true, List, [], ◌∷◌, arith}
use Rattle.std.specs.List.{list_all}
use Rattle.std.specs.Str.{IsAscii}
use Rattle.std.proofs.lemmas.Bool.{and_parts}
use Rattle.std.proofs.lemmas.Str.Ascii.{IsAscii-nil, IsAscii-cons}
use Rattle.line_text.specs.Identifiers.{is_identifier_start, is_identifier_continue, is_identifier}

-- if a test passes only bytes below 128, bytes that all pass the test are ASCII
pub ascii_all : (p : ℕ → Bool) → ((b : ℕ) → p b ≡ true → b < 128) → (bs : List ℕ) → list_all p bs ≡ true → IsAscii bs
ascii_all p small [] e = IsAscii-nil
ascii_all p small (b ∷ bs) e =
    let all = and_parts (p b) (list_all p bs) e in IsAscii-cons b bs (small b all.0) (ascii_all p small bs all.1)

start_small : (b : ℕ) → is_identifier_start b ≡ true → b < 128
start_small b e = grind arith

continue_small : (b : ℕ) → is_identifier_continue b ≡ true → b < 128
continue_small b e = grind (arith, start_small)

-- an identifier is ASCII
pub ascii_identifier : (name : List ℕ) → is_identifier name ≡ true → IsAscii name
unfolding is_identifier
ascii_identifier [] e = absurd cc
ascii_identifier (b ∷ bs) e =
    let all = and_parts (is_identifier_start b) (list_all is_identifier_continue bs) e in
    IsAscii-cons b bs (start_small b all.0) (ascii_all is_identifier_continue continue_small bs all.1)
