-- Names of definitions, looked at one after the other.
use Rattle.std.proofs.Common.{◌≡◌, ℕ, ◌+◌, ◌<◌, Bool, true, false, cond, List, [], ◌∷◌, ◌++◌, length, get_or, take, drop, map, bytes_eq, Some, Result, Ok, Err, refl, sym, ap, ◌∙◌, append_assoc, add-one, drop-cons}
use Rattle.std.proofs.lemmas.List.{append-nil, map-append, map_more}
use Rattle.energy_program.specs.Faults.{Refusal, RepeatedDefinition, ReservedName}
use Rattle.expr.specs.Definitions.{number_from, is_taken, is_given, checked, IsNew, AreNew}
use Rattle.expr.specs.Syntax.{Definition, defined_names}

module _ {X : Type 0} (f : X → Definition) (xs : List X) (i : ℕ) (d : X) (below : i < length xs) where
  pub name_next : defined_names (map f (drop i xs)) ≡ (f (get_or xs i d)).0 ∷ defined_names (map f (drop (i + 1) xs))
  name_next =
      ap (λ (z : List X). defined_names (map f z)) (drop-cons xs i d below)
      ∙ ap (λ (z : ℕ). (f (get_or xs i d)).0 ∷ defined_names (map f (drop z xs))) (sym (add-one i))

  -- the names of one definition more
  pub name_more : defined_names (map f (take (i + 1) xs)) ≡ defined_names (map f (take i xs)) ++ ((f (get_or xs i d)).0 ∷ [])
  name_more = ap defined_names (map_more f xs i d below) ∙ map-append (λ (e : Definition). e.0) (map f (take i xs)) (f (get_or xs i d) ∷ [])

-- ---- the number of a name

-- if the first of the names is this one, its number is the first
pub number_here : (n : ℕ) (names : List (List ℕ)) (w name : List ℕ) (rest : List (List ℕ)) → names ≡ w ∷ rest → bytes_eq w name ≡ true → number_from n names name ≡ Some n
number_here n names w name rest e same = rw (e, same) refl

-- if the first of the names is another, the rest is numbered from the next number
pub number_later : (n : ℕ) (names : List (List ℕ)) (w name : List ℕ) (rest : List (List ℕ)) → names ≡ w ∷ rest → bytes_eq w name ≡ false → number_from n names name ≡ number_from (n + 1) rest name
number_later n names w name rest e other = rw (e, other) refl

-- ---- the turns

-- a name that means something already is refused
pub refused_taken : (vs before names : List (List ℕ)) (w : List ℕ) (rest : List (List ℕ)) → names ≡ w ∷ rest → is_taken vs w ≡ true → checked vs before names ≡ Err (ReservedName w)
unfolding checked
refused_taken vs before names w rest e c = rw (e, c) refl

-- a name that was given before is refused
pub refused_given : (vs before names : List (List ℕ)) (w : List ℕ) (rest : List (List ℕ)) → names ≡ w ∷ rest → is_taken vs w ≡ false → is_given before w ≡ true → checked vs before names ≡ Err (RepeatedDefinition w)
unfolding checked
refused_given vs before names w rest e c d = rw (e, c, d) refl

-- a new name is appended to the names before, and the rest is checked
pub goes_on : (vs before names : List (List ℕ)) (w : List ℕ) (rest : List (List ℕ)) → names ≡ w ∷ rest → is_taken vs w ≡ false → is_given before w ≡ false → checked vs before names ≡ checked vs (before ++ (w ∷ [])) rest
unfolding checked
goes_on vs before names w rest e c d = rw (e, c, d) refl

-- if no name is left, the result is the names before
pub all_checked : (vs before names : List (List ℕ)) → names ≡ [] → checked vs before names ≡ Ok before
unfolding checked
all_checked vs before names e = rw e refl

-- ---- the names that are allowed, and the first that isn't

-- the names before the first that is not new
pub record Before (vs before names : List (List ℕ)) (w : List ℕ) : Type 0 where
  pub front : List (List ℕ)
  pub after : List (List ℕ)
  pub parts : names ≡ front ++ (w ∷ after)
  pub new : AreNew vs before front

-- the names are new, each once, or the error is that of the first that isn't
abbrev pub CheckedMeans : (vs before names : List (List ℕ)) → Result (List (List ℕ)) Refusal → Type 0
CheckedMeans vs before names (Ok all) = AreNew vs before names
CheckedMeans vs before names (Err (ReservedName w)) = Before vs before names w × (is_taken vs w ≡ true)
CheckedMeans vs before names (Err (RepeatedDefinition w)) = (b : Before vs before names w) × (is_taken vs w ≡ false) × (is_given (before ++ b.front) w ≡ true)
CheckedMeans vs before names (Err _) = ⊥

-- one name further
abbrev further : (vs before : List (List ℕ)) (w : List ℕ) (names : List (List ℕ)) → IsNew vs before w → (v : List ℕ) → Before vs (before ++ (w ∷ [])) names v → Before vs before (w ∷ names) v
further vs before w names n v b = record { front = w ∷ b.front; after = b.after; parts = ap (λ (z : List (List ℕ)). w ∷ z) b.parts; new = (n, b.new) }

one_further : (vs before : List (List ℕ)) (w : List ℕ) (names : List (List ℕ)) → IsNew vs before w → (r : Result (List (List ℕ)) Refusal) → CheckedMeans vs (before ++ (w ∷ [])) names r → CheckedMeans vs before (w ∷ names) r
one_further vs before w names n (Ok all) m = (n, m)
one_further vs before w names n (Err (ReservedName v)) m = (further vs before w names n v m.0, m.1)
one_further vs before w names n (Err (RepeatedDefinition v)) m = (further vs before w names n v m.0, m.1, ap (λ (z : List (List ℕ)). is_given z v) (sym (append_assoc before (w ∷ []) m.0.front)) ∙ m.2)
one_further vs before w names n (Err _) m = m

-- checking names follows the rules for names
pub checked_means : (vs before names : List (List ℕ)) → CheckedMeans vs before names (checked vs before names)
unfolding checked
checked_means vs before [] = tt
checked_means vs before (w ∷ names) = by_test (checked_means vs (before ++ (w ∷ [])) names) (is_taken vs w) (is_given before w) refl refl
  where
    by_test : CheckedMeans vs (before ++ (w ∷ [])) names (checked vs (before ++ (w ∷ [])) names) → (c d : Bool) → is_taken vs w ≡ c → is_given before w ≡ d
        → CheckedMeans vs before (w ∷ names) (cond c (Err (ReservedName w)) (cond d (Err (RepeatedDefinition w)) (checked vs (before ++ (w ∷ [])) names)))
    by_test later true d t g = (record { front = []; after = names; parts = refl; new = tt }, t)
    by_test later false true t g = (record { front = []; after = names; parts = refl; new = tt }, t, ap (λ (z : List (List ℕ)). is_given z w) (append-nil before) ∙ g)
    by_test later false false t g = one_further vs before w names (record { free = t; first = g }) (checked vs (before ++ (w ∷ [])) names) later

names_ok : List (List ℕ) → Result (List (List ℕ)) Refusal
names_ok z = Ok z

-- names that are new, and each once, pass
pub new_checked : (vs before names : List (List ℕ)) → AreNew vs before names → checked vs before names ≡ Ok (before ++ names)
unfolding checked names_ok
new_checked vs before [] n = ap names_ok (sym (append-nil before))
new_checked vs before (w ∷ names) n = rw (n.0.free, n.0.first) (new_checked vs (before ++ (w ∷ [])) names n.1 ∙ ap names_ok (append_assoc before (w ∷ []) names))
